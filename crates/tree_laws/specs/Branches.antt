-- The branch of a layout: its highest ancestor other than layout 0, itself included. A path leads, layout 0 left out, up to its top or, where that is layout 0,
-- up to the branch of its bottom.
use Prim.Native.Nat.{ℕ, ◌<◌}
use Rattle.std.specs.Prelude.{◌≡◌, List, [], ◌∷◌}
use Rattle.std.proofs.Math.Path.{refl, sym}
use Rattle.std.proofs.Common.{ap, ◌∙◌, arith}
use Rattle.std.proofs.Math.Decide.{ℕ_discrete}
use Rattle.std.proofs.Math.ListN.{get_or}
use Rattle.model.specs.Lists.{select, last_d, without}
use Rattle.model.specs.Tree.{ancestors}
use Rattle.model.specs.Jobs.{path_from}
use Rattle.laws.specs.Lists.{mem_elem}
use Rattle.laws.specs.Without.{without_none, without_keep}
use Rattle.tree_laws.specs.WellFormed.{Tree}
use Rattle.tree_laws.specs.Ancestors.{AncestorOrSelf, self, up, ancestors_root, ancestors_child, ancestor_root, ancestor_le}
use Rattle.tree_laws.specs.Paths.{path_one, path_up, path_ancestor}

-- the highest ancestor of x other than layout 0; 0 for layout 0 itself
unfoldable pub branch : List ℕ → ℕ → ℕ
branch ps x = last_d (without 0 (ancestors ps x)) 0

module _ (ps : List ℕ) (t : Tree ps) where
  pub branch_root : branch ps 0 ≡ 0
  unfolding branch without select last_d
  branch_root = rw (ancestors_root ps t) refl

  -- of x it is the last of its parent's ancestors, or x where there is none
  branch_last : (x : ℕ) → 0 < x → branch ps x ≡ last_d (without 0 (ancestors ps (get_or ps x 0))) x
  unfolding branch last_d
  branch_last x h = rw (ancestors_child ps t x h, without_keep 0 x (ancestors ps (get_or ps x 0)) (λ e. omega arith)) refl

  -- a child of layout 0 is its own branch
  pub branch_child : (x : ℕ) → 0 < x → get_or ps x 0 ≡ 0 → branch ps x ≡ x
  unfolding without select last_d
  branch_child x h e = branch_last x h ∙ rw (e, ancestors_root ps t) refl

  -- any other layout has its parent's
  pub branch_parent : (x : ℕ) → 0 < x → 0 < get_or ps x 0 → branch ps x ≡ branch ps (get_or ps x 0)
  unfolding last_d
  branch_parent x h k =
      let p : ℕ = get_or ps x 0 in
      branch_last x h
      ∙ rw (ancestors_child ps t p k, without_keep 0 p (ancestors ps (get_or ps p 0)) (λ e. omega arith)) refl
      ∙ sym (branch_last p k)

  -- it is an ancestor of x or x itself, and no layout 0
  pub branch_ancestor : (x : ℕ) → 0 < x → AncestorOrSelf ps (branch ps x) x × (0 < branch ps x)
  branch_ancestor x h = ascending (ancestor_root ps t x) h
    where
      ascending : {x : ℕ} → AncestorOrSelf ps 0 x → 0 < x → AncestorOrSelf ps (branch ps x) x × (0 < branch ps x)
      ascending self k = absurd (omega arith)
      ascending (up {x = x} k a) _ = elim (ℕ_discrete (get_or ps x 0) 0) [
        | yes e ↦ rw (branch_child x k e) (self, k)
        | no e ↦
            let some : 0 < get_or ps x 0 = omega arith in
            let r = ascending a some in
            rw (branch_parent x k some) (up k r.0, r.1)
      ]

  -- ---- paths without layout 0

  -- the path of layout 0 alone has nothing else
  pub path_bare : without 0 (path_from ps 0 0) ≡ []
  unfolding without select
  path_bare = rw (path_one ps t 0) refl

  -- a path that ends below layout 0 does not meet it
  pub path_proper : {u b : ℕ} → 0 < u → AncestorOrSelf ps u b → without 0 (path_from ps u b) ≡ path_from ps u b
  path_proper {u} {b} h a =
      without_none 0 (path_from ps u b) (λ x m e. omega (arith, ancestor_le ps t (path_ancestor ps t x a (mem_elem m)).1))

  -- a path up to layout 0 is, without it, the path up to the branch of its bottom
  pub path_branch : (b : ℕ) → 0 < b → without 0 (path_from ps 0 b) ≡ path_from ps (branch ps b) b
  path_branch b h = ascending (ancestor_root ps t b) h
    where
      ascending : {b : ℕ} → AncestorOrSelf ps 0 b → 0 < b → without 0 (path_from ps 0 b) ≡ path_from ps (branch ps b) b
      ascending self k = absurd (omega arith)
      ascending (up {x = b} k a) _ =
          let p : ℕ = get_or ps b 0 in
          let first : without 0 (path_from ps 0 b) ≡ b ∷ without 0 (path_from ps 0 p) = rw (path_up ps t 0 b k a, without_keep 0 b (path_from ps 0 p) (λ e. omega arith)) refl in
          elim (ℕ_discrete p 0) [
            | yes e ↦ first ∙ rw (e, path_bare, branch_child b k e, path_one ps t b) refl
            | no e ↦
                let some : 0 < p = omega arith in
                first
                ∙ ap (λ (l : List ℕ). b ∷ l) (ascending a some)
                ∙ rw (branch_parent b k some, path_up ps t (branch ps p) b k (branch_ancestor p some).0) refl
          ]
