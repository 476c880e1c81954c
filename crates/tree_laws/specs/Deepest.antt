-- The deepest layout other than 0 on both paths of two jobs that share, on which the pair prints (document 01, "The tree and the running order", as 2026-01 changed it).
use Rattle.std.specs.Prelude.{ℕ, ◌≡◌, Bool, true, get_or}
use Rattle.std.proofs.Math.Path.{refl}
use Rattle.std.proofs.Math.Bool.{and-eq-true_iff}
use Rattle.std.proofs.Common.{⊎_elim, arith}
use mathlib.Core.List.{List, [], ◌∷◌, head_d}
use Rattle.std.proofs.Math.Decide.{dec_le}
use Rattle.model.specs.Lists.{elem, all_of, select, All, AllPairs}
use Rattle.model.specs.Tree.{FFFF, depth}
use Rattle.model.specs.Jobs.{Table, bottom, path_from, own_path, shares, shared_layouts, deepest_shared}
use Rattle.model.specs.Grouping.{common_layouts, deepest_common}
use Rattle.laws.specs.Lists.{mem_all, mem_elem, elem_mem, any_mem, select_mem, mem_select, select_pairwise, head_mem, head_first}
use Rattle.tree_laws.specs.WellFormed.{Tree}
use Rattle.tree_laws.specs.Ancestors.{AncestorOrSelf, self, up, ancestor_trans, ancestor_linear}
use Rattle.tree_laws.specs.Paths.{path_one, path_up, path_ancestor}
use Rattle.tree_laws.specs.Sharing.{Downward, On, own_on, on_own}

-- a path leads up: each later layout is an ancestor of each earlier
module _ (ps : List ℕ) (t : Tree ps) where
  path_rises : {u b : ℕ} → AncestorOrSelf ps u b → AllPairs (λ (x y : ℕ). AncestorOrSelf ps y x) (path_from ps u b)
  path_rises (self {x = b}) = rw (path_one ps t b) (tt, tt)
  path_rises (up {u = u} {x = b} h a) = rw (path_up ps t u b h a) (mem_all (λ (y : ℕ). AncestorOrSelf ps y b) (path_from ps u (get_or ps b 0)) (λ y m. up h (path_ancestor ps t y a (mem_elem m)).0), path_rises a)

module _ (tb : Table) (t : Tree tb.parents) where
  -- ---- the deepest layout on the own path of a job that passes a test: the first of them

  abbrev deepest_of : ℕ → (ℕ → Bool) → ℕ
  deepest_of i p = head_d (select p (own_path tb i)) FFFF

  -- if one passes, it lies on the path and passes
  deepest_passes : (i : ℕ) (p : ℕ → Bool) {x : ℕ} → Downward tb i → On tb x i → p x ≡ true → On tb (deepest_of i p) i × (p (deepest_of i p) ≡ true)
  deepest_passes i p {x} a o e =
      let m = head_mem FFFF (mem_select p (elem_mem x (own_path tb i) (on_own tb t i o)) e) in
      let s = select_mem p (own_path tb i) m in
      (own_on tb t i a s.0, s.1)

  -- every one that passes is an ancestor of it
  deepest_above : (i : ℕ) (p : ℕ → Bool) {x : ℕ} → On tb x i → p x ≡ true → AncestorOrSelf tb.parents x (deepest_of i p)
  deepest_above i p {x} o e =
      let ps : List ℕ = tb.parents in
      let m = mem_select p (elem_mem x (own_path tb i) (on_own tb t i o)) e in
      let rises = select_pairwise p (λ (x y : ℕ). AncestorOrSelf ps y x) (own_path tb i) (rw o.own_path_lem.path_is (path_rises ps t o.own_path_lem.above)) in
      ⊎_elim (λ (e : x ≡ deepest_of i p). rw e self) (λ h. h) (head_first (λ (x y : ℕ). AncestorOrSelf ps y x) FFFF rises m)

  -- ---- of a group

  abbrev on_all : List ℕ → ℕ → Bool
  on_all js x = all_of (λ (j : ℕ). elem x (own_path tb j)) js

  -- the layout x lies on the path of every job of the list
  abbrev pub OnAll : ℕ → List ℕ → Type 0
  OnAll x js = All (On tb x) js

  on_all_lem : (x : ℕ) (js : List ℕ) → OnAll x js → on_all js x ≡ true
  unfolding all_of
  on_all_lem x [] a = refl
  on_all_lem x (j ∷ js) a = rw (on_own tb t j a.0) (on_all_lem x js a.1)

  all_on : (x : ℕ) (js : List ℕ) → All (Downward tb) js → on_all js x ≡ true → OnAll x js
  unfolding all_of
  all_on x [] d e = tt
  all_on x (j ∷ js) d e =
      let both = (and-eq-true_iff (elem x (own_path tb j)) (on_all js x)).0 e in
      (own_on tb t j d.0 (elem_mem x (own_path tb j) both.0), all_on x js d.1 both.1)

  module _ (i : ℕ) (js : List ℕ) (down : All (Downward tb) (i ∷ js)) (x : ℕ) (common : OnAll x (i ∷ js)) where
    -- the deepest common layout lies on all paths
    pub common_on : OnAll (deepest_common tb (i ∷ js)) (i ∷ js)
    unfolding deepest_common common_layouts
    common_on =
        let d = deepest_passes i (on_all js) down.0 common.0 (on_all_lem x js common.1) in
        (d.0, all_on (deepest_of i (on_all js)) js down.1 d.1)

    -- and every layout on all paths is an ancestor of it
    pub common_above : (u : ℕ) → OnAll u (i ∷ js) → AncestorOrSelf tb.parents u (deepest_common tb (i ∷ js))
    unfolding deepest_common common_layouts
    common_above u o = deepest_above i (on_all js) o.0 (on_all_lem u js o.1)

    -- and so is every common ancestor of the bottoms: if it were below it, it would lie on all paths
    pub common_lowest : (u : ℕ) → All (λ (j : ℕ). AncestorOrSelf tb.parents u (bottom tb j)) (i ∷ js) → AncestorOrSelf tb.parents u (deepest_common tb (i ∷ js))
    common_lowest u a = elim (dec_le (depth ps u) (depth ps deepest)) [
      | yes d ↦ ancestor_linear ps t a.0 common_on.0.lower d
      | no d ↦ common_above u (inside (i ∷ js) common_on a (ancestor_linear ps t common_on.0.lower a.0 (omega arith)))
    ]
      where
        ps : List ℕ
        ps = tb.parents

        deepest : ℕ
        deepest = deepest_common tb (i ∷ js)

        inside : (l : List ℕ) → OnAll deepest l → All (λ (j : ℕ). AncestorOrSelf ps u (bottom tb j)) l → AncestorOrSelf ps deepest u → OnAll u l
        inside [] o b h = tt
        inside (j ∷ l) o b h = (record { own_path_lem = o.0.own_path_lem; lower = b.0; upper = ancestor_trans ps t o.0.upper h }, inside l o.1 b.1 h)

  -- ---- of two jobs

  -- if the jobs share, it lies on both paths
  pub deepest_on : (i j : ℕ) → Downward tb i → Downward tb j → shares tb i j ≡ true → On tb (deepest_shared tb i j) i × On tb (deepest_shared tb i j) j
  unfolding shares deepest_shared shared_layouts
  deepest_on i j a b e =
      let r = any_mem (λ (x : ℕ). elem x (own_path tb j)) (own_path tb i) e in
      let d = deepest_passes i (λ (x : ℕ). elem x (own_path tb j)) a (own_on tb t i a r.1.0) r.1.1 in
      (d.0, own_on tb t j b (elem_mem (deepest_shared tb i j) (own_path tb j) d.1))

  -- every layout on both paths is an ancestor of it
  pub deepest_below : {x : ℕ} (i j : ℕ) → On tb x i → On tb x j → AncestorOrSelf tb.parents x (deepest_shared tb i j)
  unfolding deepest_shared shared_layouts
  deepest_below i j p q = deepest_above i (λ (x : ℕ). elem x (own_path tb j)) p (on_own tb t j q)

  -- and so is every common ancestor of the bottoms: if it were below the deepest shared one, it would lie on both paths
  pub deepest_common_lem : {x : ℕ} (i j : ℕ) → Downward tb i → Downward tb j → shares tb i j ≡ true
      → AncestorOrSelf tb.parents x (bottom tb i) → AncestorOrSelf tb.parents x (bottom tb j) → AncestorOrSelf tb.parents x (deepest_shared tb i j)
  deepest_common_lem {x} i j a b e p q = elim (dec_le (depth ps x) (depth ps deepest)) [
    | yes d ↦ ancestor_linear ps t p on.0.lower d
    | no d ↦ shared (ancestor_linear ps t on.0.lower p (omega arith))
  ]
    where
      ps : List ℕ
      ps = tb.parents

      deepest : ℕ
      deepest = deepest_shared tb i j

      on : On tb deepest i × On tb deepest j
      on = deepest_on i j a b e

      shared : AncestorOrSelf ps deepest x → AncestorOrSelf ps x deepest
      shared h = deepest_below i j (record { own_path_lem = on.0.own_path_lem; lower = p; upper = ancestor_trans ps t on.0.upper h }) (record { own_path_lem = on.1.own_path_lem; lower = q; upper = ancestor_trans ps t on.1.upper h })
