-- The path from a layout up to an ancestor: which layouts lie on it, and where it ends.
use Prim.Native.Nat.{ℕ, zero, suc, ◌<◌}
use Rattle.std.specs.Prelude.{◌≡◌, true, ◌↔◌, List, [], ◌∷◌, get_or}
use Rattle.std.proofs.Math.Path.{refl}
use Rattle.std.proofs.Common.{sym, ◌∙◌, le_antisymm, arith}
use Rattle.std.proofs.Math.Bool.{or-false}
use Rattle.std.proofs.Math.Logic.{⊎_elim}
use Rattle.std.proofs.Math.Dec.{eqb}
use borrow.Author.Tests.{eqb-true, eq-eqb, ne_eqb}
use Rattle.model.specs.Lists.{elem, last_d}
use Rattle.model.specs.Jobs.{up_to, path_from}
use Rattle.laws.specs.Booleans.{or_cases, or_right}
use Rattle.tree_laws.specs.WellFormed.{Tree}
use Rattle.tree_laws.specs.Ancestors.{AncestorOrSelf, self, up, ancestors_root, ancestors_child, ancestor_cases, ancestor_le}

module _ (ps : List ℕ) (t : Tree ps) where
  -- the path of a single layout, and of a bottom below its top
  pub path_one : (b : ℕ) → path_from ps b b ≡ b ∷ []
  unfolding path_from up_to
  path_one zero = rw (ancestors_root ps t)
  path_one (suc b) = rw (ancestors_child ps t (suc b) (omega arith), eq-eqb (suc b) (suc b) refl)

  pub path_up : (u b : ℕ) → 0 < b → AncestorOrSelf ps u (get_or ps b 0) → path_from ps u b ≡ b ∷ path_from ps u (get_or ps b 0)
  unfolding path_from up_to
  path_up u b h a = rw (ancestors_child ps t b h, ne_eqb b u (λ e. omega (arith, ancestor_le ps t a, t.smaller b h)))

  -- what lies on the path from b up to u is an ancestor of b and a descendant of u, or one of them: the path is the ancestors of b up to u
  pub path_ancestor : (x : ℕ) {u b : ℕ} → AncestorOrSelf ps u b → elem x (path_from ps u b) ≡ true → AncestorOrSelf ps x b × AncestorOrSelf ps u x
  unfolding elem
  path_ancestor x (self {x = b}) e =
      let same : x ≡ b = eqb-true x b (sym (or-false (eqb x b)) ∙ (rw (path_one b) at e)) in
      (rw same self, rw same self)
  path_ancestor x (up {u = u} {x = b} h a) e = ⊎_elim
      (λ (e : eqb x b ≡ true). let same : x ≡ b = eqb-true x b e in (rw same self, rw same (up h a)))
      (λ (e : elem x (path_from ps u (get_or ps b 0)) ≡ true). let r = path_ancestor x a e in (up h r.0, r.1))
      (or_cases (eqb x b) (elem x (path_from ps u (get_or ps b 0))) (rw (path_up u b h a) at e))

  -- and all such layouts lie on it
  pub ancestor_path : {x u b : ℕ} → AncestorOrSelf ps u b → AncestorOrSelf ps x b → AncestorOrSelf ps u x → elem x (path_from ps u b) ≡ true
  unfolding elem
  ancestor_path {x} (self {x = b}) below upper = rw (path_one b, eq-eqb x b (le_antisymm (ancestor_le ps t below) (ancestor_le ps t upper)))
  ancestor_path {x} (up {u = u} {x = b} h a) below upper = rw (path_up u b h a) (⊎_elim
      (λ (same : x ≡ b). rw (eq-eqb x b same))
      (λ (r : (0 < b) × AncestorOrSelf ps x (get_or ps b 0)). or_right (eqb x b) (elem x (path_from ps u (get_or ps b 0))) (ancestor_path a r.1 upper))
      (ancestor_cases ps t below))

  -- x lies on the path from b up to u exactly if it is an ancestor of b and u is one of it
  pub on_path : (x : ℕ) {u b : ℕ} → AncestorOrSelf ps u b → (elem x (path_from ps u b) ≡ true) ↔ (AncestorOrSelf ps x b × AncestorOrSelf ps u x)
  on_path x a = (path_ancestor x a, λ h. ancestor_path a h.0 h.1)

  -- it ends at u
  pub path_last : {u b : ℕ} (d : ℕ) → AncestorOrSelf ps u b → last_d (path_from ps u b) d ≡ u
  unfolding last_d
  path_last d (self {x = b}) = rw (path_one b) refl
  path_last d (up {u = u} {x = b} h a) = rw (path_up u b h a) (path_last b a)
