-- The ancestors of a layout, its depth, and "u is x or an ancestor of it" as a relation (document 01, "The tree and the running order").
use Prim.Native.Nat.{ℕ, zero, suc, pred, ◌≤◌, ◌<◌}
use Rattle.std.specs.Prelude.{◌≡◌, true, ◌||◌, ◌⊎◌, length, eqb}
use Rattle.std.proofs.Math.Path.{refl, ap}
use Rattle.std.proofs.Common.{sym, ◌∙◌, inl, inr, ⊎_elim, le_antisymm, eqb-true, eq-eqb}
use Rattle.std.proofs.Math.Bool.{or-false}
use mathlib.Core.List.{List, [], ◌∷◌}
use native.Mathlib.Omega.{arith}
use Rattle.std.proofs.Math.ListN.{get_or}
use Rattle.model.specs.Lists.{elem}
use Rattle.model.specs.Tree.{ascend, ancestors, ancestor_or_self, depth}
use Rattle.laws.specs.Booleans.{or_cases, or_right}
use Rattle.tree_laws.specs.WellFormed.{Tree}

-- u is x or an ancestor of it, step by step
pub data AncestorOrSelf (ps : List ℕ) : ℕ → ℕ → Type 0 where
  self : {x : ℕ} → AncestorOrSelf ps x x
  up : {u x : ℕ} → 0 < x → AncestorOrSelf ps u (get_or ps x 0) → AncestorOrSelf ps u x

module _ (ps : List ℕ) (t : Tree ps) where
  -- more steps than x change nothing: each step leads to a smaller number
  ascend_enough : (n m x : ℕ) → x ≤ n → x ≤ m → ascend n ps x ≡ ascend m ps x
  unfolding ascend
  ascend_enough zero zero x h k = refl
  ascend_enough zero (suc m) zero h k = refl
  ascend_enough zero (suc m) (suc x) h k = absurd (omega arith)
  ascend_enough (suc n) zero zero h k = refl
  ascend_enough (suc n) zero (suc x) h k = absurd (omega arith)
  ascend_enough (suc n) (suc m) zero h k = refl
  ascend_enough (suc n) (suc m) (suc x) h k =
      let below : get_or ps (suc x) 0 < suc x = t.smaller (suc x) (omega arith) in
      ap (λ (l : List ℕ). suc x ∷ l) (ascend_enough n m (get_or ps (suc x) 0) (omega arith) (omega arith))

  -- layout 0 has no ancestor
  pub ancestors_root : ancestors ps 0 ≡ 0 ∷ []
  unfolding ancestors ascend
  ancestors_root = refl

  -- a layout's list of ancestors is the layout, and then its parent's list
  pub ancestors_child : (x : ℕ) → 0 < x → ancestors ps x ≡ x ∷ ancestors ps (get_or ps x 0)
  unfolding ancestors ascend
  ancestors_child zero h = absurd (omega arith)
  ancestors_child (suc x) h =
      let below : get_or ps (suc x) 0 < suc x = t.smaller (suc x) h in
      ap (λ (l : List ℕ). suc x ∷ l) (ascend_enough x (get_or ps (suc x) 0) (get_or ps (suc x) 0) (omega arith) (omega arith))

  -- it has at least the layout itself
  ancestors_nonempty : (x : ℕ) → 0 < length (ancestors ps x)
  unfolding ancestors ascend
  ancestors_nonempty zero = omega arith
  ancestors_nonempty (suc x) = omega arith

  -- layout 0 has depth 0
  pub depth_root : depth ps 0 ≡ 0
  unfolding depth
  depth_root = rw ancestors_root

  -- a child is one deeper than its parent
  pub depth_child : (x : ℕ) → 0 < x → depth ps x ≡ suc (depth ps (get_or ps x 0))
  unfolding depth
  depth_child x h =
      let longer : pred (length (x ∷ ancestors ps (get_or ps x 0))) ≡ suc (pred (length (ancestors ps (get_or ps x 0)))) = omega (arith, ancestors_nonempty (get_or ps x 0)) in
      rw (ancestors_child x h) longer

  -- layout 0 is an ancestor of every layout: each way up ends there
  pub ancestor_root : (x : ℕ) → AncestorOrSelf ps 0 x
  ancestor_root x = ascending x x (omega arith)
    where
      ascending : (n x : ℕ) → x ≤ n → AncestorOrSelf ps 0 x
      ascending zero zero h = self
      ascending (suc n) zero h = self
      ascending zero (suc x) h = absurd (omega arith)
      ascending (suc n) (suc x) h =
          let below : get_or ps (suc x) 0 < suc x = t.smaller (suc x) (omega arith) in
          up {x = suc x} (omega arith) (ascending n (get_or ps (suc x) 0) (omega arith))

  -- a layout is its own ancestor or self
  pub ancestor_refl : (x : ℕ) → AncestorOrSelf ps x x
  ancestor_refl x = self

  -- the relation is transitive: the upper way goes on where the lower ends
  pub ancestor_trans : {u v x : ℕ} → AncestorOrSelf ps u v → AncestorOrSelf ps v x → AncestorOrSelf ps u x
  ancestor_trans a self = a
  ancestor_trans a (up h b) = up h (ancestor_trans a b)

  -- it is the layout itself or one of its parent's
  pub ancestor_cases : {u x : ℕ} → AncestorOrSelf ps u x → (u ≡ x) ⊎ ((0 < x) × AncestorOrSelf ps u (get_or ps x 0))
  ancestor_cases self = inl refl
  ancestor_cases (up h a) = inr (h, a)

  -- an ancestor has a number no greater
  pub ancestor_le : {u x : ℕ} → AncestorOrSelf ps u x → u ≤ x
  ancestor_le self = omega arith
  ancestor_le (up {x = x} h a) = omega (arith, ancestor_le a, t.smaller x h)

  -- and a depth no greater
  pub ancestor_depth : {u x : ℕ} → AncestorOrSelf ps u x → depth ps u ≤ depth ps x
  ancestor_depth self = omega arith
  ancestor_depth (up {x = x} h a) = omega (arith, ancestor_depth a, depth_child x h)

  -- of two ancestors of one layout the shallower is an ancestor of the deeper: go up until the deeper is met
  pub ancestor_linear : {u v x : ℕ} → AncestorOrSelf ps u x → AncestorOrSelf ps v x → depth ps u ≤ depth ps v → AncestorOrSelf ps u v
  ancestor_linear a self d = a
  ancestor_linear self (up {x = x} h b) d = absurd (omega (arith, ancestor_depth b, depth_child x h))
  ancestor_linear (up h a) (up k b) d = ancestor_linear a b d

  -- two ancestors at the same depth are one
  pub ancestor_same : {u v x : ℕ} → AncestorOrSelf ps u x → AncestorOrSelf ps v x → depth ps u ≡ depth ps v → u ≡ v
  ancestor_same a b d = le_antisymm (ancestor_le (ancestor_linear a b (omega arith))) (ancestor_le (ancestor_linear b a (omega arith)))

  -- the test, step by step
  ancestor_zero : (u : ℕ) → ancestor_or_self ps u 0 ≡ eqb u 0
  unfolding ancestor_or_self elem
  ancestor_zero u = rw ancestors_root (or-false (eqb u 0))

  ancestor_step : (u x : ℕ) → 0 < x → ancestor_or_self ps u x ≡ (eqb u x || ancestor_or_self ps u (get_or ps x 0))
  unfolding ancestor_or_self elem
  ancestor_step u x h = rw (ancestors_child x h)

  -- where the test passes, the relation holds: both go the same way up
  pub ancestor_true : (u x : ℕ) → ancestor_or_self ps u x ≡ true → AncestorOrSelf ps u x
  ancestor_true u x e = ascending (ancestor_root x) e
    where
      ascending : {x : ℕ} → AncestorOrSelf ps 0 x → ancestor_or_self ps u x ≡ true → AncestorOrSelf ps u x
      ascending self e = rw (eqb-true u 0 (sym (ancestor_zero u) ∙ e)) self
      ascending (up {x = x} h a) e = ⊎_elim
          (λ (e : eqb u x ≡ true). rw (eqb-true u x e) self)
          (λ (e : ancestor_or_self ps u (get_or ps x 0) ≡ true). up h (ascending a e))
          (or_cases (eqb u x) (ancestor_or_self ps u (get_or ps x 0)) (sym (ancestor_step u x h) ∙ e))

  self_ancestor : (x : ℕ) → ancestor_or_self ps x x ≡ true
  self_ancestor zero = ancestor_zero 0 ∙ eq-eqb 0 0 refl
  self_ancestor (suc x) = ancestor_step (suc x) (suc x) (omega arith) ∙ (rw (eq-eqb (suc x) (suc x) refl))

  -- and where the relation holds, the test passes
  pub true_ancestor : {u x : ℕ} → AncestorOrSelf ps u x → ancestor_or_self ps u x ≡ true
  true_ancestor {u} self = self_ancestor u
  true_ancestor (up {u = u} {x = x} h a) = ancestor_step u x h ∙ or_right (eqb u x) (ancestor_or_self ps u (get_or ps x 0)) (true_ancestor a)

-- ---- how many

-- n steps up meet at most n layouts more
ascend_length : (n : ℕ) (ps : List ℕ) (x : ℕ) → length (ascend n ps x) ≤ suc n
unfolding ascend
ascend_length zero ps x = omega arith
ascend_length (suc n) ps zero = omega arith
ascend_length (suc n) ps (suc x) = omega (arith, ascend_length n ps (get_or ps (suc x) 0))

-- a layout is no deeper than its number
pub depth_le : (ps : List ℕ) (x : ℕ) → depth ps x ≤ x
unfolding depth ancestors
depth_le ps x =
    let h : pred (length (ascend x ps x)) ≤ x = omega (arith, ascend_length x ps x) in
    h
