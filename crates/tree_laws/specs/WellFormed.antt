-- What an accepted list of parents has: layout 0 at its head, and for each later layout a parent with a smaller number.
use Prim.Native.Nat.{ℕ, zero, suc, ◌+◌, ◌≤◌, ◌<◌}
use Rattle.std.specs.Prelude.{◌≡◌, true, List, [], ◌∷◌, ◌++◌, length, get_or}
use Rattle.std.proofs.Common.{zero-add, add-zero, suc-add, add-suc}
use Rattle.std.proofs.Math.Decide.{dec_lt}
use native.Mathlib.Omega.{arith}
use Rattle.std.proofs.Math.ListN.{get_or-eq_default}
use borrow.Author.Tests.{ltb-true, eqb-true}
use Rattle.model.specs.Verdict.{accepted}
use Rattle.model.specs.Tree.{FFFF, layout_limit, right_parent, layouts_from, tree_verdict}
use Rattle.laws.specs.Verdicts.{passed}

-- a list of parents that is a tree. Past the end `get_or` gives 0, so `smaller` holds of every number
pub record Tree (ps : List ℕ) : Type 0 where
  pub nonempty : 0 < length ps
  pub root : get_or ps 0 0 ≡ FFFF
  pub smaller : (x : ℕ) → 0 < x → get_or ps x 0 < x
  pub small : length ps ≤ layout_limit

-- every layout has a right parent: the first has, and so have the rest
right_parents : (x : ℕ) (ps : List ℕ) → layouts_from x ps ≡ accepted → (i : ℕ) → i < length ps → right_parent (x + i) (get_or ps i 0) ≡ true
unfolding layouts_from
right_parents x [] e i h = let no_place : ⊥ = omega arith in absurd no_place
right_parents x (p ∷ ps) e zero h = rw add-zero (passed (right_parent x p) 4 x (layouts_from (suc x) ps) e).0
right_parents x (p ∷ ps) e (suc i) h = rw (add-suc, ← suc-add) (right_parents (suc x) ps (passed (right_parent x p) 4 x (layouts_from (suc x) ps) e).1 i (omega arith))

-- right parents stay right with one more at the end
pub layouts_more : (x : ℕ) (ps : List ℕ) (p : ℕ) → layouts_from x ps ≡ accepted → right_parent (x + length ps) p ≡ true → layouts_from x (ps ++ p ∷ []) ≡ accepted
unfolding layouts_from
layouts_more x [] p e r = let right : right_parent x p ≡ true = rw add-zero at r in rw right
layouts_more x (q ∷ ps) p e r =
    let first = passed (right_parent x q) 4 x (layouts_from (suc x) ps) e in
    let last : right_parent (suc x + length ps) p ≡ true = rw (suc-add, ← add-suc) r in
    rw (first.0, layouts_more (suc x) ps p first.1 last)

module _ (ps : List ℕ) (right : (i : ℕ) → i < length ps → right_parent i (get_or ps i 0) ≡ true) where
  -- a parent is smaller: by the test inside the list, and past its end it is 0
  parent_smaller : (x : ℕ) → 0 < x → get_or ps x 0 < x
  unfolding right_parent
  parent_smaller zero h = omega arith
  parent_smaller (suc x) h = elim (dec_lt (suc x) (length ps)) [
    | yes inside ↦ ltb-true (get_or ps (suc x) 0) (suc x) (right (suc x) inside)
    | no outside ↦ rw (get_or-eq_default ps 0 {n = suc x} (omega arith)) h
  ]

  root_parent : 0 < length ps → get_or ps 0 0 ≡ FFFF
  unfolding right_parent
  root_parent h = eqb-true (get_or ps 0 0) FFFF (right 0 h)

-- an accepted list of parents is a tree
pub well_formed : (ps : List ℕ) → tree_verdict ps ≡ accepted → length ps ≤ layout_limit → Tree ps
unfolding tree_verdict
well_formed [] e small = let apart : ◌≡◌ {A = ℕ} 0 1 = cc in absurd (omega arith)
well_formed (p ∷ ps) e small = record { nonempty = omega arith; root = root_parent (p ∷ ps) right (omega arith); smaller = parent_smaller (p ∷ ps) right; small = small }
  where
    right : (i : ℕ) → i < length (p ∷ ps) → right_parent i (get_or (p ∷ ps) i 0) ≡ true
    right i h = rw zero-add at (right_parents 0 (p ∷ ps) e i h)
