-- The lowest common ancestor of two layouts is the smallest of the two and of the parents of the layouts whose first leaf lies after that of the left one, up to
-- that of the right one. Such a layout stands below it, so its parent is no smaller; and one of them is its child.
use Prim.Native.Nat.{ℕ, ◌+◌, ◌-◌, ◌≤◌, ◌<◌, min, max}
use mathlib.Core.Path.{◌≡◌, refl, ap, ◌∙◌}
use mathlib.Core.Bool.{true, false}
use mathlib.Core.Logic.{⊎_elim}
use mathlib.Core.List.{List, Memᴰ as Mem}
use native.Mathlib.Nat.{le_antisymm}
use native.Mathlib.Decide.{ℕ_discrete, dec_le}
use native.Mathlib.Omega.{arith}
use lib.ListN.{length, get_or}
use borrow.Author.Tests.{eq-eqb, ne_eqb}
use Rattle.model.specs.Tree.{FFFF, depth, children, first_leaf, ancestor_or_self}
use Rattle.laws.specs.Booleans.{answers, one_answer}
use Rattle.laws.specs.Least.{least_of, least_le, least_bound}
use Rattle.tree_laws.specs.WellFormed.{Tree}
use Rattle.tree_laws.specs.Ancestors.{AncestorOrSelf, self, up, ancestor_root, ancestor_trans, ancestor_cases, ancestor_le, ancestor_true, true_ancestor}
use Rattle.tree_laws.specs.Children.{ancestor_child, child_parent, child_greater}
use Rattle.tree_laws.specs.Spans.{InSpan, first_le_last, nested, spans_meet, span_ancestor}
use Rattle.ancestry.specs.Ancestry.{LowestCommonAncestor}
use Rattle.ancestry.specs.SparseTable.{parent_from, smallest_parent}

module _ (ps : List ℕ) (t : Tree ps) where
  -- ---- there is one

  mirrored : {x y r : ℕ} → LowestCommonAncestor ps x y r → LowestCommonAncestor ps y x r
  mirrored d = record { known = d.known; ancestor_first = d.ancestor_second; ancestor_second = d.ancestor_first; lowest = λ u a b. d.lowest u b a }

  -- x, if it is an ancestor of y, else that of its parent and y
  lowest_of : {x : ℕ} (y : ℕ) → AncestorOrSelf ps 0 x → x < length ps → (r : ℕ) × LowestCommonAncestor ps x y r
  lowest_of y self hx = (0, record { known = hx; ancestor_first = self; ancestor_second = ancestor_root ps t y; lowest = λ u a b. a })
  lowest_of y (up {x = x} h above) hx = ⊎_elim
      (λ (e : ancestor_or_self ps x y ≡ true). (x, record { known = hx; ancestor_first = self; ancestor_second = ancestor_true ps t x y e; lowest = λ u a b. a }))
      (λ (e : ancestor_or_self ps x y ≡ false).
      let d = lowest_of y above (omega (arith, t.smaller x h)) in (
        d.0,
        record {
          known = d.1.known;
          ancestor_first = up h d.1.ancestor_first;
          ancestor_second = d.1.ancestor_second;
          lowest = λ u a b. ⊎_elim
              (λ (same : u ≡ x). absurd (one_answer (true_ancestor ps t (rw same at b)) e))
              (λ (higher : (0 < x) × AncestorOrSelf ps u (get_or ps x 0)). d.1.lowest u higher.1 b)
              (ancestor_cases ps t a);
        },
      ))
      (answers (ancestor_or_self ps x y))

  -- ---- it is the smallest

  from_leaf : (k z : ℕ) → first_leaf ps z ≡ k → parent_from ps k z ≡ get_or ps z 0
  unfolding parent_from
  from_leaf k z e = rw (eq-eqb (first_leaf ps z) k e)

  not_from_leaf : (k z : ℕ) → (first_leaf ps z ≡ k → ⊥) → parent_from ps k z ≡ FFFF
  unfolding parent_from
  not_from_leaf k z e = rw (ne_eqb (first_leaf ps z) k e)

  -- x lies no further right than y, and l is their lowest common ancestor
  module _ (x y l : ℕ) (hx : x < length ps) (hy : y < length ps) (order : first_leaf ps x ≤ first_leaf ps y) (d : LowestCommonAncestor ps x y l) where
    cap : l ≤ FFFF
    cap = omega (arith, d.known, t.small)

    -- a layout whose first leaf lies after that of x, up to that of y, stands below l
    below : (k z : ℕ) → first_leaf ps x < k → k ≤ first_leaf ps y → z < length ps → first_leaf ps z ≡ k → AncestorOrSelf ps l (get_or ps z 0)
    below k z after upto hz e =
        let left = (nested ps t hx d.ancestor_first).0 in
        let in-l : InSpan ps k l = record { first = omega (arith, left); last = omega (arith, (nested ps t hy d.ancestor_second).1, first_le_last ps t y hy) } in
        let in-z : InSpan ps k z = record { first = omega arith; last = omega (arith, first_le_last ps t z hz) } in
        elim (dec_le (depth ps z) (depth ps l)) [
          | yes h ↦ absurd (omega (arith, left, (nested ps t d.known (spans_meet ps t hz d.known in-z in-l h)).0))
          | no h ↦ ⊎_elim
              (λ (same : l ≡ z). absurd (let q : depth ps l ≡ depth ps z = ap (depth ps) same in omega arith))
              (λ (higher : (0 < z) × AncestorOrSelf ps l (get_or ps z 0)). higher.1)
              (ancestor_cases ps t (spans_meet ps t d.known hz in-l in-z (omega arith)))
        ]

    -- so none of the parents is smaller than l
    no_smaller : (k : ℕ) → first_leaf ps x < k → k ≤ first_leaf ps y → l ≤ smallest_parent ps k
    unfolding smallest_parent
    no_smaller k after upto = least_bound (parent_from ps k) 1 (length ps - 1) l cap
        (λ z some known. elim (ℕ_discrete (first_leaf ps z) k) [
          | yes e ↦ rw (from_leaf k z e) (ancestor_le ps t (below k z after upto (omega arith) e))
          | no e ↦ rw (not_from_leaf k z e) cap
        ])

    abbrev least : ℕ
    least = least_of (smallest_parent ps) (first_leaf ps x + 1) (first_leaf ps y - first_leaf ps x)

    -- the parent of a layout that begins after x, up to y, is among them
    among : (c : ℕ) → 0 < c → c < length ps → first_leaf ps x < first_leaf ps c → first_leaf ps c ≤ first_leaf ps y → least ≤ get_or ps c 0
    unfolding smallest_parent
    among c later known after upto =
        let one : least ≤ smallest_parent ps (first_leaf ps c) = least_le (smallest_parent ps) (first_leaf ps x + 1) (first_leaf ps y - first_leaf ps x) (first_leaf ps c) (omega arith) (omega arith) in
        omega (arith, one, least_le (parent_from ps (first_leaf ps c)) 1 (length ps - 1) c (omega arith) (omega arith), from_leaf (first_leaf ps c) c refl)

    -- where l is not y, a child c of it is an ancestor of y. It begins after x, or it would be an ancestor of x too, or x one of it
    by_child : (c : ℕ) → Mem c (children ps l) → AncestorOrSelf ps c y → min (min x y) least ≤ l
    by_child c m a =
        let k = child_parent ps t d.known m in
        elim (dec_le (first_leaf ps c) (first_leaf ps x)) [
          | no after ↦ omega (arith, k.1, among c k.2 k.0 (omega arith) (nested ps t hy a).0)
          | yes h ↦
              let in_c : InSpan ps (first_leaf ps x) c = record { first = h; last = omega (arith, (nested ps t hy a).1, first_le_last ps t y hy) } in
              let in-x : InSpan ps (first_leaf ps x) x = record { first = omega arith; last = first_le_last ps t x hx } in
              elim (dec_le (depth ps c) (depth ps x)) [
                | yes upper ↦ absurd (omega (arith, child_greater ps t d.known m, ancestor_le ps t (d.lowest c (span_ancestor ps t k.0 hx in_c upper) a)))
                | no deeper ↦ omega (arith, ancestor_le ps t (d.lowest x self (ancestor_trans ps t (spans_meet ps t hx k.0 in-x in_c (omega arith)) a)))
              ]
        ]

    smallest_is : min (min x y) least ≡ l
    smallest_is =
        le_antisymm
        (⊎_elim
        (λ (same : l ≡ y). omega arith)
        (λ (r : (c : ℕ) × (Mem c (children ps l) × AncestorOrSelf ps c y)). by_child r.0 r.1.0 r.1.1)
        (ancestor_child ps t hy d.ancestor_second))
        (omega (
          arith,
          ancestor_le ps t d.ancestor_first,
          ancestor_le ps t d.ancestor_second,
          least_bound (smallest_parent ps) (first_leaf ps x + 1) (first_leaf ps y - first_leaf ps x) l cap (λ k b e. no_smaller k (omega arith) (omega arith)),
        ))

  -- from the left to the right
  rightward : (x y r : ℕ) → x < length ps → y < length ps → first_leaf ps x ≤ first_leaf ps y
      → r ≡ min (min x y) (least_of (smallest_parent ps) (first_leaf ps x + 1) (first_leaf ps y - first_leaf ps x)) → LowestCommonAncestor ps x y r
  rightward x y r hx hy order e =
      let d = lowest_of y (ancestor_root ps t x) hx in
      let same : r ≡ d.0 = e ∙ smallest_is x y d.0 hx hy order d.1 in
      rw same d.1

  -- in either order
  pub smallest_common : (x y from to r : ℕ) → x < length ps → y < length ps → from ≡ min (first_leaf ps x) (first_leaf ps y) + 1 → to ≡ max (first_leaf ps x) (first_leaf ps y) + 1
      → r ≡ min (min x y) (least_of (smallest_parent ps) from (to - from)) → LowestCommonAncestor ps x y r
  smallest_common x y from to r hx hy begins ends e = elim (dec_le (first_leaf ps x) (first_leaf ps y)) [
    | yes h ↦
        let low : from ≡ first_leaf ps x + 1 = omega arith in
        let span : to - (first_leaf ps x + 1) ≡ first_leaf ps y - first_leaf ps x = omega arith in
        rightward x y r hx hy h (rw (low, span) at e)
    | no h ↦
        let low : from ≡ first_leaf ps y + 1 = omega arith in
        let span : to - (first_leaf ps y + 1) ≡ first_leaf ps x - first_leaf ps y = omega arith in
        let two : min x y ≡ min y x = omega arith in
        mirrored (rightward y x r hy hx (omega arith) (rw (low, span, two) at e))
  ]
