-- The span of a layout, from its first leaf to its last: nested from ancestor to descendant; and by it the test for ancestors.
use Rattle.std.specs.Prelude.{ℕ, suc, ◌+◌, ◌≤◌, ◌<◌, ◌≡◌, Bool, true, ◌&&◌, length, get_or, leb}
use Rattle.std.proofs.Common.{ap, ◌∙◌, arith, length-append, leb-true, le-leb}
use Rattle.std.proofs.Math.Bool.{and-eq-true_iff}
use mathlib.Core.List.{List, ◌++◌, append_assoc, Memᴰ as Mem}
use Rattle.model.specs.Tree.{ancestor_or_self, depth, leaves, first_leaf, last_leaf}
use Rattle.laws.specs.Lists.{piece_mem}
use Rattle.laws.specs.Booleans.{same_test}
use Rattle.tree_laws.specs.WellFormed.{Tree}
use Rattle.tree_laws.specs.Ancestors.{AncestorOrSelf, ancestor_le, ancestor_depth, ancestor_linear, ancestor_true, true_ancestor}
use Rattle.tree_laws.specs.Leaves.{leaves_nonempty, leaf_ancestor, part_of, segment, first_at, last_at, last_is}

-- leaf number k lies in the span of x
pub record InSpan (ps : List ℕ) (k x : ℕ) : Type 0 where
  pub first : first_leaf ps x ≤ k
  pub last : k ≤ last_leaf ps x

-- the test for "in the span and no deeper", and what it tells
module _ (ps : List ℕ) (k x d e : ℕ) where
  abbrev pub in_span : Bool
  in_span = leb (first_leaf ps x) k && leb k (last_leaf ps x) && leb d e

  pub in-span-true : in_span ≡ true → InSpan ps k x × (d ≤ e)
  in-span-true h =
      let outer = (and-eq-true_iff (leb (first_leaf ps x) k && leb k (last_leaf ps x)) (leb d e)).0 h in
      let inner = (and-eq-true_iff (leb (first_leaf ps x) k) (leb k (last_leaf ps x))).0 outer.0 in
      (record { first = leb-true (first_leaf ps x) k inner.0; last = leb-true k (last_leaf ps x) inner.1 }, leb-true d e outer.1)

  pub true_in_span : InSpan ps k x → d ≤ e → in_span ≡ true
  true_in_span i h = rw (le-leb (first_leaf ps x) k i.first, le-leb k (last_leaf ps x) i.last, le-leb d e h)

module _ (ps : List ℕ) (t : Tree ps) where
  -- a span has at least one leaf, its first
  pub first_le_last : (x : ℕ) → x < length ps → first_leaf ps x ≤ last_leaf ps x
  first_le_last x h = omega (arith, last_is ps t x h, leaves_nonempty ps x)

  -- the span of a layout lies in that of each ancestor, as its leaves are a piece of the other's
  pub nested : {u x : ℕ} → x < length ps → AncestorOrSelf ps u x → (first_leaf ps u ≤ first_leaf ps x) × (last_leaf ps x ≤ last_leaf ps u)
  nested {u} {x} h a =
      let s = segment ps t u (omega (arith, ancestor_le ps t a)) in
      let p = part_of ps t h a in
      let whole : leaves ps 0 ≡ (s.0 ++ p.0) ++ (leaves ps x ++ (p.1 ++ s.1)) = s.2 ∙ ap (λ (l : List ℕ). s.0 ++ (l ++ s.1)) p.2 ∙ simp append_assoc in
      let first : first_leaf ps x ≡ length (s.0 ++ p.0) = first_at ps t x (s.0 ++ p.0) (p.1 ++ s.1) whole in
      let last : suc (last_leaf ps x) ≡ length (s.0 ++ p.0) + length (leaves ps x) = last_at ps t x (s.0 ++ p.0) (p.1 ++ s.1) whole in
      let longer : length (leaves ps u) ≡ length p.0 + (length (leaves ps x) + length p.1) = ap length p.2 ∙ simp length-append in
      let front : length (s.0 ++ p.0) ≡ length s.0 + length p.0 = length-append s.0 p.0 in
      (omega arith, omega (arith, last_is ps t u (omega (arith, ancestor_le ps t a))))

  -- the leaf at a place of a span is a leaf of the layout
  span_leaf : {k x : ℕ} → x < length ps → InSpan ps k x → Mem (get_or (leaves ps 0) k 0) (leaves ps x)
  span_leaf {k} {x} h i = let s = segment ps t x h in rw s.2 (piece_mem s.0 (leaves ps x) s.1 k 0 (omega arith) (omega (arith, last_is ps t x h)))

  -- two spans that meet are of an ancestor and a descendant, as their depths say: both are ancestors of the leaf that they share
  pub spans_meet : {k u x : ℕ} → u < length ps → x < length ps → InSpan ps k u → InSpan ps k x → depth ps u ≤ depth ps x → AncestorOrSelf ps u x
  spans_meet {k} {u} {x} h j i i' d =
      let leaf : ℕ = get_or (leaves ps 0) k 0 in
      ancestor_linear ps t (leaf_ancestor ps t u h leaf (span_leaf h i)).0 (leaf_ancestor ps t x j leaf (span_leaf j i')).0 d

  -- (A) an ancestor of x has the first leaf of x in its span and is no deeper
  pub ancestor_span : {u x : ℕ} → x < length ps → AncestorOrSelf ps u x → InSpan ps (first_leaf ps x) u × (depth ps u ≤ depth ps x)
  ancestor_span {u} {x} h a = (record { first = (nested h a).0; last = omega (arith, (nested h a).1, first_le_last x h) }, ancestor_depth ps t a)

  -- and what has is an ancestor of x: its span and that of x meet
  pub span_ancestor : {u x : ℕ} → u < length ps → x < length ps → InSpan ps (first_leaf ps x) u → depth ps u ≤ depth ps x → AncestorOrSelf ps u x
  span_ancestor {u} {x} h j i d = spans_meet h j i (record { first = omega arith; last = first_le_last x j }) d

  -- (A) as an equation of tests: u is an ancestor of x exactly if the first leaf of x lies in the span of u and u is no deeper
  pub ancestor_test : (u x : ℕ) → u < length ps → x < length ps
      → ancestor_or_self ps u x ≡ (leb (first_leaf ps u) (first_leaf ps x) && leb (first_leaf ps x) (last_leaf ps u) && leb (depth ps u) (depth ps x))
  ancestor_test u x h j = same_test (ancestor_or_self ps u x) (in_span ps (first_leaf ps x) u (depth ps u) (depth ps x))
      (λ e. let s = ancestor_span j (ancestor_true ps t u x e) in true_in_span ps (first_leaf ps x) u (depth ps u) (depth ps x) s.0 s.1)
      (λ e. let s = in-span-true ps (first_leaf ps x) u (depth ps u) (depth ps x) e in true_ancestor ps t (span_ancestor h j s.0 s.1))
