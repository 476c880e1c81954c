-- Laws of the smallest place over a span of the segment tree's nodes: a span of nodes and the span of their parents have the same, but for the
-- nodes at the two ends.
use Prim.Native.Nat.{ℕ, zero, suc, ◌+◌, ◌-◌, ◌*◌, ◌/◌, ◌<◌, ◌≤◌, min}
use Rattle.std.specs.Prelude.{◌≡◌, List, get_or}
use Rattle.std.proofs.Math.Path.{refl, sym}
use Rattle.std.proofs.Common.{◌∙◌}
use native.Mathlib.Omega.{arith}
use Rattle.model.specs.Tree.{FFFF}
use Rattle.laws.specs.Least.{least_of, least_cap, least_le, least_reached, least_append}
use Rattle.sweep_laws.specs.SegmentTree.{slots, entries_in, smallest, SegmentTree}
use Rattle.sweep_laws.specs.EntryLaws.{smallest_unique, slot_cell}

module _ (f : ℕ → ℕ) where
  -- where each node is the smaller of the two below it, a span of nodes has the smallest place of the span below
  least_double : (a n : ℕ) → ((i : ℕ) → a ≤ i → i < a + n → f i ≡ min (f (2 * i)) (f (2 * i + 1))) → least_of f (2 * a) (2 * n) ≡ least_of f a n
  unfolding least_of
  least_double a zero node = refl
  least_double a (suc n) node =
      let two : 2 * suc n ≡ suc (suc (2 * n)) = omega arith in
      let next : suc (suc (2 * a)) ≡ 2 * suc a = omega arith in
      let odd : suc (2 * a) ≡ 2 * a + 1 = omega arith in
      rw (two, next, odd, least_double (suc a) n (λ i b c. node i (omega arith) (omega arith))) (omega (arith, node a (omega arith) (omega arith)))

  -- at most one node, at the place x
  least_few : (a n x : ℕ) → n ≤ 1 → (0 < n → a ≡ x) → min (f x) FFFF ≤ least_of f a n
  unfolding least_of
  least_few a zero x h at = omega arith
  least_few a (suc zero) x h at = rw (at (omega arith)) (omega arith)
  least_few a (suc (suc n)) x h at = absurd (omega arith)

-- the nodes as a function
abbrev pub node_at : List ℕ → ℕ → ℕ
node_at nodes n = get_or nodes n 0

-- a span x of nodes d between at most one at each end, both of which x covers
ends : (x p d t first last : ℕ) → x ≡ min p (min d t) → min first FFFF ≤ p → min last FFFF ≤ t → d ≤ FFFF → x ≤ first → x ≤ last → x ≡ min (min first last) d
ends x p d t first last parts left right cap a b = omega arith

taken_in : (best x e d : ℕ) → x ≡ min e d → min best x ≡ min (min best e) d
taken_in best x e d parts = omega arith

-- the smallest place of the nodes from l up to r, together with the smallest so far, is that of the nodes from left up to right
pub record Narrowed (kept width : ℕ) (nodes : List ℕ) (left right l r best : ℕ) : Type 0 where
  pub some : kept ≤ l
  pub order : l ≤ r
  pub within : r ≤ 2 * width
  pub cap : best ≤ FFFF
  pub same : least_of (node_at nodes) left (right - left) ≡ min best (least_of (node_at nodes) l (r - l))

-- the nodes of a span that is to be narrowed
pub record Narrowable (kept width : ℕ) (nodes : List ℕ) (left right : ℕ) : Type 0 where
  pub tree : SegmentTree kept width nodes
  pub from_kept : kept ≤ left
  pub order : left ≤ right
  pub within : right ≤ 2 * width

module _ (kept width : ℕ) (nodes : List ℕ) where
  pub narrowed_first : (left right : ℕ) → kept ≤ left → left ≤ right → right ≤ 2 * width → Narrowed kept width nodes left right left right FFFF
  narrowed_first left right some order within =
      record {
        some = some;
        order = order;
        within = within;
        cap = omega arith;
        same = omega (arith, least_cap (node_at nodes) left (right - left));
      }

  -- from the nodes of a level to their parents
  pub narrowed_parents : SegmentTree kept width nodes → (left right l r best : ℕ) → 2 * kept ≤ l → l < r → Narrowed kept width nodes left right l r best → Narrowed kept width nodes left right ((l + 1) / 2) (r / 2) (min best (min (node_at nodes l) (node_at nodes (r - 1))))
  narrowed_parents s left right l r best below h n =
      let f : ℕ → ℕ = node_at nodes in
      let a : ℕ = (l + 1) / 2 in
      let b : ℕ = r / 2 in
      let whole : r - l ≡ (2 * a - l) + (2 * (b - a) + (r - 2 * b)) = omega arith in
      let mid : l + (2 * a - l) ≡ 2 * a = omega arith in
      let end : 2 * a + 2 * (b - a) ≡ 2 * b = omega arith in
      let parts : least_of f l (r - l) ≡ min (least_of f l (2 * a - l)) (min (least_of f (2 * a) (2 * (b - a))) (least_of f (2 * b) (r - 2 * b))) =
      rw (whole, least_append f l (2 * a - l) (2 * (b - a) + (r - 2 * b)), mid, least_append f (2 * a) (2 * (b - a)) (r - 2 * b), end) in
      let above : least_of f (2 * a) (2 * (b - a)) ≡ least_of f a (b - a) =
      least_double f a (b - a) (λ i c d. s.inner i (omega arith) (omega (arith, n.within))) in
      record {
        some = omega arith;
        order = omega arith;
        within = omega (arith, n.within);
        cap = omega (arith, n.cap);
        same = n.same ∙ taken_in best (least_of f l (r - l)) (min (f l) (f (r - 1))) (least_of f a (b - a))
            (ends (least_of f l (r - l)) (least_of f l (2 * a - l)) (least_of f a (b - a)) (least_of f (2 * b) (r - 2 * b)) (f l) (f (r - 1))
            (rw above at parts)
            (least_few f l (2 * a - l) l (omega arith) (λ some. refl))
            (least_few f (2 * b) (r - 2 * b) (r - 1) (omega arith) (λ some. omega arith))
            (least_cap f a (b - a))
            (least_le f l (r - l) l (omega arith) (omega arith))
            (least_le f l (r - l) (r - 1) (omega arith) (omega arith)));
      }

-- ---- along the nodes of a level

-- the nodes from l up to `at` are taken into `answer`, which began as `best`
pub record Along (nodes : List ℕ) (l r best at answer : ℕ) : Type 0 where
  pub cap : answer ≤ FFFF
  pub same : min best (least_of (node_at nodes) l (r - l)) ≡ min answer (least_of (node_at nodes) at (r - at))

module _ (nodes : List ℕ) (l r best : ℕ) where
  pub along_first : best ≤ FFFF → Along nodes l r best l best
  along_first h = record { cap = h; same = refl }

  pub along_next : (at answer : ℕ) → at < r → Along nodes l r best at answer → Along nodes l r best (at + 1) (min answer (node_at nodes at))
  unfolding least_of
  along_next at answer h w =
      let one : r - at ≡ suc (r - suc at) = omega arith in
      let next : suc at ≡ at + 1 = omega arith in
      let split : least_of (node_at nodes) at (r - at) ≡ min (node_at nodes at) (least_of (node_at nodes) (at + 1) (r - (at + 1))) = rw (one, next) refl in
      record { cap = omega (arith, w.cap); same = omega (arith, w.same, split) }

  pub along_all : (at answer : ℕ) → r ≤ at → Along nodes l r best at answer → answer ≡ min best (least_of (node_at nodes) l (r - l))
  unfolding least_of
  along_all at answer h w =
      let none : r - at ≡ 0 = omega arith in
      sym (w.same ∙ rw none (omega (arith, w.cap)))

-- ---- the nodes of the slots

module _ (kept width : ℕ) (nodes : List ℕ) (s : SegmentTree kept width nodes) where
  -- a node of the slots, as its slot
  slot_of_node : (from to i m : ℕ) → to ≤ width → width + from ≤ i → i < width + from + (to - from) → node_at nodes i ≡ m → (t : ℕ) × (from ≤ t) × (t < to) × (get_or (slots width nodes) t FFFF ≡ m)
  slot_of_node from to i m top a b e =
      let back : width + (i - width) ≡ i = omega arith in
      (i - width, omega arith, omega arith, rw (slot_cell width nodes s.room (i - width) (omega arith), back) e)

  -- the smallest place of a span of them
  pub slots_smallest : (from to : ℕ) → to ≤ width → least_of (node_at nodes) (width + from) (to - from) ≡ smallest (entries_in width nodes) from to
  slots_smallest from to top =
      let f : ℕ → ℕ = node_at nodes in
      smallest_unique (slots width nodes) from to (least_of f (width + from) (to - from)) (least_cap f (width + from) (to - from))
      (λ t c d. rw (slot_cell width nodes s.room t (omega arith)) (least_le f (width + from) (to - from) (width + t) (omega arith) (omega arith)))
      (λ some.
      let i = least_reached f (width + from) (to - from) some in
      slot_of_node from to i.0 (least_of f (width + from) (to - from)) top i.1 i.2 i.3)

  -- what is left of it lies along one level
  pub slots_narrowable : (from to : ℕ) → from ≤ to → to ≤ width → Narrowable kept width nodes (width + from) (width + to)
  slots_narrowable from to order top = record { tree = s; from_kept = omega (arith, s.within); order = omega arith; within = omega arith }

  pub narrowed_smallest : (from to left right best answer : ℕ) → to ≤ width → Narrowed kept width nodes (width + from) (width + to) left right best → answer ≡ min best (least_of (node_at nodes) left (right - left)) → answer ≡ smallest (entries_in width nodes) from to
  narrowed_smallest from to left right best answer top n e =
      let span : width + to - (width + from) ≡ to - from = omega arith in
      e ∙ sym n.same ∙ rw span (slots_smallest from to top)
