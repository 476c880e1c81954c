-- The leaves of a layout and the numbers of its first and its last leaf.
use Prim.Native.Nat.{ℕ, zero, suc, ◌+◌, ◌≤◌, ◌<◌}
use Rattle.std.specs.Prelude.{◌≡◌, ◌⊎◌, get_or}
use Rattle.std.proofs.Math.Path.{refl, ap}
use Rattle.std.proofs.Common.{sym, ◌∙◌, inl, inr, ⊎_elim, arith}
use mathlib.Core.List.Memᴰ.{eq_of_singleton as mem-one}
use mathlib.Core.List.{List, [], ◌∷◌, ◌++◌, flat_map, append_assoc, append-nil, Memᴰ as Mem}
use Rattle.std.proofs.Math.ListN.{length, length-append}
use Rattle.model.specs.Tree.{children, or_self, leaves_within, leaves, first_leaf, last_leaf}
use Rattle.laws.specs.Lists.{Distinct, pairwise_imply, mem_all, mem_split, flat_mem, flat_agree, flat_append, flat_distinct, first_place, last_place}
use Rattle.laws.specs.Without.{distinct_bound}
use Rattle.tree_laws.specs.WellFormed.{Tree}
use Rattle.tree_laws.specs.Ancestors.{AncestorOrSelf, self, up, ancestor_root}
use Rattle.tree_laws.specs.Children.{child_parent, parent_child, child_greater, child_ancestor, child_unique, children_rise}

-- ---- `orSelf`: a layout's own leaf, where its children have none

-- it is never empty
self_length : (x : ℕ) (l : List ℕ) → 0 < length (or_self x l)
unfolding or_self
self_length x [] = omega arith
self_length x (y ∷ l) = omega arith

-- it holds the layout or what the children have
self_mem : {y : ℕ} (x : ℕ) (l : List ℕ) → Mem y (or_self x l) → (y ≡ x) ⊎ Mem y l
unfolding or_self
self_mem x [] m = inl (mem-one m)
self_mem x (y ∷ l) m = inr m

-- it has no repeats if they have none
self_distinct : (x : ℕ) (l : List ℕ) → Distinct l → Distinct (or_self x l)
unfolding or_self
self_distinct x [] d = (tt, tt)
self_distinct x (y ∷ l) d = d

-- it is what they have if they have any
self_unused : (x : ℕ) (l : List ℕ) → 0 < length l → or_self x l ≡ l
unfolding or_self
self_unused x [] h = absurd (omega arith)
self_unused x (y ∷ l) h = refl

-- every layout has leaves, to any level
within_length : (n : ℕ) (ps : List ℕ) (x : ℕ) → 0 < length (leaves_within n ps x)
unfolding leaves_within
within_length zero ps x = omega arith
within_length (suc n) ps x = self_length x (flat_map (leaves_within n ps) (children ps x))

pub leaves_nonempty : (ps : List ℕ) (x : ℕ) → 0 < length (leaves ps x)
unfolding leaves
leaves_nonempty ps x = within_length (length ps) ps x

module _ (ps : List ℕ) (t : Tree ps) where
  -- more levels than there are numbers from x on change nothing: children have greater numbers
  within_enough : (n m x : ℕ) → x < length ps → length ps ≤ n + x → length ps ≤ m + x → leaves_within n ps x ≡ leaves_within m ps x
  unfolding leaves_within
  within_enough zero zero x h j k = refl
  within_enough zero (suc m) x h j k = absurd (omega arith)
  within_enough (suc n) zero x h j k = absurd (omega arith)
  within_enough (suc n) (suc m) x h j k = ap (or_self x) (flat_agree (leaves_within n ps) (leaves_within m ps) (children ps x)
      (λ c mem. within_enough n m c (child_parent ps t h mem).0 (omega (arith, child_greater ps t h mem)) (omega (arith, child_greater ps t h mem))))

  -- a layout's leaves are its children's, child by child; without children it is its own leaf
  pub leaves_step : (x : ℕ) → x < length ps → leaves ps x ≡ or_self x (flat_map (leaves ps) (children ps x))
  unfolding leaves leaves_within
  leaves_step x h = within_enough (length ps) (suc (length ps)) x h (omega arith) (omega arith)

  -- a layout without children is its only leaf
  pub leaves_of_leaf : (x : ℕ) → x < length ps → children ps x ≡ [] → leaves ps x ≡ x ∷ []
  unfolding flat_map or_self
  leaves_of_leaf x h e = leaves_step x h ∙ ap (λ (l : List ℕ). or_self x (flat_map (leaves ps) l)) e

  -- induction down the tree: what passes from the children to their parent holds of every layout
  pub tree_induction : (P : ℕ → Type 0) → ((x : ℕ) → x < length ps → ((c : ℕ) → Mem c (children ps x) → P c) → P x) → (x : ℕ) → x < length ps → P x
  tree_induction P step x h = levels (length ps) x h (omega arith)
    where
      levels : (n x : ℕ) → x < length ps → length ps ≤ n + x → P x
      levels zero x h k = absurd (omega arith)
      levels (suc n) x h k = step x h (λ c m. levels n c (child_parent ps t h m).0 (omega (arith, child_greater ps t h m)))

  -- a leaf of x is a layout at or below x
  pub leaf_ancestor : (x : ℕ) → x < length ps → (l : ℕ) → Mem l (leaves ps x) → AncestorOrSelf ps x l × (l < length ps)
  leaf_ancestor = tree_induction (λ (x : ℕ). (l : ℕ) → Mem l (leaves ps x) → AncestorOrSelf ps x l × (l < length ps)) step
    where
      step : (x : ℕ) → x < length ps → ((c : ℕ) → Mem c (children ps x) → (l : ℕ) → Mem l (leaves ps c) → AncestorOrSelf ps c l × (l < length ps)) → (l : ℕ) → Mem l (leaves ps x) → AncestorOrSelf ps x l × (l < length ps)
      step x h ih l m = ⊎_elim
          (λ (e : l ≡ x). (rw e self, omega arith))
          (λ (m : Mem l (flat_map (leaves ps) (children ps x))). of_child (flat_mem (leaves ps) (children ps x) m))
          (self_mem x (flat_map (leaves ps) (children ps x)) (rw (leaves_step x h) at m))
        where
          of_child : (c : ℕ) × (Mem c (children ps x) × Mem l (leaves ps c)) → AncestorOrSelf ps x l × (l < length ps)
          of_child r = let below = ih r.0 r.1.0 l r.1.1 in (child_ancestor ps t h r.1.0 below.0, below.1)

  -- no leaf of x stands twice: two children have no leaf in common, as only one of them is an ancestor of it
  pub leaves_distinct : (x : ℕ) → x < length ps → Distinct (leaves ps x)
  leaves_distinct = tree_induction (λ (x : ℕ). Distinct (leaves ps x)) step
    where
      apart : (x : ℕ) → x < length ps → (c d : ℕ) → Mem c (children ps x) → Mem d (children ps x) → c < d → (l : ℕ) → Mem l (leaves ps c) → Mem l (leaves ps d) → ⊥
      apart x h c d m n less l p q =
          let same : c ≡ d = child_unique ps t h m n (leaf_ancestor c (child_parent ps t h m).0 l p).0 (leaf_ancestor d (child_parent ps t h n).0 l q).0 in
          omega arith

      step : (x : ℕ) → x < length ps → ((c : ℕ) → Mem c (children ps x) → Distinct (leaves ps c)) → Distinct (leaves ps x)
      step x h ih =
          let each-apart = pairwise_imply ◌<◌ (λ (c d : ℕ). (l : ℕ) → Mem l (leaves ps c) → Mem l (leaves ps d) → ⊥) (children ps x) (apart x h) (children_rise ps t x) in
          rw (leaves_step x h) (self_distinct x (flat_map (leaves ps) (children ps x)) (flat_distinct (leaves ps) (children ps x) ih each-apart))

  -- ---- the leaves of a layout are a part of the leaves

  -- the leaves of x where c is a child of it: those of the children in front of c, those of c, those of the children behind it
  pub leaves_split : (x : ℕ) → x < length ps → (done : List ℕ) (c : ℕ) (rest : List ℕ) → children ps x ≡ done ++ c ∷ rest
      → leaves ps x ≡ flat_map (leaves ps) done ++ (leaves ps c ++ flat_map (leaves ps) rest)
  unfolding flat_map
  leaves_split x h done c rest e =
      let parts : flat_map (leaves ps) (children ps x) ≡ flat_map (leaves ps) done ++ (leaves ps c ++ flat_map (leaves ps) rest) = ap (flat_map (leaves ps)) e ∙ flat_append (leaves ps) done (c ∷ rest) in
      let long : 0 < length (flat_map (leaves ps) (children ps x)) = rw parts (simp length-append (omega (arith, leaves_nonempty ps c))) in
      leaves_step x h ∙ self_unused x (flat_map (leaves ps) (children ps x)) long ∙ parts

  -- the leaves of x where it has children
  pub leaves_of_children : (x : ℕ) → x < length ps → 0 < length (children ps x) → leaves ps x ≡ flat_map (leaves ps) (children ps x)
  unfolding flat_map
  leaves_of_children x h k = leaves_step x h ∙ self_unused x (flat_map (leaves ps) (children ps x)) (flat_length (children ps x) k)
    where
      flat_length : (l : List ℕ) → 0 < length l → 0 < length (flat_map (leaves ps) l)
      flat_length [] k = k
      flat_length (c ∷ l) k = simp length-append (omega (arith, leaves_nonempty ps c))

  -- the leaves of an ancestor of x hold those of x in one piece: go up, and at each child split its parent's
  pub part_of : {u x : ℕ} → x < length ps → AncestorOrSelf ps u x → (before : List ℕ) × (after : List ℕ) × (leaves ps u ≡ before ++ (leaves ps x ++ after))
  part_of h (self {x = x}) = ([], [], sym (append-nil (leaves ps x)))
  part_of {u} h (up {x = x} k a) =
      let below : get_or ps x 0 < length ps = omega (arith, t.smaller x k) in
      let p = part_of below a in
      let s = mem_split (parent_child ps t h refl) in
      let parts : leaves ps (get_or ps x 0) ≡ flat_map (leaves ps) s.0 ++ (leaves ps x ++ flat_map (leaves ps) s.1) = leaves_split (get_or ps x 0) below s.0 x s.1 s.2 in
      (p.0 ++ flat_map (leaves ps) s.0, flat_map (leaves ps) s.1 ++ p.1, p.2 ∙ ap (λ (l : List ℕ). p.0 ++ (l ++ p.1)) parts ∙ simp append_assoc)

  -- in the leaves of layout 0 a layout's leaves begin at its first leaf
  pub first_at : (x : ℕ) (before after : List ℕ) → leaves ps 0 ≡ before ++ (leaves ps x ++ after) → first_leaf ps x ≡ length before
  unfolding first_leaf
  first_at x before after e = first_place (leaves ps x) x (leaves ps 0) before after (leaves_nonempty ps x) (leaves_distinct 0 t.nonempty) e

  -- and end at its last
  pub last_at : (x : ℕ) (before after : List ℕ) → leaves ps 0 ≡ before ++ (leaves ps x ++ after) → suc (last_leaf ps x) ≡ length before + length (leaves ps x)
  unfolding last_leaf
  last_at x before after e = last_place (leaves ps x) x (leaves ps 0) before after (leaves_nonempty ps x) (leaves_distinct 0 t.nonempty) e

  -- a layout's leaves stand in one piece among all leaves, from its first leaf on
  pub segment : (x : ℕ) → x < length ps → (before : List ℕ) × (after : List ℕ) × (leaves ps 0 ≡ before ++ (leaves ps x ++ after)) × (length before ≡ first_leaf ps x)
  segment x h = let p = part_of h (ancestor_root ps t x) in (p.0, p.1, p.2, sym (first_at x p.0 p.1 p.2))

  -- layout 0 begins with the first leaf
  pub first_root : first_leaf ps 0 ≡ 0
  first_root = first_at 0 [] [] (sym (append-nil (leaves ps 0)))

  -- a layout's last leaf is as many on from its first as it has leaves
  pub last_is : (x : ℕ) → x < length ps → suc (last_leaf ps x) ≡ first_leaf ps x + length (leaves ps x)
  last_is x h =
      let s = segment x h in
      omega (arith, last_at x s.0 s.1 s.2)

  -- a child's first leaf is its parent's, and as many on as the children in front of it have leaves
  pub first_of_child : (x : ℕ) → x < length ps → (done : List ℕ) (c : ℕ) (rest : List ℕ) → children ps x ≡ done ++ c ∷ rest → first_leaf ps c ≡ first_leaf ps x + length (flat_map (leaves ps) done)
  first_of_child x h done c rest e =
      let s = segment x h in
      let whole : leaves ps 0 ≡ (s.0 ++ flat_map (leaves ps) done) ++ (leaves ps c ++ (flat_map (leaves ps) rest ++ s.1)) = s.2 ∙ ap (λ (l : List ℕ). s.0 ++ (l ++ s.1)) (leaves_split x h done c rest e) ∙ simp append_assoc in
      omega (arith, first_at c (s.0 ++ flat_map (leaves ps) done) (flat_map (leaves ps) rest ++ s.1) whole, length-append s.0 (flat_map (leaves ps) done))

  -- there are no more leaves than layouts: they are layouts, and none stands twice
  pub leaves_bound : length (leaves ps 0) ≤ length ps
  leaves_bound = distinct_bound (length ps) (leaves ps 0) (leaves_distinct 0 t.nonempty) (mem_all (λ (l : ℕ). l < length ps) (leaves ps 0) (λ l m. (leaf_ancestor 0 t.nonempty l m).1))

  -- the leaves of a layout are among them
  pub last_lt_leaves : (x : ℕ) → x < length ps → last_leaf ps x < length (leaves ps 0)
  last_lt_leaves x h =
      let s = segment x h in
      omega (arith, last_is x h, ap length s.2, length-append s.0 (leaves ps x ++ s.1), length-append (leaves ps x) s.1)

  -- and so leaf numbers are below the number of layouts
  pub last_lt : (x : ℕ) → x < length ps → last_leaf ps x < length ps
  last_lt x h = omega (arith, last_lt_leaves x h, leaves_bound)
