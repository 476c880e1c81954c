-- The children of a layout: which they are, in which order they stand, and what lies below them.
use Prim.Native.Nat.{ℕ, zero, suc, ◌<◌}
use Rattle.std.specs.Prelude.{◌≡◌, refl, ◌⊎◌}
use Rattle.std.proofs.Common.{sym, ap, ◌∙◌, inl, inr, ⊎_elim}
use mathlib.Core.List.{List, ◌∷◌, ◌++◌, Memᴰ as Mem}
use native.Mathlib.Omega.{arith}
use Rattle.std.proofs.Math.ListN.{length, get_or}
use Rattle.std.proofs.Math.Dec.{eqb}
use borrow.Author.Tests.{eqb-true, eq-eqb}
use Rattle.model.specs.Lists.{numbers, AllPairs}
use Rattle.model.specs.Tree.{FFFF, depth, children}
use Rattle.laws.specs.Lists.{get_d_inside, all_mem, select_mem, mem_select, select_pairwise, pairwise_right}
use Rattle.laws.specs.Numbers.{mem_range, range_mem, range_rises}
use Rattle.tree_laws.specs.WellFormed.{Tree}
use Rattle.tree_laws.specs.Ancestors.{AncestorOrSelf, self, up, ancestor_trans, ancestor_same, depth_child}

module _ (ps : List ℕ) (t : Tree ps) where
  -- a child of x is a layout after the first whose parent is x
  pub child_parent : {x y : ℕ} → x < length ps → Mem y (children ps x) → (y < length ps) × (get_or ps y 0 ≡ x) × (0 < y)
  unfolding children numbers
  child_parent {x} {y} h m =
      let s = select_mem (λ (y : ℕ). eqb (get_or ps y FFFF) x) (numbers (length ps)) m in
      let r = range_mem 0 (length ps) s.0 in
      let inside : y < length ps = omega arith in
      let parent : get_or ps y 0 ≡ x = get_d_inside ps y 0 FFFF inside ∙ eqb-true (get_or ps y FFFF) x s.1 in
      (inside, parent, later y parent)
    where
      later : (y : ℕ) → get_or ps y 0 ≡ x → 0 < y
      later zero e = absurd (omega (arith, t.root, t.small))
      later (suc y) e = omega arith

  -- and every such layout is a child of x
  pub parent_child : {x y : ℕ} → y < length ps → get_or ps y 0 ≡ x → Mem y (children ps x)
  unfolding children numbers
  parent_child {x} {y} h e = mem_select (λ (y : ℕ). eqb (get_or ps y FFFF) x) (mem_range y 0 (length ps) (omega arith) (omega arith)) (eq-eqb (get_or ps y FFFF) x (get_d_inside ps y FFFF 0 h ∙ e))

  -- a child has a greater number
  pub child_greater : {x c : ℕ} → x < length ps → Mem c (children ps x) → x < c
  child_greater {x} {c} h m = let k = child_parent h m in omega (arith, t.smaller c k.2)

  -- and is one deeper
  pub child_depth : {x c : ℕ} → x < length ps → Mem c (children ps x) → depth ps c ≡ suc (depth ps x)
  child_depth {x} {c} h m = let k = child_parent h m in depth_child ps t c k.2 ∙ ap (λ (p : ℕ). suc (depth ps p)) k.1

  -- ---- their order

  -- children stand in rising order, as the numbers do that they are selected from
  pub children_rise : (x : ℕ) → AllPairs ◌<◌ (children ps x)
  unfolding children numbers
  children_rise x = select_pairwise (λ (y : ℕ). eqb (get_or ps y FFFF) x) ◌<◌ (numbers (length ps)) (range_rises 0 (length ps))

  module _ (x : ℕ) (done : List ℕ) (c : ℕ) (rest : List ℕ) (e : children ps x ≡ done ++ c ∷ rest) where
    rises : AllPairs ◌<◌ (done ++ c ∷ rest)
    rises = rw e at (children_rise x)

    -- the children behind c are greater
    pub rest_greater : {y : ℕ} → Mem y rest → c < y
    rest_greater {y} m = all_mem (λ (y : ℕ). c < y) (pairwise_right ◌<◌ done (c ∷ rest) rises).0 m

  -- ---- what lies below them

  -- what is at or below x is x or at or below a child of it: the last step down from x leads to a child
  pub ancestor_child : {x y : ℕ} → y < length ps → AncestorOrSelf ps x y → (x ≡ y) ⊎ ((c : ℕ) × (Mem c (children ps x) × AncestorOrSelf ps c y))
  ancestor_child h self = inl refl
  ancestor_child {x} h (up {x = y} k a) = ⊎_elim
      (λ (e : x ≡ get_or ps y 0). inr (y, (parent_child h (sym e), self)))
      (λ (r : (c : ℕ) × (Mem c (children ps x) × AncestorOrSelf ps c (get_or ps y 0))). inr (r.0, (r.1.0, up k r.1.1)))
      (ancestor_child (omega (arith, t.smaller y k)) a)

  -- a parent is an ancestor of its child
  pub parent_ancestor : {x c : ℕ} → x < length ps → Mem c (children ps x) → AncestorOrSelf ps x c
  parent_ancestor {x} {c} h m = let k = child_parent h m in up {u = x} {x = c} k.2 (rw k.1 self)

  -- and of all that the child is an ancestor of
  pub child_ancestor : {x c y : ℕ} → x < length ps → Mem c (children ps x) → AncestorOrSelf ps c y → AncestorOrSelf ps x y
  child_ancestor h m a = ancestor_trans ps t (parent_ancestor h m) a

  -- two children that are ancestors of one layout are one: they have the same depth
  pub child_unique : {x c d y : ℕ} → x < length ps → Mem c (children ps x) → Mem d (children ps x) → AncestorOrSelf ps c y → AncestorOrSelf ps d y → c ≡ d
  child_unique h m n a b = ancestor_same ps t a b (child_depth h m ∙ sym (child_depth h n))
