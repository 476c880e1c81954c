-- Laws of numbering the leaves child by child: what one child adds, and what all of them come to.
use Prim.Native.Nat.{ℕ, zero, suc, ◌+◌, ◌-◌, ◌<◌, ◌≤◌}
use mathlib.Core.Path.{◌≡◌, refl, sym, ap, ◌∙◌}
use mathlib.Core.Logic.{⊎_elim}
use mathlib.Core.Bool.{Bool, true, false, cond, not, ◌||◌, ◌&&◌, or_assoc, or-false, and-true, and-false, and-or_distrib_left}
use mathlib.Core.List.{List, [], ◌∷◌, ◌++◌, head_d, flat_map, append_assoc, append-nil, Memᴰ}
use native.Mathlib.Nat.{sub-zero, add-zero}
use native.Mathlib.Omega.{arith}
use native.Mathlib.Decide.{ℕ_discrete, dec_lt}
use lib.ListN.{length, get_or, set, length-append}
use lib.Dec.{eqb, ltb}
use borrow.Author.Tests.{lt-ltb, le-ltb, eq-eqb, ne_eqb, eqb-false}
use Rattle.model.specs.Lists.{numbers, numbers_from, any_of, select}
use Rattle.model.specs.Tree.{FFFF, layout_limit, ancestor_or_self, children, leaves, first_leaf, last_leaf}
use Rattle.laws.specs.Booleans.{answers, one_answer}
use Rattle.laws.specs.Lists.{any_mem, mem_any, flat_more}
use Rattle.tree_laws.specs.WellFormed.{Tree}
use Rattle.tree_laws.specs.Ancestors.{AncestorOrSelf, ancestor_true, true_ancestor, ancestor_le, ancestor_refl}
use Rattle.tree_laws.specs.Children.{child_parent, child_greater, rest_greater, ancestor_child, child_ancestor}
use Rattle.tree_laws.specs.Leaves.{leaves_nonempty, leaves_of_leaf, leaves_of_children, first_of_child, last_is, last_lt}
use Rattle.settle.specs.declared.SettledTree.{SettledTree}
use Rattle.settle.specs.declared.Links.{Links}
use Rattle.settle.specs.Numbering.{is_child, children_from, Linked, Stamped, in_subtree, properly_in_subtree, Numberable, Numbered}
use Rattle.settle.specs.Stamps.{stamped_as, stamped_set, stamped_then}

-- ---- the children after a child

-- the rest of what is selected after a selected number: at the head of the range, or further on by `later`
after_head : (p : ℕ → Bool) (a : ℕ) (tail : List ℕ) (c : ℕ) (rest : List ℕ) (R : Type 0) → (b : Bool) → p a ≡ b → (done : List ℕ) → cond b (a ∷ tail) tail ≡ done ++ c ∷ rest → (a ≡ c → tail ≡ rest → R) → ((done : List ℕ) → tail ≡ done ++ c ∷ rest → R) → R
after_head p a tail c rest R true h [] q here later = here (cc) (cc)
after_head p a tail c rest R true h (d ∷ done) q here later = later done (cc)
after_head p a tail c rest R false h done q here later = later done q

-- what is selected after a selected number is the rest of what is selected
select_after : (p : ℕ → Bool) (n a : ℕ) (done : List ℕ) (c : ℕ) (rest : List ℕ) → select p (numbers_from a n) ≡ done ++ c ∷ rest → select p (numbers_from (suc c) (a + n - suc c)) ≡ rest
unfolding select numbers_from
select_after p zero a [] c rest e = let z : ◌≡◌ {A = ℕ} 0 1 = cc in absurd (omega arith)
select_after p zero a (d ∷ done) c rest e = let z : ◌≡◌ {A = ℕ} 0 1 = cc in absurd (omega arith)
select_after p (suc n) a done c rest e =
    let same : a + suc n - suc c ≡ suc a + n - suc c = omega arith in
    after_head p a (select p (numbers_from (suc a) n)) c rest (select p (numbers_from (suc c) (a + suc n - suc c)) ≡ rest) (p a) refl done e
    (λ here tail. let short : a + suc n - suc c ≡ n = omega arith in rw (short, ← here) tail)
    (λ done tail. rw same (select_after p n (suc a) done c rest tail))

module _ (ps : List ℕ) where
  pub children_from_lem : (x : ℕ) → children_from ps x 0 ≡ children ps x
  unfolding children_from children numbers
  children_from_lem x = rw sub-zero

  -- the children after c are those after it in the list of children
  pub children_after : (x : ℕ) (done : List ℕ) (c : ℕ) (rest : List ℕ) → children ps x ≡ done ++ c ∷ rest → children_from ps x (suc c) ≡ rest
  unfolding children_from children numbers
  children_after x done c rest e =
      let same : length ps - suc c ≡ 0 + length ps - suc c = omega arith in
      rw same (select_after (is_child ps x) (length ps) 0 done c rest e)

-- ---- the layouts under some of the children

-- y is a layout under one of cs
abbrev pub under : List ℕ → List ℕ → ℕ → Bool
under ps cs y = ltb y (length ps) && any_of (λ (c : ℕ). ancestor_or_self ps c y) cs

any_append : (p : ℕ → Bool) (xs ys : List ℕ) → any_of p (xs ++ ys) ≡ (any_of p xs || any_of p ys)
unfolding any_of
any_append p [] ys = refl
any_append p (x ∷ xs) ys = ap (λ (b : Bool). p x || b) (any_append p xs ys) ∙ sym (or_assoc (p x) (any_of p xs) (any_of p ys))

-- under one child more
pub under_more : (ps done : List ℕ) (c y : ℕ) → (under ps done y || in_subtree ps c y) ≡ under ps (done ++ c ∷ []) y
unfolding any_of
under_more ps done c y =
    rw (any_append (λ (d : ℕ). ancestor_or_self ps d y) done (c ∷ []), or-false (ancestor_or_self ps c y))
    (sym (and-or_distrib_left (ltb y (length ps)) (any_of (λ (d : ℕ). ancestor_or_self ps d y) done) (ancestor_or_self ps c y)))

module _ (ps : List ℕ) (t : Tree ps) (x : ℕ) (known : x < length ps) where
  -- under one of the children is a descendant
  under_inside : (y : ℕ) → y < length ps → any_of (λ (c : ℕ). ancestor_or_self ps c y) (children ps x) ≡ (ancestor_or_self ps x y && not (eqb y x))
  under_inside y inside = ⊎_elim
      (λ (h : any_of (λ (c : ℕ). ancestor_or_self ps c y) (children ps x) ≡ true).
      let m : (c : ℕ) × (Memᴰ c (children ps x) × (ancestor_or_self ps c y ≡ true)) = any_mem (λ (c : ℕ). ancestor_or_self ps c y) (children ps x) h in
      let a : AncestorOrSelf ps m.0 y = ancestor_true ps t m.0 y m.1.1 in
      let other : y ≡ x → ⊥ = λ e. omega (arith, child_greater ps t known m.1.0, ancestor_le ps t a) in
      rw (h, true_ancestor ps t (child_ancestor ps t known m.1.0 a), ne_eqb y x other))
      (λ (h : any_of (λ (c : ℕ). ancestor_or_self ps c y) (children ps x) ≡ false).
      rw h (sym (none_below h (ancestor_or_self ps x y) refl (eqb y x) refl)))
      (answers (any_of (λ (c : ℕ). ancestor_or_self ps c y) (children ps x)))
    where
      none_below : any_of (λ (c : ℕ). ancestor_or_self ps c y) (children ps x) ≡ false → (a : Bool) → ancestor_or_self ps x y ≡ a → (b : Bool) → eqb y x ≡ b → (a && not b) ≡ false
      none_below h false p b q = refl
      none_below h true p true q = refl
      none_below h true p false q = absurd (⊎_elim
          (λ (same : x ≡ y). eqb-false y x q (sym same))
          (λ (m : (c : ℕ) × (Memᴰ c (children ps x) × AncestorOrSelf ps c y)). one_answer (mem_any (λ (c : ℕ). ancestor_or_self ps c y) m.1.0 (true_ancestor ps t m.1.1)) h)
          (ancestor_child ps t inside (ancestor_true ps t x y p)))

  pub under_all : (y : ℕ) → under ps (children ps x) y ≡ properly_in_subtree ps x y
  under_all y = elim (dec_lt y (length ps)) [
    | yes inside ↦ rw (lt-ltb y (length ps) inside) (under_inside y inside)
    | no outside ↦ rw (le-ltb y (length ps) (omega arith))
  ]

  -- x itself and its descendants
  pub below_or_self : (y : ℕ) → (eqb y x || properly_in_subtree ps x y) ≡ in_subtree ps x y
  below_or_self y = elim (ℕ_discrete y x) [
    | yes same ↦ rw (same, eq-eqb x x refl, lt-ltb x (length ps) known, true_ancestor ps t (ancestor_refl ps t x))
    | no other ↦ rw (ne_eqb y x other) (and-true (in_subtree ps x y))
  ]

-- ---- numbering child by child

-- the children `done` are numbered, `rest` are not yet; c is the first of the rest, and `after` the number of its first leaf
pub record ChildrenDone (ps : List ℕ) (x : ℕ) (old new : SettledTree) (c after : ℕ) : Type 0 where
  pub done : List ℕ
  pub rest : List ℕ
  pub split : children ps x ≡ done ++ rest
  pub current : c ≡ head_d rest FFFF
  pub next_leaf : after ≡ first_leaf ps x + length (flat_map (leaves ps) done)
  pub depths_kept : new.depths ≡ old.depths
  pub branches_kept : new.branches ≡ old.branches
  pub firsts_hold : Stamped (under ps done) (first_leaf ps) old.first_leaves new.first_leaves
  pub lasts_hold : Stamped (under ps done) (last_leaf ps) old.last_leaves new.last_leaves

-- the first child and what comes after it, where c is the head
split_head : (c : ℕ) (rest : List ℕ) → c ≡ head_d rest FFFF → ((c ≡ FFFF) → ⊥) → (tail : List ℕ) × (rest ≡ c ∷ tail)
unfolding head_d
split_head c [] e other = absurd (other e)
split_head c (d ∷ tail) e other = (tail, ap (λ (n : ℕ). n ∷ tail) (sym e))

no_head : (rest : List ℕ) → FFFF ≡ head_d rest FFFF → ((d : ℕ) → Memᴰ d rest → d < FFFF) → rest ≡ []
unfolding head_d
no_head [] e small = refl
no_head (d ∷ tail) e small = absurd (omega (arith, small d (mathlib.Core.List.Memᴰ.head refl)))

head_bounds : (c : ℕ) (tail : List ℕ) → c < FFFF → ((d : ℕ) → Memᴰ d tail → (c < d) × (d < FFFF)) → (c < head_d tail FFFF) × (head_d tail FFFF ≤ FFFF)
unfolding head_d
head_bounds c [] h each = (h, omega arith)
head_bounds c (d ∷ tail) h each = omega (arith, each d (mathlib.Core.List.Memᴰ.head refl))

nothing_under : (ps : List ℕ) (f : ℕ → ℕ) (old : List ℕ) → Stamped (under ps []) f old old
unfolding any_of
nothing_under ps f old y = rw (and-false (ltb y (length ps)))

module _ (ps : List ℕ) (t : Tree ps) (x : ℕ) (known : x < length ps) where
  pub none_done : (settled : SettledTree) (c after : ℕ) → c ≡ head_d (children_from ps x 0) FFFF → after ≡ first_leaf ps x → ChildrenDone ps x settled settled c after
  unfolding flat_map
  none_done settled c after e start =
      record {
        done = [];
        rest = children ps x;
        split = refl;
        current = e ∙ ap (λ (l : List ℕ). head_d l FFFF) (children_from_lem ps x);
        next_leaf = start ∙ sym (add-zero (first_leaf ps x));
        depths_kept = refl;
        branches_kept = refl;
        firsts_hold = nothing_under ps (first_leaf ps) settled.first_leaves;
        lasts_hold = nothing_under ps (last_leaf ps) settled.last_leaves;
      }

  -- the current child is a child of x, and its first leaf is the next
  pub record Current (done : List ℕ) (c : ℕ) (after : ℕ) : Type 0 where
    pub tail : List ℕ
    pub split : children ps x ≡ done ++ c ∷ tail
    pub inside : c < length ps
    pub positive : 0 < c
    pub parent : get_or ps c 0 ≡ x
    pub greater : x < c
    pub start : after ≡ first_leaf ps c

  mem_middle : (done : List ℕ) (c : ℕ) (tail : List ℕ) → Memᴰ c (done ++ c ∷ tail)
  mem_middle [] c tail = mathlib.Core.List.Memᴰ.head refl
  mem_middle (d ∷ done) c tail = mathlib.Core.List.Memᴰ.tail (mem_middle done c tail)

  module _ (old new : SettledTree) (c after : ℕ) (d : ChildrenDone ps x old new c after) where
    pub current_child : ((c ≡ FFFF) → ⊥) → Current d.done c after
    current_child other =
        let h : (tail : List ℕ) × (d.rest ≡ c ∷ tail) = split_head c d.rest d.current other in
        let s : children ps x ≡ d.done ++ c ∷ h.0 = rw (← h.1) d.split in
        let m : Memᴰ c (children ps x) = rw s (mem_middle d.done c h.0) in
        record {
          tail = h.0;
          split = s;
          inside = (child_parent ps t known m).0;
          positive = (child_parent ps t known m).2;
          parent = (child_parent ps t known m).1;
          greater = child_greater ps t known m;
          start = d.next_leaf ∙ sym (first_of_child ps t x known d.done c h.0 s);
        }

    -- a writing at one child more, after what was done
    more_under : (f : ℕ → ℕ) (old new newer : List ℕ) → Stamped (under ps d.done) f old new → Stamped (in_subtree ps c) f new newer → Stamped (under ps (d.done ++ c ∷ [])) f old newer
    more_under f old new newer s n =
        stamped_as (λ (y : ℕ). under ps d.done y || in_subtree ps c y) (under ps (d.done ++ c ∷ [])) f old newer (under_more ps d.done c)
        (stamped_then (under ps d.done) (in_subtree ps c) f old new newer s n)

    -- a child more: what numbering it did comes after what was done
    pub one_done : ((c ≡ FFFF) → ⊥) → (links : Links) → Linked ps links → (r : ℕ) (newer : SettledTree) → Numbered ps (in_subtree ps c) c new r newer → ChildrenDone ps x old newer (get_or links.next_siblings c 0) r
    one_done other links linked r newer n =
        let h : Current d.done c after = current_child other in
        record {
          done = d.done ++ c ∷ [];
          rest = h.tail;
          split = h.split ∙ sym (append_assoc d.done (c ∷ []) h.tail);
          current = linked.sibling_at c h.positive h.inside ∙ rw (h.parent, children_after ps x d.done c h.tail h.split);
          next_leaf = n.after ∙ rw (← h.start, d.next_leaf, flat_more (leaves ps) d.done c, length-append (flat_map (leaves ps) d.done) (leaves ps c)) (omega arith);
          depths_kept = n.depths_kept ∙ d.depths_kept;
          branches_kept = n.branches_kept ∙ d.branches_kept;
          firsts_hold = more_under (first_leaf ps) old.first_leaves new.first_leaves newer.first_leaves d.firsts_hold n.firsts_hold;
          lasts_hold = more_under (last_leaf ps) old.last_leaves new.last_leaves newer.last_leaves d.lasts_hold n.lasts_hold;
        }

    -- the next sibling has a greater number, or is FFFF
    pub sibling_greater : ((c ≡ FFFF) → ⊥) → (links : Links) → Linked ps links → (c < get_or links.next_siblings c 0) × (get_or links.next_siblings c 0 ≤ FFFF)
    sibling_greater other links linked =
        let h : Current d.done c after = current_child other in
        let e : get_or links.next_siblings c 0 ≡ head_d h.tail FFFF = linked.sibling_at c h.positive h.inside ∙ rw (h.parent, children_after ps x d.done c h.tail h.split) in
        let bounds : (y : ℕ) → Memᴰ y h.tail → (c < y) × (y < FFFF) = λ y m. (rest_greater ps t x d.done c h.tail h.split m, omega (arith, t.small, (child_parent ps t {y = y} known (rw h.split (mathlib.Core.List.Memᴰ.append_right d.done (mathlib.Core.List.Memᴰ.tail m)))).0)) in
        rw e (head_bounds c h.tail (omega (arith, t.small, h.inside)) bounds)

    -- all children are numbered: every descendant of x, and the leaves of x are passed
    pub all_done : c ≡ FFFF → 0 < length (children ps x) → Numbered ps (properly_in_subtree ps x) x old after new
    all_done e some =
        let small : (d' : ℕ) → Memᴰ d' d.rest → d' < FFFF = λ d' m. omega (arith, t.small, (child_parent ps t {y = d'} known (rw d.split (mathlib.Core.List.Memᴰ.append_right d.done m))).0) in
        let none : d.rest ≡ [] = no_head d.rest (sym e ∙ d.current) small in
        let whole : d.done ≡ children ps x = sym (append-nil d.done) ∙ ap (λ (l : List ℕ). d.done ++ l) (sym none) ∙ sym d.split in
        let all : (y : ℕ) → under ps d.done y ≡ properly_in_subtree ps x y = λ y. ap (λ (l : List ℕ). under ps l y) whole ∙ under_all ps t x known y in
        record {
          after = d.next_leaf ∙ rw (whole, leaves_of_children ps t x known some);
          depths_kept = d.depths_kept;
          branches_kept = d.branches_kept;
          firsts_hold = stamped_as (under ps d.done) (properly_in_subtree ps x) (first_leaf ps) old.first_leaves new.first_leaves all d.firsts_hold;
          lasts_hold = stamped_as (under ps d.done) (properly_in_subtree ps x) (last_leaf ps) old.last_leaves new.last_leaves all d.lasts_hold;
        }

-- ---- the two functions' own steps

module _ (ps : List ℕ) (links : Links) (x next : ℕ) (n : Numberable ps links x next) where
  -- the next leaf is one of the tree's
  pub next_small : next < length ps
  next_small = omega (arith, n.start, last_is ps n.tree x n.known, last_lt ps n.tree x n.known, leaves_nonempty ps x)

  first_child : get_or links.first_children x 0 ≡ head_d (children ps x) FFFF
  first_child = n.linked.child_at x n.known ∙ ap (λ (l : List ℕ). head_d l FFFF) (children_from_lem ps x)

  -- a layout with no children is a leaf
  pub leaf_numbered : get_or links.first_children x 0 ≡ FFFF → (settled : SettledTree) → Numbered ps (properly_in_subtree ps x) x settled (next + 1) settled
  leaf_numbered e settled =
      let small : (d : ℕ) → Memᴰ d (children ps x) → d < FFFF = λ d m. omega (arith, n.tree.small, (child_parent ps n.tree {y = d} n.known m).0) in
      let none : children ps x ≡ [] = no_head (children ps x) (sym e ∙ first_child) small in
      let nobody : (y : ℕ) → under ps [] y ≡ properly_in_subtree ps x y = λ y. ap (λ (l : List ℕ). under ps l y) (sym none) ∙ under_all ps n.tree x n.known y in
      record {
        after = rw (n.start, leaves_of_leaf ps n.tree x n.known none);
        depths_kept = refl;
        branches_kept = refl;
        firsts_hold = stamped_as (under ps []) (properly_in_subtree ps x) (first_leaf ps) settled.first_leaves settled.first_leaves nobody (nothing_under ps (first_leaf ps) settled.first_leaves);
        lasts_hold = stamped_as (under ps []) (properly_in_subtree ps x) (last_leaf ps) settled.last_leaves settled.last_leaves nobody (nothing_under ps (last_leaf ps) settled.last_leaves);
      }

  pub some_children : ((get_or links.first_children x 0 ≡ FFFF) → ⊥) → 0 < length (children ps x)
  unfolding head_d
  some_children other = go (children ps x) refl
    where
      go : (l : List ℕ) → children ps x ≡ l → 0 < length (children ps x)
      go [] e = absurd (other (first_child ∙ rw e))
      go (d ∷ l) e = rw e (omega arith)

  own_cell : (f : ℕ → ℕ) (old new : List ℕ) (v : ℕ) → length new ≡ layout_limit → v ≡ f x → Stamped (properly_in_subtree ps x) f old new → Stamped (in_subtree ps x) f old (set new x v)
  own_cell f old new v room e s =
      stamped_as (λ (y : ℕ). eqb y x || properly_in_subtree ps x y) (in_subtree ps x) f old (set new x v) (below_or_self ps n.tree x n.known)
      (stamped_set (properly_in_subtree ps x) f old new x v (omega (arith, n.known, n.tree.small)) e s)

  module _ (old new : SettledTree) where
    -- a layout's own cells, beside those of its descendants
    pub self_numbered : length new.first_leaves ≡ layout_limit → length new.last_leaves ≡ layout_limit → (r : ℕ) → Numbered ps (properly_in_subtree ps x) x old r new → Numbered ps (in_subtree ps x) x old r (record new { first_leaves = set new.first_leaves x next; last_leaves = set new.last_leaves x (r - 1) })
    self_numbered first_room last_room r b =
        let last : r - 1 ≡ last_leaf ps x = omega (arith, b.after, last_is ps n.tree x n.known) in
        record {
          after = b.after;
          depths_kept = b.depths_kept;
          branches_kept = b.branches_kept;
          firsts_hold = own_cell (first_leaf ps) old.first_leaves new.first_leaves next first_room n.start b.firsts_hold;
          lasts_hold = own_cell (last_leaf ps) old.last_leaves new.last_leaves (r - 1) last_room last b.lasts_hold;
        }

    -- what numbering the children passes on to numbering the current one
    pub child_numberable : (c after : ℕ) (d : ChildrenDone ps x old new c after) → ((c ≡ FFFF) → ⊥) → Numberable ps links c after
    child_numberable c after d other =
        let h : Current ps n.tree x n.known d.done c after = current_child ps n.tree x n.known old new c after d other in
        record { tree = n.tree; linked = n.linked; known = h.inside; start = h.start }
