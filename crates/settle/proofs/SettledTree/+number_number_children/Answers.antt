-- `settle::number` and `settle::number_children` meet their contracts.
use Rattle.std.proofs.Common.{sym, ◌∙◌, arith}
use Rattle.settle.proofs.LinkCells.{link_some, link_back, link_absent, link_present, link_over}
use Rattle.tree_laws.specs.Leaves.{leaves_nonempty}
use Rattle.settle.proofs.Walk.{none_done, current_child, one_done, sibling_greater, all_done, next_small, leaf_numbered, some_children, self_numbered, child_numberable}
use Rattle.settle.proofs.SettledTree.+number_number_children.Goals as goal

pub number-number_children-after-requires : goal.number-number_children-after-requires
number-number_children-after-requires t c =
    let n = c.requires.1 in
    (omega (arith, c.decreases, n.known, n.tree.small), c.requires)

pub number-overflow_sub-self : goal.number-overflow_sub-self
number-overflow_sub-self t c = omega (arith, (c.number_children-after.ensures _ c.requires.1).after, leaves_nonempty c.requires.0 c.args.x.0)

pub number-returns : goal.number-returns
number-returns t c = λ ps n. self_numbered _ _ _ _ n _ _ (omega arith) (omega arith) _ (c.number_children-after.ensures ps n)

pub number_children-overflow_add-result : goal.number_children-overflow_add-result
number_children-overflow_add-result t c = let n = c.requires.1 in omega (arith, next_small _ _ _ _ n, n.tree.small)

pub number_children-returns-then-is_none : goal.number_children-returns-then-is_none
number_children-returns-then-is_none t c = λ ps n.
    let none = c.if-is_none.ensures in
    leaf_numbered _ _ _ _ n (rw c.from.ensures at (link_absent _ (rw c.linked-child.ensures at none))) _

pub number_children-loop-child-init : goal.number_children-loop-child-init
number_children-loop-child-init t c = (_, c.linked-child.ensures, λ ps n. none_done _ n.tree _ n.known _ _ _ (rw c.from.ensures (n.linked.child_at _ n.known)) n.start)

-- the child at hand is a layout, and so has a cell
pub number_children-bounds-links-from-in-Some : goal.number_children-bounds-links-from-in-Some
number_children-bounds-links-from-in-Some t c =
    let n = c.requires.1 in
    let at_hand = link_some _ _ (sym c.loop-child.invariant.1 ∙ c.in-Some.is) in
    let h = current_child _ n.tree _ n.known _ _ _ _ (c.loop-child.invariant.2 _ n) at_hand.1 in
    omega (arith, h.inside, n.tree.small, at_hand.0, c.from-in-Some.ensures)

pub number_children-number-after-requires : goal.number_children-number-after-requires
number_children-number-after-requires t c =
    let n = c.requires.1 in
    let done = c.loop-child.invariant.2 _ n in
    let at_hand = link_some _ _ (sym c.loop-child.invariant.1 ∙ c.in-Some.is) in
    let h = current_child _ n.tree _ n.known _ _ _ _ done at_hand.1 in
    (omega (arith, c.decreases, h.greater, h.inside, n.tree.small, at_hand.0), (_, rw (← at_hand.0) at (child_numberable _ _ _ _ n _ _ _ _ done at_hand.1)))

pub number_children-loop-child-smaller : goal.number_children-loop-child-smaller
number_children-loop-child-smaller t c =
    let n = c.requires.1 in
    let at_hand = link_some _ _ (sym c.loop-child.invariant.1 ∙ c.in-Some.is) in
    let greater = sibling_greater _ n.tree _ n.known _ _ _ _ (c.loop-child.invariant.2 _ n) at_hand.1 _ n.linked in
    rw (c.linked-child-in-Some.ensures, c.loop-child.invariant.1, link_back, link_back, c.from-in-Some.ensures, at_hand.0) (omega (arith, greater))

pub number_children-loop-child-preserved : goal.number_children-loop-child-preserved
number_children-loop-child-preserved t c =
    let at_hand = link_some _ _ (sym c.loop-child.invariant.1 ∙ c.in-Some.is) in (
      _,
      c.linked-child-in-Some.ensures,
      λ ps n.
          let done = c.loop-child.invariant.2 ps n in
          let numbered = rw at_hand.0 at (c.number-after.ensures ps (rw (← at_hand.0) at (child_numberable _ _ _ _ n _ _ _ _ done at_hand.1))) in
          rw (c.from-in-Some.ensures, at_hand.0) (one_done _ n.tree _ n.known _ _ _ _ done at_hand.1 _ n.linked _ _ numbered),
    )

pub number_children-returns : goal.number_children-returns
number_children-returns t c = λ ps n.
    let some = c.if-is_none.ensures in
    let first = rw c.from.ensures at (link_present _ (rw c.linked-child.ensures at some)) in
    all_done _ n.tree _ n.known _ _ _ _ (c.loop-child.invariant.2 ps n) (link_over _ _ c.loop-child.invariant.1 c.in_default.not-Some) (some_children _ _ _ _ n first)
