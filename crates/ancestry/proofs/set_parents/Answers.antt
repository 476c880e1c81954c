-- Each turn takes the parent of one layout more in, at its first leaf.
use Rattle.std.proofs.Common.{◌≡◌, ◌+◌, min, get_or, rules}
use Rattle.ancestry.proofs.Rows.{leaf_inside, parents_none, parents_more, parents_all}
use Rattle.ancestry.proofs.set_parents.Goals as goal

pub loop-x-init : goal.loop-x-init
loop-x-init c = parents_none _ _ c.requires.spanned.tree.nonempty c.requires.roomy c.requires.minima_value

pub bounds-minima-at : goal.bounds-minima-at
bounds-minima-at c = rw c.requires.stride_value (leaf_inside _ _ c.requires.spanned _ c.loop-x.invariant.roomy _ _ c.loop-x-test.true c.first_leaf.ensures.value)

pub bounds-minima-at-in-loop-x : goal.bounds-minima-at-in-loop-x
bounds-minima-at-in-loop-x c = rw c.requires.stride_value (leaf_inside _ _ c.requires.spanned _ c.loop-x.invariant.roomy _ _ c.loop-x-test.true c.first_leaf.ensures.value)

pub loop-x-preserved : goal.loop-x-preserved
loop-x-preserved c =
    let lesser : c.min.result.0 ≡ min (get_or c.loop-x.minima (c.args.stride + c.first_leaf.result) 0) (get_or c.args.parents.now c.loop-x.x 0) = search rules in
    let taken = rw c.requires.stride_value at lesser in
    rw c.requires.stride_value (parents_more _ _ c.requires.spanned _ _ _ _ c.loop-x-test.true c.first_leaf.ensures.value taken c.loop-x.invariant)

pub returns : goal.returns
returns c = parents_all _ _ _ c.loop-x-test.false c.loop-x.invariant
