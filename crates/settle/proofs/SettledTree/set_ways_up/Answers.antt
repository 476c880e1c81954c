-- `settle::SettledTree::set_ways_up` meets its contract. The loop's invariant: the ways up from the layouts passed are set.
use Rattle.std.proofs.Common.{arith}
use Rattle.settle.proofs.WaysUp.{ways_root, parent_fits, ways_more, ways_all}
use Rattle.settle.proofs.SettledTree.set_ways_up.Goals as goal

pub loop-x-init : goal.loop-x-init
loop-x-init c = ways_root _ c.requires _ (omega arith) (omega arith)

pub overflow_add-self : goal.overflow_add-self
overflow_add-self c = omega (arith, parent_fits _ c.requires _ _ c.loop-x.invariant, c.requires.small)

pub loop-x-preserved : goal.loop-x-preserved
loop-x-preserved c = ways_more _ c.requires _ _ c.loop-x.invariant c.loop-x-test.true _ c.branch_below-branch.ensures (omega arith) (omega arith)

pub returns : goal.returns
returns c = ways_all _ _ _ c.loop-x-test.false c.loop-x.invariant
