-- `settle::SettledTree::set_ways_up` meets its contract. The loop's invariant: the ways up from the layouts passed are set.
use Rattle.settle.proofs.WaysUp.{WaysBelow}
use Rattle.settle.proofs.SettledTree.set_ways_up.Given as goal

abbrev pub invariant-loop-x : goal.invariant-loop-x
invariant-loop-x l = WaysBelow l.parents l.x l.self
