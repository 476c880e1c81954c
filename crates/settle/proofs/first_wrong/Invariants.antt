-- `settle::first_wrong` meets its contract: the layouts passed are right.
use Rattle.std.proofs.Common.{◌≡◌, drop}
use Rattle.model.specs.Tree.{layouts_from}
use Rattle.settle.proofs.first_wrong.Given as goal

abbrev pub invariant-loop-x : goal.invariant-loop-x
invariant-loop-x l = layouts_from 0 l.parents ≡ layouts_from l.x (drop l.x l.parents)
