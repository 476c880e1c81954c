-- Each turn takes the parent of one layout more in, at its first leaf.
use Rattle.ancestry.proofs.Rows.{ParentsTo}
use Rattle.ancestry.proofs.set_parents.Given as goal

abbrev pub invariant-loop-x : goal.invariant-loop-x
invariant-loop-x l = ParentsTo l.parents l.x l.minima
