-- The tops that the loop has passed are copied.
use Rattle.planner.specs.Copies.{CopiedTo}
use Rattle.planner.proofs.copy_columns.Given as goal

abbrev pub invariant-loop-j : goal.invariant-loop-j
invariant-loop-j l = CopiedTo l.j l.tops l.initial.uppers l.uppers
