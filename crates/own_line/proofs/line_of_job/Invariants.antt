-- `own_line::line_of_job` meets its contract: line by line it looks for the same job.
use Prim.Native.Nat.{◌-◌}
use lib.ListN.{length}
use Rattle.own_line.specs.OwnLine.{Looking}
use Rattle.own_line.proofs.line_of_job.Given as goal

abbrev pub invariant-loop-at : goal.invariant-loop-at
invariant-loop-at l = Looking l.bytes l.fn.job.0 l.at l.line l.before

abbrev pub decreases-loop-at : goal.decreases-loop-at
decreases-loop-at l = length l.bytes - l.at
