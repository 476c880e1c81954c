-- `jobs::check_jobs` meets its contract. The loop's invariant: the verdict on all jobs is that on those from j on.
use Rattle.jobs.proofs.JobVerdicts.{RightBelow}
use Rattle.jobs.proofs.check_jobs.Given as goal

abbrev pub invariant-loop-j : goal.invariant-loop-j
invariant-loop-j l = RightBelow l.layouts l.tops l.bottoms l.windows l.tree l.j
