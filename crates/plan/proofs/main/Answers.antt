-- What is written lies within the output.
use Rattle.std.proofs.Common.{sym, length-take-le}
use Rattle.run.specs.Within.{run_within}
use Rattle.plan.proofs.main.Goals as goal

pub slice_bounds-plan-end : goal.slice_bounds-plan-end
slice_bounds-plan-end c = run_within _ _ _ _ c.whole_run-printed.ensures

pub slice_bounds-write_all-end : goal.slice_bounds-write_all-end
slice_bounds-write_all-end c = sym (length-take-le _ _ (run_within _ _ _ _ c.whole_run-printed.ensures))
