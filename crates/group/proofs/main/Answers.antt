-- What is written lies within the output.
use Rattle.std.proofs.Common.{sym, length-take-le}
use Rattle.run.specs.Within.{group_run_within}
use Rattle.group.proofs.main.Goals as goal

pub slice_bounds-groups-end : goal.slice_bounds-groups-end
slice_bounds-groups-end c = group_run_within _ _ _ _ _ c.group_run-printed.ensures

pub slice_bounds-write_all-end : goal.slice_bounds-write_all-end
slice_bounds-write_all-end c = sym (length-take-le _ _ (group_run_within _ _ _ _ _ c.group_run-printed.ensures))
