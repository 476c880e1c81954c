-- What is read is refused, planned or grouped.
use Rattle.std.proofs.lemmas.Result.{err_from_is_err_and}
use Rattle.model.specs.Table.{read_table}
use Rattle.table.specs.Whole.{TableHeld}
use Rattle.run.specs.declared.Press.TheVariants as press
use Rattle.run.specs.Whole.{refusal_told, plan_printed, printed_as}
use Rattle.run.proofs.run_in.Goals as goal

pub returns-in_err-counts : goal.returns-in_err-counts
returns-in_err-counts c =
    let same = err_from_is_err_and c.from_residual.result c.from_residual.ensures.1 in
    rw (same.1, same.2) (refusal_told c.args.press.press _ _ _ c.in_err-counts.ensures)

pub returns-in-TwoLanes : goal.returns-in-TwoLanes
returns-in-TwoLanes c =
    let v = c.read_into.new in
    let held : TableHeld (read_table c.args.input.now) v.parents v.tops v.bottoms v.marks v.windows v.tree c.in_ok-counts.counts.layouts c.in_ok-counts.counts.jobs = c.in_ok-counts.ensures in
    rw c.in-TwoLanes.is (printed_as press.TwoLanes _ _ _ _ _ _ _ _ _ _ _ _ held (plan_printed _ _ _ _ (rw (c.from-jobs.ensures, c.from.ensures) at c.print_table.ensures.printed)))
