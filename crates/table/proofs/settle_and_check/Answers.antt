-- `table::settle_and_check` meets its contract: the jobs are checked in the settled tree.
use native.Mathlib.Omega.{arith}
use lib.Seq.{length-take-le}
use Rattle.reading.specs.Steps.{held}
use Rattle.table.specs.Whole.{right_tree, wrong_placed, lines_outcome}
use Rattle.table.proofs.settle_and_check.Goals as goal

pub settle-requires : goal.settle-requires
settle-requires c =
    let v = c.args.buffers.now in
    let read = c.requires in
    let n = length-take-le _ v.parents.now read.holds.parents_hold in
    rw c.from-layouts.ensures (right_tree _ (omega (arith, n, read.some_layout)) (omega (arith, n, read.holds.few_layouts)) read.holds.right)

pub answer-requires : goal.answer-requires
answer-requires c =
    wrong_placed _ _ _ _ _ _ _ _ _ _ _ c.requires (rw c.from-layouts.ensures at c.settle.ensures)
    (rw (c.from-layouts.ensures, c.from-jobs.ensures) at c.check_jobs-check.ensures)

pub returns : goal.returns
returns c =
    let v = c.args.buffers.now in
    let read = c.requires in
    let n = c.args.ended.counts in
    lines_outcome _ _ _ _ _ _ _ _ _ _ _ read (rw c.from-layouts.ensures at c.settle.ensures) (rw (c.from-layouts.ensures, c.from-jobs.ensures) at c.check_jobs-check.ensures) c.answer.result
    (c.answer.ensures (held v.parents.now v.tops.now v.bottoms.now v.marks.now v.windows.now n.layouts n.jobs) (length-take-le n.layouts v.parents.now read.holds.parents_hold) (length-take-le n.jobs v.tops.now read.holds.tops_hold))
