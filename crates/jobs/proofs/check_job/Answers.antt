-- `jobs::check_job` meets its contract: one law of the job's verdict at each return.
use Rattle.std.proofs.Common.{sym, arith}
use borrow.Author.Tests.{ltb-true}
use Rattle.jobs.proofs.JobVerdicts.{no_top, no_bottom, not_below, beyond, right}
use Rattle.jobs.proofs.check_job.Goals.{then-not-is_among-via-then-not-is_among, then-not-is_among-via-else-not-is_among+then-not-is_among-2}
use Rattle.jobs.proofs.check_job.Goals as goal

pub returns-then-not-is_among : goal.returns-then-not-is_among
returns-then-not-is_among c = elim c.then-not-is_among.branch [
  | then-not-is_among-via-then-not-is_among w ↦ no_top _ _ _ _ _ w.if-not-is_among.ensures
  | then-not-is_among-via-else-not-is_among+then-not-is_among-2 w ↦ no_bottom _ _ _ _ _ w.if-not-is_among-2.ensures
]

pub is_ancestor-requires : goal.is_ancestor-requires
is_ancestor-requires c = omega (arith, ltb-true _ _ (sym c.if-not-is_among.ensures), ltb-true _ _ (sym c.if-not-is_among-2.ensures))

pub returns-then-not-is_ancestor : goal.returns-then-not-is_ancestor
returns-then-not-is_ancestor c = not_below _ _ _ _ _ c.if-not-is_among.ensures c.if-not-is_among-2.ensures _ c.is_ancestor.ensures c.if-not-is_ancestor.true

pub returns-then-not-is_known : goal.returns-then-not-is_known
returns-then-not-is_known c = beyond _ _ _ _ _ c.if-not-is_among.ensures c.if-not-is_among-2.ensures _ c.is_ancestor.ensures c.if-not-is_ancestor.false c.if-not-is_known.ensures

pub returns : goal.returns
returns c = right _ _ _ _ _ c.if-not-is_among.ensures c.if-not-is_among-2.ensures _ c.is_ancestor.ensures _ c.if-not-is_ancestor.false c.if-not-is_known.ensures
