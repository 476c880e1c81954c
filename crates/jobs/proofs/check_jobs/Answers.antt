-- `jobs::check_jobs` meets its contract. The loop's invariant: the verdict on all jobs is that on those from j on.
use Rattle.jobs.proofs.JobVerdicts.{none_checked, one_more, wrong_job, all_checked}
use Rattle.jobs.proofs.check_jobs.Goals as goal

pub loop-j-init : goal.loop-j-init
loop-j-init c = none_checked _ _ _ _ _

pub returns-in-Err : goal.returns-in-Err
returns-in-Err c =
    let checked = rw (c.layout_at-top.ensures, c.layout_at-bottom.ensures, c.window_of-window.ensures) at c.check_job.ensures in
    wrong_job _ _ _ _ _ _ c.loop-j-test.true _ checked c.loop-j.invariant _ c.in-Err.is

pub loop-j-preserved : goal.loop-j-preserved
loop-j-preserved c =
    let checked = rw (c.layout_at-top.ensures, c.layout_at-bottom.ensures, c.window_of-window.ensures) at c.check_job.ensures in
    one_more _ _ _ _ _ _ c.loop-j-test.true _ checked c.loop-j.invariant _ c.in_default.is

pub returns : goal.returns
returns c = all_checked _ _ _ _ _ _ c.loop-j-test.false c.loop-j.invariant _
