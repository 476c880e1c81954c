-- `planner::plan` meets its contract: each refusal has its ground, and with none the table is planned.
use Rattle.std.proofs.Common.{refl, ap}
use Rattle.std.proofs.lemmas.Result.{err_from_is_err_and}
use Rattle.model.specs.Answers.{settled_answer}
use Rattle.settle.specs.Checked.{checked_refused, checked_accepted, checked_tree}
use Rattle.jobs.specs.PlanVerdict.{many_jobs, wrong_layouts, right_layouts}
use Rattle.planner.specs.Planned.{refused_as}
use Rattle.planner.proofs.plan.Goals as goal

pub returns-then-tops-gt-LIMIT : goal.returns-then-tops-gt-LIMIT
returns-then-tops-gt-LIMIT c =
    let lent = c.is_enough.ensures.enough c.if-not-is_enough.false in
    refused_as _ _ _ _ _ _ _ 3 0 (many_jobs _ _ _ _ _ lent c.if-tops-gt-LIMIT.true) refl

pub returns-in_err-check_layouts : goal.returns-in_err-check_layouts
returns-in_err-check_layouts c =
    let lent = c.is_enough.ensures.enough c.if-not-is_enough.false in
    let wrong = checked_refused c.args.parents.now _ c.check_layouts.ensures _ _ (ap settled_answer c.in_err-check_layouts.was) in
    let same = err_from_is_err_and c.from_residual.result c.from_residual.ensures.1 in
    rw (same.1, same.2) (refused_as _ _ _ _ _ _ _ _ _ (wrong_layouts _ _ _ _ _ lent c.if-tops-gt-LIMIT.false _ _ wrong) refl)

pub plan_jobs-requires-clause-lent : goal.plan_jobs-requires-clause-lent
plan_jobs-requires-clause-lent c = c.is_enough.ensures.enough c.if-not-is_enough.false

pub plan_jobs-requires-clause-tree : goal.plan_jobs-requires-clause-tree
plan_jobs-requires-clause-tree c = checked_tree _ _ c.check_layouts.ensures (ap settled_answer c.in_ok-check_layouts.was)

pub returns : goal.returns
returns c =
    let lent = c.is_enough.ensures.enough c.if-not-is_enough.false in
    let right = checked_accepted c.args.parents.now _ c.check_layouts.ensures (ap settled_answer c.in_ok-check_layouts.was) in
    rw (right_layouts _ _ _ _ _ lent c.if-tops-gt-LIMIT.false right) c.plan_jobs.ensures
