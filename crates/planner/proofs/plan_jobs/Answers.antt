-- `planner::plan_jobs` meets its contract: its jobs are wrong, or the table is accepted.
use Rattle.std.proofs.Common.{refl, ◌∙◌}
use Rattle.planner.specs.Planned.{copies_accepted, room, planned_as}
use Rattle.planner.proofs.RightJobs.{none_wrong}
use Rattle.planner.proofs.plan_jobs.Goals as goal

pub plan_accepted-totals-requires-clause-accepted : goal.plan_accepted-totals-requires-clause-accepted
plan_accepted-totals-requires-clause-accepted c =
    let right = c.check_jobs.ensures.verdict _ c.args.table.marks.now refl (λ h. c.settle.ensures) ∙ none_wrong _ c.in_ok-map_err.ensures.variant in
    let copied = c.copy_columns.ensures in
    copies_accepted _ _ _ _ _ c.args.partners.now c.args.uppers.now c.args.printed.now c.args.work.now c.requires.lent c.requires.tops_len_bound c.requires.tree right _ _ _ copied.uppers_after copied.quiet_after

pub plan_accepted-totals-requires-clause-room : goal.plan_accepted-totals-requires-clause-room
plan_accepted-totals-requires-clause-room c =
    let right = c.check_jobs.ensures.verdict _ c.args.table.marks.now refl (λ h. c.settle.ensures) ∙ none_wrong _ c.in_ok-map_err.ensures.variant in
    let copied = c.copy_columns.ensures in
    room _ _ _ _ _ c.args.partners.now c.args.uppers.now c.args.printed.now c.args.work.now c.requires.lent c.requires.tops_len_bound c.requires.tree right _ _ _ copied.uppers_after copied.quiet_after

pub returns : goal.returns
returns c =
    let right = c.check_jobs.ensures.verdict _ c.args.table.marks.now refl (λ h. c.settle.ensures) ∙ none_wrong _ c.in_ok-map_err.ensures.variant in
    let copied = c.copy_columns.ensures in
    planned_as _ _ _ _ _ c.args.partners.now c.args.uppers.now c.args.printed.now c.args.work.now c.requires.lent c.requires.tops_len_bound c.requires.tree right _ _ _ copied.uppers_after copied.quiet_after _ _ _ _ _ c.plan_accepted-totals.ensures
