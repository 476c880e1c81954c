-- The sweep goes from the schedule that the cells hold to the groups of the rule, place by place.
use native.Mathlib.Omega.{arith}
use Rattle.group_sweep.specs.Whole.{groups_next, groups_steppable, groups_all, groups_short}
use Rattle.group_sweep.proofs.group_sweep.Goals as goal

pub group_step-requires : goal.group_step-requires
group_step-requires c = (_, groups_steppable _ _ _ _ _ _ _ _ c.requires c.for_places-shape.ensures _ c.clear.auto.nodes c.clear.ensures _ _ _ _ _ _ c.loop-turn.invariant (omega arith))

pub returns-in_err-progress : goal.returns-in_err-progress
returns-in_err-progress c =
    let steppable = groups_steppable _ _ _ _ _ _ _ _ c.requires c.for_places-shape.ensures _ c.clear.auto.nodes c.clear.ensures _ _ _ _ _ _ c.loop-turn.invariant (omega arith) in
    let stopped = rw c.in_err-progress.was at (c.group_step.ensures _ steppable) in
    rw c.from_residual.ensures (groups_short _ _ _ _ _ _ _ _ c.requires c.for_places-shape.ensures _ c.clear.auto.nodes c.clear.ensures _ _ _ _ _ _ c.loop-turn.invariant _ _ stopped)

pub loop-turn-preserved : goal.loop-turn-preserved
loop-turn-preserved c =
    let steppable = groups_steppable _ _ _ _ _ _ _ _ c.requires c.for_places-shape.ensures _ c.clear.auto.nodes c.clear.ensures _ _ _ _ _ _ c.loop-turn.invariant (omega arith) in
    let turned = rw c.in_ok-progress.was at (c.group_step.ensures _ steppable) in
    groups_next _ _ _ _ _ _ _ _ _ _ _ _ _ _ _ _ _ (omega arith) c.group_step.auto.members turned c.loop-turn.invariant

pub returns : goal.returns
returns c = groups_all _ _ _ _ _ _ _ _ c.requires c.for_places-shape.ensures _ c.clear.auto.nodes c.clear.ensures _ _ _ _ _ _ c.loop-turn.invariant (omega arith)
