-- The sweep goes from the schedule that the cells hold to the passes of the greedy rule, place by place.
use Rattle.sweep_laws.specs.Sweep.{swept_next, swept_steppable, swept_all}
use Rattle.sweep.proofs.sweep.Goals as goal

pub step-progress-requires : goal.step-progress-requires
step-progress-requires c = swept_steppable _ _ _ _ _ _ c.requires c.for_places-shape.ensures _ c.clear.auto.nodes c.clear.ensures _ _ _ _ _ _ _ c.loop-i.invariant c.loop-i-test.true

pub loop-i-preserved : goal.loop-i-preserved
loop-i-preserved c = swept_next _ _ _ _ _ _ _ _ _ _ _ _ _ _ _ _ _ _ _ c.loop-i-test.true c.step-progress.ensures c.loop-i.invariant

pub returns : goal.returns
returns c = swept_all _ _ _ _ _ _ c.requires c.for_places-shape.ensures _ c.clear.auto.nodes c.clear.ensures _ _ _ _ _ _ _ c.loop-i.invariant c.loop-i-test.false
