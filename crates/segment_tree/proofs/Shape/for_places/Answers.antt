-- The width is doubled until it holds all places, and no lesser power of two does.
use Rattle.sweep_laws.specs.Levels.{doubled_more, doubled_enough}
use Rattle.segment_tree.proofs.Shape.for_places.Goals as goal

pub loop-width-preserved : goal.loop-width-preserved
loop-width-preserved c = doubled_more _ _ c.loop-width.invariant c.loop-width-test.true

pub returns : goal.returns
returns c = record {
  width_is = doubled_enough _ _ c.loop-width.invariant c.loop-width-test.false;
  kept_some = c.kept_for-kept.ensures.0;
  kept_within = c.kept_for-kept.ensures.1;
}
