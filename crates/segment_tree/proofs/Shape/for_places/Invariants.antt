-- The width is doubled until it holds all places, and no lesser power of two does.
use Prim.Native.Nat.{◌-◌}
use Rattle.sweep_laws.specs.Levels.{Doubled}
use Rattle.segment_tree.proofs.Shape.for_places.Given as goal

abbrev pub invariant-loop-width : goal.invariant-loop-width
invariant-loop-width l = Doubled l.count l.width

abbrev pub decreases-loop-width : goal.decreases-loop-width
decreases-loop-width l = l.count - l.width
