-- The nodes that are left, with the places taken in on the way up, have the smallest place of the span.
use Rattle.sweep_laws.specs.NodeSpans.{narrowed_smallest}
use Rattle.segment_tree.proofs.Shape.range_minimum.Goals as goal

pub returns : goal.returns
returns c = narrowed_smallest _ _ _ c.requires.segment_tree _ _ _ _ _ _ c.requires.to_le_width c.narrow-span.ensures c.level_minimum.ensures
