-- On the way up the nodes that are left, with the places taken in so far, have the smallest place of the span.
use Rattle.sweep_laws.specs.NodeSpans.{Narrowed}
use Rattle.segment_tree.proofs.Shape.narrow.Given as goal

abbrev pub invariant-loop-left : goal.invariant-loop-left
invariant-loop-left l = Narrowed l.self.kept l.self.width l.nodes l.from l.to l.left l.right l.least.0

abbrev pub decreases-loop-left : goal.decreases-loop-left
decreases-loop-left l = l.right
