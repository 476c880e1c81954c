-- On the way up each inner node is right but the parent of the node at hand.
use Rattle.sweep_laws.specs.Nodes.{Removing}
use Rattle.segment_tree.proofs.Shape.remove.Given as goal

abbrev pub invariant-loop-node : goal.invariant-loop-node
invariant-loop-node l = Removing l.self.kept l.self.width l.initial.nodes l.nodes l.node l.least.0

abbrev pub decreases-loop-node : goal.decreases-loop-node
decreases-loop-node l = l.node
