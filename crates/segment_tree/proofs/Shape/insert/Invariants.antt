-- On the way up every inner node is right but the one at hand, which is right once it takes the place.
use Rattle.sweep_laws.specs.Nodes.{Inserting}
use Rattle.segment_tree.proofs.Shape.insert.Given as goal

abbrev pub invariant-loop-node : goal.invariant-loop-node
invariant-loop-node l = Inserting l.self.kept l.self.width l.place.0 l.initial.nodes l.nodes l.node

abbrev pub decreases-loop-node : goal.decreases-loop-node
decreases-loop-node l = l.node
