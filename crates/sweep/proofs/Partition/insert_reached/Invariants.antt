-- On the way from `next` to `due` the places reached so far wait in the tree, none of them after the last.
use Rattle.sweep_laws.specs.Reaching.{ReachingTo}
use Rattle.sweep.proofs.Partition.insert_reached.Given as goal

abbrev pub invariant-loop-at : goal.invariant-loop-at
invariant-loop-at l = ReachingTo l.self.count l.self.shape.kept l.self.shape.width l.initial.at l.initial.last.0 l.due l.initial.work l.at l.last.0 l.work
