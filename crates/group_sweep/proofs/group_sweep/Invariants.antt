-- The sweep goes from the schedule that the cells hold to the groups of the rule, place by place.
use Rattle.group_sweep.specs.Whole.{GroupsTo}
use Rattle.group_sweep.proofs.group_sweep.Given as goal

abbrev pub invariant-loop-turn : goal.invariant-loop-turn
invariant-loop-turn l = GroupsTo l.partition.count l.lanes.0 l.starts l.gaps l.partition.shape.kept l.partition.shape.width l.initial.members l.initial.work l.turn l.progress.reached.next l.progress.reached.last.0 l.progress.groups l.members l.work
