-- The sweep goes from the schedule that the cells hold to the passes of the greedy rule, place by place.
use Rattle.sweep_laws.specs.Sweep.{SweptTo}
use Rattle.sweep.proofs.sweep.Given as goal

abbrev pub invariant-loop-i : goal.invariant-loop-i
invariant-loop-i l = SweptTo l.partition.count l.starts l.gaps l.partition.shape.kept l.partition.shape.width l.initial.work l.i l.progress.reached.next l.progress.reached.last.0 l.progress.passes l.progress.pairs l.progress.visits l.work
