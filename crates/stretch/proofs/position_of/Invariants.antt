-- `position_of`: no place before the next one holds the layout.
use Rattle.stretch.proofs.Laws.{PassedBy}
use Rattle.stretch.proofs.position_of.Given as goal

abbrev pub invariant-loop-position : goal.invariant-loop-position
invariant-loop-position l = PassedBy l.layout.0 l.list l.position
