-- A slot outside the span holds none of it, and in the span the cell of the slot tells.
use native.Mathlib.Omega.{arith}
use Rattle.sweep.proofs.Partition.waits.Goals.{then-slot-from-via-then-slot-from, then-slot-from-via-else-slot-from+then-to-slot}
use Rattle.sweep.proofs.Partition.waits.Goals as goal

pub returns-then-slot-from : goal.returns-then-slot-from
returns-then-slot-from c = λ none starts below. absurd (elim c.then-slot-from.branch [
  | then-slot-from-via-then-slot-from w ↦ omega (arith, w.if-slot-from.true, rw (← c.number_in-slot.ensures) at starts)
  | then-slot-from-via-else-slot-from+then-to-slot w ↦ omega (arith, w.if-to-slot.true, rw (← c.number_in-slot.ensures) at below)
])
