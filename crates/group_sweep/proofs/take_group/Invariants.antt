-- The place leaves the tree, and takes mate after mate, until it has enough or finds no more.
use Prim.Native.Nat.{ℕ, ◌≤◌}
use mathlib.Core.Path.{◌≡◌}
use mathlib.Core.List.{List}
use lib.ListN.{length}
use Rattle.schedule.specs.Schedule.{Schedule, Near}
use Rattle.group_sweep.specs.Grouped.{SoFar}
use Rattle.group_sweep.proofs.take_group.Given as goal

abbrev pub invariant-loop-taken : goal.invariant-loop-taken
invariant-loop-taken l = (l.taken ≤ l.fn.lanes.0) × (length l.members ≡ l.partition.count) × ((s : Schedule) (next base size : ℕ) (old before : List ℕ) → Near s l.gaps →
    SoFar s l.partition.count l.fn.lanes.0 l.partition.shape.kept l.partition.shape.width base size l.place.0 l.initial.first.0 l.last.0 next l.to l.at 1 old before l.initial.work l.initial.members →
    SoFar s l.partition.count l.fn.lanes.0 l.partition.shape.kept l.partition.shape.width base size l.place.0 l.first.0 l.last.0 next l.to l.at l.taken old before l.work l.members)
