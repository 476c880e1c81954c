-- Each place that is passed by does not wait in the span, so none comes before the next.
use mathlib.Core.Path.{◌≡◌}
use Prim.Native.Nat.{ℕ, ◌+◌, ◌*◌}
use lib.ListN.{get_or}
use Rattle.schedule.specs.InWork.{from_part}
use Rattle.sweep_laws.specs.Sweeping.{MateSearchable}
use Rattle.sweep.proofs.Partition.approach.Given as goal

-- the mate of any place that asks for the span can be looked for from here on
abbrev pub invariant-loop : goal.invariant-loop
invariant-loop l = (p : ℕ) → l.from ≡ get_or l.work (from_part * l.self.count + p) 0 → MateSearchable l.self.count l.self.shape.kept l.self.shape.width p l.initial.first.0 l.last.0 l.to l.work → MateSearchable l.self.count l.self.shape.kept l.self.shape.width p l.first.0 l.last.0 l.to l.work
