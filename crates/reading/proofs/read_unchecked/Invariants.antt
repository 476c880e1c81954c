-- `reading::read_unchecked` meets its contract: each line makes its step, and the cells hold what was read so far.
use Prim.Native.Nat.{◌-◌}
use lib.ListN.{length}
use Rattle.reading.proofs.Reading.{Reading}
use Rattle.reading.proofs.read_unchecked.Given as goal

abbrev pub invariant-loop-p : goal.invariant-loop-p
invariant-loop-p l = Reading l.bytes l.initial.parents l.initial.tops l.initial.bottoms l.initial.marks l.initial.windows l.parents l.tops l.bottoms l.marks l.windows l.p.0 l.p.1.0 l.p.1.1.0 l.p.1.1.1.0

abbrev pub decreases-loop-p : goal.decreases-loop-p
decreases-loop-p l = length l.bytes - l.p.0
