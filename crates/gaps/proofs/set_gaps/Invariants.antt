-- The places passed, from the last up, have their gaps, and the nearest place of each window is known.
use Rattle.std.specs.Prelude.{length}
use Rattle.gaps.specs.Gaps.{GapsFrom}
use Rattle.gaps.specs.GapLaws.{NearestFrom}
use Rattle.gaps.proofs.set_gaps.Given as goal

abbrev pub invariant-loop-p : goal.invariant-loop-p
invariant-loop-p l = GapsFrom (length l.initial.gaps) l.work l.p l.gaps × NearestFrom (length l.initial.gaps) l.work l.p l.nearest
