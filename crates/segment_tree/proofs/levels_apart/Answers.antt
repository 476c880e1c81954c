-- The ends differ in a digit.
use native.Mathlib.Omega.{arith}
use Rattle.sweep_laws.specs.VisitCount.{levels_apart}
use Rattle.sweep_laws.specs.SharedLevels.{digit_known}
use Rattle.segment_tree.proofs.levels_apart.Goals as goal

pub overflow_sub-digit : goal.overflow_sub-digit
overflow_sub-digit c = omega (arith, digit_known 0 c.args.from c.args.to c.requires c.ranges.to.fits (omega arith))

pub returns : goal.returns
unfolding levels_apart
returns c = rw (c.max.ensures, c.min-zeros.ensures)
