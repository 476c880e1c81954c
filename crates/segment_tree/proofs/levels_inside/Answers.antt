-- A number of 64 digits has at most 64 trailing zeros.
use native.Mathlib.Omega.{arith}
use Rattle.sweep_laws.specs.VisitCount.{levels_inside}
use Rattle.segment_tree.proofs.levels_inside.Goals as goal

pub returns : goal.returns
unfolding levels_inside
returns c = omega arith
