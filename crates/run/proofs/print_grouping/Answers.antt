-- The groups are printed where all are full, and else it is 14.
use Rattle.std.proofs.Common.{refl}
use Rattle.run.specs.Presses.{groups_printed_as, short_told}
use Rattle.run.proofs.print_grouping.Goals as goal

pub returns-in_default : goal.returns-in_default
returns-in_default c = λ tb m. (refl, short_told tb _ (rw c.in_default.is at m))

pub returns : goal.returns
returns c = λ tb m. let p = rw c.in-Some.is at m in groups_printed_as tb _ _ _ _ p.full (c.print_groups.ensures tb p)
