-- Both ends of what two partners share (document 02, 2026-02): U and L of a pair are the first and the last number of the shared stretch of their paths, and U is the highest
-- layout other than 0 of the earlier job.
use Rattle.std.specs.Prelude.{ℕ, ◌<◌, ◌≡◌, length}
use mathlib.Core.List.{head_d}
use Rattle.model.specs.Lists.{last_d}
use Rattle.model.specs.Tree.{FFFF}
use Rattle.model.specs.Jobs.{Table, highest}
use Rattle.model.specs.Order.{place}
use Rattle.stretch.specs.SharedLayouts.{stretch_of_paths}

-- what job i, whose partner is j, finds as U and L
pub record BothEnds (tb : Table) (i j upper lower : ℕ) : Type 0 where
  pub some : 0 < length (stretch_of_paths tb i j)
  pub begins : upper ≡ head_d (stretch_of_paths tb i j) FFFF
  pub ends : lower ≡ last_d (stretch_of_paths tb i j) FFFF
  pub of_earlier : place tb i < place tb j → upper ≡ highest tb i
  pub of_partner : place tb j < place tb i → upper ≡ highest tb j
