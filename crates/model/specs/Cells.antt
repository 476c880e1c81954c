-- A number cell that holds a place, or FFFF for none (docs/RULES.md, 2).
use Rattle.std.specs.Prelude.{ℕ, Option, Some, None, cond, eqb}
use Rattle.model.specs.Tree.{FFFF}
use Rattle.model.specs.declared.Rank.{Rank}

-- the place that a cell holds
abbrev pub place_in : ℕ → Option Rank
place_in cell = cond (eqb cell FFFF) None (Some (record { 0 = cell }))

-- the cell that holds a place, or none
abbrev pub cell_of : Option Rank → ℕ
cell_of (Some place) = place.0
cell_of None = FFFF
