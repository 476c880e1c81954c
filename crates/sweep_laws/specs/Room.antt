-- How many work cells a sweep needs: six parts of one cell for each place, and a segment tree of twice the power of two that holds them.
use Rattle.std.specs.Prelude.{ℕ, ◌+◌, ◌*◌, ◌^◌, ◌≤◌}
use Rattle.std.proofs.Common.{arith, pow_mono}
use Rattle.model.specs.Visits.{levels}
use Rattle.laws.specs.Levels.{levels_least}
use Rattle.schedule.specs.InWork.{tree_part}

-- eight times a power of two that is at least the number of places
pub sweep_room : (n l : ℕ) → n ≤ 2 ^ l → tree_part * n + 2 * 2 ^ levels n ≤ 8 * 2 ^ l
sweep_room n l h = omega (arith, pow_mono {i = levels n} {j = l} (levels_least n l h))
