-- How the cells that document 01 counts for a lookup are counted without going down to them: an end of the span lies strictly inside a cell of a level exactly if the cells'
-- width does not divide it.
use Rattle.std.specs.Prelude.{ℕ, ◌-◌, ◌^◌, ◌<◌, ◌≤◌, min, max}
use Rattle.std.specs.Int.Bits.{bit_xor}
use Rattle.std.specs.Int.Count.{count_leading_zeros, count_trailing_zeros}

-- how many of the levels above `below`, up to `levels`, have a cell with x strictly inside, where x counts cells of level `below`
unfoldable pub levels_inside : ℕ → ℕ → ℕ → ℕ
levels_inside below levels x = levels - below - count_trailing_zeros 64 x

-- how many levels have a cell with both x and y strictly inside, for x < y: those above the highest digit in which the two differ, as there both lie in one cell,
-- and past the trailing zeros of x. On these levels y is no border, since it has that digit
unfoldable pub levels_shared : ℕ → ℕ → ℕ → ℕ
levels_shared levels x y = levels - max (63 - count_leading_zeros 64 (bit_xor x y)) (count_trailing_zeros 64 x)

-- how many levels have a cell with x strictly inside and y in another, for x < y: those past the trailing zeros of x, up to the highest digit in which the two
-- differ
unfoldable pub levels_apart : ℕ → ℕ → ℕ → ℕ
levels_apart levels x y = max (63 - count_leading_zeros 64 (bit_xor x y)) (min levels (count_trailing_zeros 64 x)) - min levels (count_trailing_zeros 64 x)

-- a span of slots, not empty, whose visits are to be counted
pub record Countable (levels from to : ℕ) : Type 0 where
  pub few : levels < 63
  pub some : from < to
  pub inside : to ≤ 2 ^ levels
