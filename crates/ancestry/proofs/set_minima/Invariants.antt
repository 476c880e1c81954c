-- The loop has set all rows up to one, and goes on as long as the next has blocks shorter than a row.
use Rattle.std.specs.Prelude.{ℕ, ◌≡◌, ◌-◌, ◌<◌}
use Rattle.ancestry.specs.SparseTable.{stride_of}
use Rattle.ancestry.proofs.Rows.{Rows}
use Rattle.ancestry.proofs.set_minima.Given as goal

abbrev pub invariant-loop-half : goal.invariant-loop-half
invariant-loop-half l = (l.stride ≡ stride_of l.parents) × (0 < l.half) × (l.half < l.stride) × (m : ℕ) × Rows l.parents l.at l.half m l.minima

abbrev pub decreases-loop-half : goal.decreases-loop-half
decreases-loop-half l = l.stride - l.half
