-- Room for the minima of every tree, and of a small one.
use Rattle.std.specs.Prelude.{ℕ, ◌+◌, ◌*◌, ◌≤◌, ◌≡◌, List, length}
use Rattle.std.proofs.Common.{mul-le-mul_left, arith}
use Rattle.model.specs.Tree.{layout_limit}
use Rattle.tree_laws.specs.WellFormed.{Tree}
use Rattle.tree_laws.specs.Leaves.{last_lt}
use Rattle.ancestry.specs.SparseTable.{stride_of, Roomy}

-- a row has no more cells than there can be layouts, and one more
pub stride_small : (ps : List ℕ) → Tree ps → stride_of ps ≤ layout_limit + 1
stride_small ps t = omega (arith, last_lt ps t 0 t.nonempty, t.small)

pub roomy_all : (ps cells : List ℕ) → Tree ps → length cells ≡ 12 * (layout_limit + 1) → Roomy ps cells
roomy_all ps cells t e = record { levels = 11; wide = omega (arith, stride_small ps t); room = omega (arith, mul-le-mul_left 12 (stride_small ps t)) }

pub roomy_few : (ps cells : List ℕ) → stride_of ps ≤ 128 → length cells ≡ 8 * 128 → Roomy ps cells
roomy_few ps cells small e = record { levels = 7; wide = omega arith; room = omega (arith, mul-le-mul_left 8 small) }
