-- A sparse table of the smallest parents by first leaf: row m has at k the smallest of those of 2 ^ m / 2 leaves from k on. A row has a cell for each leaf and
-- one more.
use Rattle.std.specs.Prelude.{ℕ, suc, ◌+◌, ◌-◌, ◌*◌, ◌/◌, ◌^◌, ◌<◌, ◌≤◌, min, ◌≡◌, cond, List, length, get_or, eqb}
use Rattle.model.specs.Tree.{FFFF, first_leaf, last_leaf}
use Rattle.laws.specs.Least.{least_of}
use Rattle.settle.specs.declared.SettledTree.{SettledTree}
use Rattle.settle.specs.Spanned.{Spanned}

-- the parent of y, if k is its first leaf
unfoldable pub parent_from : List ℕ → ℕ → ℕ → ℕ
parent_from ps k y = cond (eqb (first_leaf ps y) k) (get_or ps y 0) FFFF

-- the smallest parent of the layouts from 1 up to n that have k as first leaf
abbrev pub parent_below : List ℕ → ℕ → ℕ → ℕ
parent_below ps n k = least_of (parent_from ps k) 1 (n - 1)

-- that of all layouts but layout 0, which has no parent
unfoldable pub smallest_parent : List ℕ → ℕ → ℕ
smallest_parent ps k = parent_below ps (length ps) k

-- cells of a row
abbrev pub stride_of : List ℕ → ℕ
stride_of ps = last_leaf ps 0 + 2

-- how many leaves a minimum of row m is of
abbrev pub block : ℕ → ℕ
block m = 2 ^ m / 2

-- room for the rows whose blocks are shorter than a row
pub record Roomy (ps cells : List ℕ) : Type 0 where
  pub levels : ℕ
  pub wide : stride_of ps ≤ 2 ^ levels
  pub room : suc levels * stride_of ps ≤ length cells

-- the cell of row n at k is right
abbrev pub Right : List ℕ → List ℕ → ℕ → ℕ → Type 0
Right ps cells n k = get_or cells (n * stride_of ps + k) 0 ≡ least_of (smallest_parent ps) k (block n)

-- the rows up to row m
pub record RowsTo (ps : List ℕ) (m : ℕ) (cells : List ℕ) : Type 0 where
  pub roomy : Roomy ps cells
  pub row : (n k : ℕ) → n ≤ m → k + block n < stride_of ps → Right ps cells n k

-- all rows
pub record Minima (ps cells : List ℕ) : Type 0 where
  pub roomy : Roomy ps cells
  pub row : (n k : ℕ) → k + block n < stride_of ps → Right ps cells n k

-- the first n cells after the row at `at` have the smaller of two of its cells, `half` apart; those in front are untouched
pub record RowSet (at stride half n : ℕ) (old new : List ℕ) : Type 0 where
  pub kept : length new ≡ length old
  pub before : (i : ℕ) → i < at + stride → get_or new i 0 ≡ get_or old i 0
  pub set_to : (k : ℕ) → k < n → get_or new (at + stride + k) 0 ≡ min (get_or old (at + k) 0) (get_or old (at + k + half) 0)

-- a settled tree with its minima
pub record Searchable (ps : List ℕ) (tree : SettledTree) (minima : List ℕ) : Type 0 where
  pub spanned : Spanned ps tree
  pub rows : Minima ps minima
