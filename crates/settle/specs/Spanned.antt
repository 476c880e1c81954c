-- A tree whose layouts are settled: depth, branch, first leaf and last leaf of each stand in four columns.
use Rattle.std.specs.Prelude.{ℕ, ◌<◌, ◌≡◌, refl, cond, ◌&&◌, List, length, get_or, eqb, leb}
use Rattle.std.proofs.Common.{◌∙◌}
use Rattle.model.specs.Tree.{depth, first_leaf, last_leaf, ancestor_or_self}
use Rattle.tree_laws.specs.WellFormed.{Tree}
use Rattle.tree_laws.specs.Spans.{ancestor_test}
use Rattle.tree_laws.specs.Branches.{branch}
use Rattle.settle.specs.declared.SettledTree.{SettledTree}

-- the branch of x, given its parent's
abbrev pub branch_below : ℕ → ℕ → ℕ
branch_below x above = cond (eqb above 0) x above

-- the ways up from the first n layouts
pub record WaysUp (ps : List ℕ) (n : ℕ) (settled : SettledTree) : Type 0 where
  pub depth_at : (x : ℕ) → x < n → get_or settled.depths x 0 ≡ depth ps x
  pub branch_at : (x : ℕ) → x < n → get_or settled.branches x 0 ≡ branch ps x

pub record Spanned (ps : List ℕ) (settled : SettledTree) : Type 0 where
  pub tree : Tree ps
  pub depth_at : (x : ℕ) → x < length ps → get_or settled.depths x 0 ≡ depth ps x
  pub branch_at : (x : ℕ) → x < length ps → get_or settled.branches x 0 ≡ branch ps x
  pub first_at : (x : ℕ) → x < length ps → get_or settled.first_leaves x 0 ≡ first_leaf ps x
  pub last_at : (x : ℕ) → x < length ps → get_or settled.last_leaves x 0 ≡ last_leaf ps x

-- the ancestor test on spans and depths
pub spanned_ancestor : (ps : List ℕ) (settled : SettledTree) → Spanned ps settled → (u x : ℕ) → u < length ps → x < length ps → ancestor_or_self ps u x ≡ (leb (get_or settled.first_leaves u 0) (get_or settled.first_leaves x 0) && leb (get_or settled.first_leaves x 0) (get_or settled.last_leaves u 0) && leb (get_or settled.depths u 0) (get_or settled.depths x 0))
spanned_ancestor ps settled s u x hu hx =
    ancestor_test ps s.tree u x hu hx
    ∙ rw (s.first_at u hu, s.first_at x hx, s.last_at u hu, s.depth_at u hu, s.depth_at x hx) refl
