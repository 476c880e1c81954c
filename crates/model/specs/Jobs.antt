-- Jobs as downward paths, their windows, and sharing (docs/RULES.md, 4; document 01, "The tree and the running order", as 2026-01, 2026-02 and 2026-05 changed it; 000,
-- Definition 3).
use Rattle.std.specs.Prelude.{ℕ, Bool, cond, not, ◌&&◌, ◌||◌, length, get_or, eqb, leb}
use mathlib.Core.List.{List, [], ◌∷◌, head_d}
use Rattle.model.specs.Lists.{elem, last_d, any_of, select, without}
use Rattle.model.specs.Verdict.{Verdict, refuse_if, ◌then◌}
use Rattle.model.specs.Tree.{FFFF, ancestors, ancestor_or_self, depth, first_leaf}

-- a table: the parents of its layouts, the tops, bottoms, solo marks and windows of its jobs
pub record Table : Type 0 where
  pub parents : List ℕ
  pub tops : List ℕ
  pub bottoms : List ℕ
  pub marks : List ℕ
  pub windows : List ℕ

-- a table by its columns
abbrev pub table_of : List ℕ → List ℕ → List ℕ → List ℕ → List ℕ → Table
table_of ps ts bs ms ws = record { parents = ps; tops = ts; bottoms = bs; marks = ms; windows = ws }

-- at most 4,096 jobs
abbrev pub job_limit : ℕ
job_limit = 4096

-- windows are numbered from 0 to 15
abbrev pub window_limit : ℕ
window_limit = 16

module _ (tb : Table) where
  -- M, the number of jobs
  abbrev pub jobs : ℕ
  jobs = length tb.tops

  abbrev pub top : ℕ → ℕ
  top j = get_or tb.tops j 0

  abbrev pub bottom : ℕ → ℕ
  bottom j = get_or tb.bottoms j 0

  -- a mark other than 0 counts as solo
  unfoldable pub solo : ℕ → Bool
  solo j = not (eqb (get_or tb.marks j 0) 0)

  -- the printing window that a job belongs to
  abbrev pub window : ℕ → ℕ
  window j = get_or tb.windows j 0

  -- two jobs are in one window
  unfoldable pub same_window : ℕ → ℕ → Bool
  same_window i j = eqb (window i) (window j)

-- a list up to and with t
unfoldable pub up_to : ℕ → List ℕ → List ℕ
up_to t [] = []
up_to t (x ∷ xs) = x ∷ cond (eqb x t) [] (up_to t xs)

-- every layout from the bottom b up to the top t
unfoldable pub path_from : List ℕ → ℕ → ℕ → List ℕ
path_from ps t b = up_to t (ancestors ps b)

module _ (tb : Table) where
  -- a job's path is every layout from bottom up to top
  unfoldable pub path : ℕ → List ℕ
  path j = path_from tb.parents (top tb j) (bottom tb j)

  -- the path without layout 0, on which no pair prints (000: P(v))
  unfoldable pub own_path : ℕ → List ℕ
  own_path j = without 0 (path j)

  -- a job 0-0, which has no other layout on its path
  unfoldable pub bare : ℕ → Bool
  bare j = eqb (top tb j) 0 && eqb (bottom tb j) 0

  -- a job makes a lookup at its turn, if it is free then, unless it is solo or a job 0-0
  unfoldable pub asks : ℕ → Bool
  asks j = not (solo tb j) && not (bare j)

  -- the highest layout other than 0 on the path (000: t(v)); 0 for a job 0-0, which has none
  unfoldable pub highest : ℕ → ℕ
  highest j = last_d (own_path j) 0

  -- its depth; a job 0-0 has depth 0
  unfoldable pub highest_depth : ℕ → ℕ
  highest_depth j = depth tb.parents (highest j)

  -- two jobs share if some layout other than 0 is on both paths
  unfoldable pub shares : ℕ → ℕ → Bool
  shares i j = any_of (λ (x : ℕ). elem x (own_path j)) (own_path i)

  -- the layouts other than 0 on both paths, from the deepest up
  unfoldable pub shared_layouts : ℕ → ℕ → List ℕ
  shared_layouts i j = select (λ (x : ℕ). elem x (own_path j)) (own_path i)

  -- the highest of them, the barest on which the pair could print
  unfoldable pub highest_shared : ℕ → ℕ → ℕ
  highest_shared i j = last_d (shared_layouts i j) FFFF

  -- the deepest of them, on which the pair prints
  unfoldable pub deepest_shared : ℕ → ℕ → ℕ
  deepest_shared i j = head_d (shared_layouts i j) FFFF

  -- the first leaf of a job's bottom
  unfoldable pub bottom_leaf : ℕ → ℕ
  bottom_leaf j = first_leaf tb.parents (bottom tb j)

-- 5, a top or bottom that is no layout; 6, a bottom not at or below its top; 9, a window above 15
unfoldable pub job_verdict : List ℕ → ℕ → ℕ → ℕ → ℕ → Verdict
job_verdict ps t b v place =
    refuse_if (leb (length ps) t || leb (length ps) b) 5 place
    then refuse_if (not (ancestor_or_self ps t b)) 6 place
    then refuse_if (leb window_limit v) 9 place
