-- What *Plan* turns away and what it gives back (docs/RULES.md, 11 and 6; document 01, "What each operation turns away", as 2026-02 and 2026-05 changed it).
use Rattle.std.specs.Prelude.{ℕ, cond, not, ◌||◌, length, eqb, ltb}
use mathlib.Core.List.{List, [], ◌∷◌, map, foldr}
use Rattle.model.specs.Lists.{numbers, total}
use Rattle.model.specs.Verdict.{Verdict, accepted, refuse_if, ◌then◌}
use Rattle.model.specs.Tree.{FFFF, layout_limit, tree_verdict}
use Rattle.model.specs.Jobs.{Table, jobs, job_limit, top, bottom, window, job_verdict, highest_shared, deepest_shared}
use Rattle.model.specs.Greedy.{Pass, pair, single, passes}

-- work cells that *Plan* needs
abbrev pub work_cells : ℕ
work_cells = 32768

-- 8: tops, bottoms, marks and windows of unequal length, a result shorter than tops, or too few work cells
unfoldable pub lent_verdict : Table → ℕ → ℕ → ℕ → ℕ → Verdict
lent_verdict tb partners uppers printed work =
    refuse_if
    (not (eqb (jobs tb) (length tb.bottoms))
    || not (eqb (jobs tb) (length tb.marks))
    || not (eqb (jobs tb) (length tb.windows))
    || ltb partners (jobs tb)
    || ltb uppers (jobs tb)
    || ltb printed (jobs tb)
    || ltb work work_cells)
    8 0

-- 5, 6 and 9: the smallest job that is wrong, and of it 5 before 6 before 9
unfoldable pub jobs_verdict : Table → Verdict
jobs_verdict tb =
    foldr ◌then◌ accepted
    (map (λ (j : ℕ). job_verdict tb.parents (top tb j) (bottom tb j) (window tb j) j) (numbers (jobs tb)))

-- the verdict of *Plan*, given the lengths of the results and of the work cells
unfoldable pub plan_verdict : Table → ℕ → ℕ → ℕ → ℕ → Verdict
plan_verdict tb partners uppers printed work =
    lent_verdict tb partners uppers printed work
    then refuse_if (ltb layout_limit (length tb.parents) || ltb job_limit (jobs tb)) 3 0
    then tree_verdict tb.parents
    then jobs_verdict tb

-- the partner of j in the passes, or FFFF
unfoldable pub partner_in : List Pass → ℕ → ℕ
partner_in [] j = FFFF
partner_in (single i ∷ ps) j = partner_in ps j
partner_in (pair i k ∷ ps) j = cond (eqb i j) k (cond (eqb k j) i (partner_in ps j))

-- a pass is one pair or one single
unfoldable pub pair_count : Pass → ℕ
pair_count (pair i j) = 1
pair_count (single i) = 0

unfoldable pub single_count : Pass → ℕ
single_count (pair i j) = 0
single_count (single i) = 1

module _ (tb : Table) where
  -- at its own number each job's partner, FFFF for none
  unfoldable pub partners : List ℕ
  partners = map (partner_in (passes tb)) (numbers (jobs tb))

  -- what f tells of a job and its partner, FFFF where it has none
  abbrev pub with_partner : (ℕ → ℕ → ℕ) → ℕ → ℕ
  with_partner f j = cond (eqb (partner_in (passes tb) j) FFFF) FFFF (f j (partner_in (passes tb) j))

  -- the highest layout that j shares with its partner, and the deepest, which their pass prints: both jobs of a pair find the same (tree_laws/Shared `shared_same`)
  unfoldable pub upper : ℕ → ℕ
  upper = with_partner (highest_shared tb)

  unfoldable pub printed : ℕ → ℕ
  printed = with_partner (deepest_shared tb)

  unfoldable pub upper_layouts : List ℕ
  upper_layouts = map upper (numbers (jobs tb))

  unfoldable pub printed_layouts : List ℕ
  printed_layouts = map printed (numbers (jobs tb))

  unfoldable pub pairs : ℕ
  pairs = total pair_count (passes tb)

  unfoldable pub singles : ℕ
  singles = total single_count (passes tb)
