-- How many cells a lookup visits at most (document 01, "The shelf and its cells"): 4k + 1 of a tree of 2 ^ k slots, and 4k - 1 for k ≥ 1.
-- A span that begins at or before a cell's start, or ends at or after its end, costs at most 2k + 1 visits at and under that cell.
use Rattle.std.specs.Prelude.{ℕ, zero, suc, ◌+◌, ◌-◌, ◌*◌, ◌^◌, ◌<◌, ◌≤◌, ◌≡◌, refl, ◌⊎◌, Bool, true, false, cond, ◌&&◌, leb}
use Rattle.std.proofs.Common.{⊎_elim, arith, le-leb}
use Rattle.std.proofs.Math.Bool.{or-true, and-false}
use Rattle.std.proofs.Math.Nat.{two-pow-succ}
use Rattle.std.proofs.Math.Decide.{dec_le}
use Rattle.std.proofs.lemmas.Bool.{lt-leb}
use Rattle.model.specs.Visits.{inside_or_outside, cell_visits, visits}

module _ (k start from to : ℕ) where
  -- a cell wholly inside the span, or wholly outside it, ends the lookup there
  inside_settled : from ≤ start → start + 2 ^ k ≤ to → inside_or_outside k start from to ≡ true
  inside_settled a b = rw (le-leb from start a, le-leb (start + 2 ^ k) to b)

  before_settled : to ≤ start → inside_or_outside k start from to ≡ true
  before_settled a = rw (le-leb to start a, or-true (leb from start && leb (start + 2 ^ k) to))

  past_settled : start + 2 ^ k ≤ from → inside_or_outside k start from to ≡ true
  past_settled a = rw (le-leb (start + 2 ^ k) from a, or-true (leb to start), or-true (leb from start && leb (start + 2 ^ k) to))

  not_settled : start < to → from < start + 2 ^ k → (start < from) ⊎ (to < start + 2 ^ k) → inside_or_outside k start from to ≡ false
  not_settled a b c = rw (lt-leb to start a, lt-leb (start + 2 ^ k) from b) (⊎_elim
      (λ (d : start < from). rw (lt-leb from start d))
      (λ (d : to < start + 2 ^ k). rw (lt-leb (start + 2 ^ k) to d, and-false (leb from start)))
      c)

one_visit : (k start from to : ℕ) → inside_or_outside k start from to ≡ true → cell_visits k start from to ≡ 1
unfolding cell_visits
one_visit zero start from to e = refl
one_visit (suc k) start from to e = rw e

-- wholly inside, before and past: one visit
pub visits_inside : (k start from to : ℕ) → from ≤ start → start + 2 ^ k ≤ to → cell_visits k start from to ≡ 1
visits_inside k start from to a b = one_visit k start from to (inside_settled k start from to a b)

pub visits_before : (k start from to : ℕ) → to ≤ start → cell_visits k start from to ≡ 1
visits_before k start from to a = one_visit k start from to (before_settled k start from to a)

pub visits_past : (k start from to : ℕ) → start + 2 ^ k ≤ from → cell_visits k start from to ≡ 1
visits_past k start from to a = one_visit k start from to (past_settled k start from to a)

-- otherwise both halves are visited
pub visits_halves : (k start from to : ℕ) → start < to → from < start + 2 ^ suc k → (start < from) ⊎ (to < start + 2 ^ suc k) → cell_visits (suc k) start from to ≡ 1 + (cell_visits k start from to + cell_visits k (start + 2 ^ k) from to)
unfolding cell_visits
visits_halves k start from to a b c = rw (not_settled (suc k) start from to a b c)

-- an empty span ends at the topmost cell
pub visits_empty : (k from to : ℕ) → to ≤ from → visits k from to ≡ 1
unfolding visits
visits_empty k from to h = rw (le-leb to from h)

-- at most both halves are visited
visits_le : (k start from to : ℕ) → cell_visits (suc k) start from to ≤ 1 + (cell_visits k start from to + cell_visits k (start + 2 ^ k) from to)
unfolding cell_visits
visits_le k start from to = go (inside_or_outside (suc k) start from to)
  where
    go : (b : Bool) → cond b 1 (1 + (cell_visits k start from to + cell_visits k (start + 2 ^ k) from to)) ≤ 1 + (cell_visits k start from to + cell_visits k (start + 2 ^ k) from to)
    go true = omega arith
    go false = omega arith

-- the span begins at or before the cell's start
begins_bound : (k start from to : ℕ) → from ≤ start → cell_visits k start from to ≤ 2 * k + 1
unfolding cell_visits
begins_bound zero start from to a = omega arith
begins_bound (suc k) start from to a = elim (dec_le to (start + 2 ^ k)) [
  | yes short ↦ omega (arith, visits_le k start from to, begins_bound k start from to a, visits_before k (start + 2 ^ k) from to short)
  | no long ↦ omega (arith, visits_le k start from to, visits_inside k start from to a (omega arith), begins_bound k (start + 2 ^ k) from to (omega arith))
]

-- the span ends at or after the cell's end
ends_bound : (k start from to : ℕ) → start + 2 ^ k ≤ to → cell_visits k start from to ≤ 2 * k + 1
unfolding cell_visits
ends_bound zero start from to a = omega arith
ends_bound (suc k) start from to a =
    let w : 2 ^ suc k ≡ 2 ^ k + 2 ^ k = two-pow-succ k in
    elim (dec_le (start + 2 ^ k) from) [
      | yes late ↦ omega (arith, visits_le k start from to, visits_past k start from to late, ends_bound k (start + 2 ^ k) from to (omega arith))
      | no early ↦ omega (arith, visits_le k start from to, ends_bound k start from to (omega arith), visits_inside k (start + 2 ^ k) from to (omega arith) (omega arith))
    ]

-- any span, of a cell that has halves
cell_bound : (k start from to : ℕ) → cell_visits (suc k) start from to ≤ 4 * k + 3
unfolding cell_visits
cell_bound zero start from to = visits_le zero start from to
cell_bound (suc k) start from to = elim (dec_le to (start + 2 ^ suc k)) [
  | yes short ↦ omega (arith, visits_le (suc k) start from to, cell_bound k start from to, visits_before (suc k) (start + 2 ^ suc k) from to short)
  | no long ↦ elim (dec_le (start + 2 ^ suc k) from) [
    | yes late ↦ omega (arith, visits_le (suc k) start from to, visits_past (suc k) start from to late, cell_bound k (start + 2 ^ suc k) from to)
    | no early ↦ omega (arith, visits_le (suc k) start from to, ends_bound (suc k) start from to (omega arith), begins_bound (suc k) (start + 2 ^ suc k) from to (omega arith))
  ]
]

topmost : (k from to n : ℕ) → 1 ≤ n → cell_visits k 0 from to ≤ n → visits k from to ≤ n
unfolding visits
topmost k from to n one h = go (leb to from)
  where
    go : (b : Bool) → cond b 1 (cell_visits k 0 from to) ≤ n
    go true = one
    go false = h

-- the sharper bound, for a tree of at least two slots
pub visits_sharp : (k from to : ℕ) → 1 ≤ k → visits k from to ≤ 4 * k - 1
visits_sharp zero from to some = absurd (omega arith)
visits_sharp (suc k) from to some = topmost (suc k) from to (4 * suc k - 1) (omega arith) (omega (arith, cell_bound k 0 from to))

-- one lookup visits at most 4k + 1 cells
pub visits_bound : (k from to : ℕ) → visits k from to ≤ 4 * k + 1
unfolding cell_visits
visits_bound zero from to = topmost zero from to (4 * 0 + 1) (omega arith) (omega arith)
visits_bound (suc k) from to = omega (arith, visits_sharp (suc k) from to (omega arith))
