-- The shelves of all windows, side by side in one row of slots (document 02, 2026-05): each begins behind those of the windows before it, so no two overlap, and a slot or a span
-- of one shelf is one of the row.
use Rattle.std.specs.Prelude.{ℕ, suc, ◌+◌, ◌<◌, ◌≤◌, ◌≡◌, false, ◌||◌}
use Rattle.std.proofs.Math.Path.{refl}
use Rattle.std.proofs.Common.{◌∙◌}
use Rattle.std.proofs.Math.Bool.{true}
use native.Mathlib.Omega.{arith}
use Rattle.std.proofs.Math.Decide.{dec_lt, ℕ_discrete}
use Rattle.std.proofs.Math.Dec.{eqb, ltb}
use borrow.Author.Tests.{eq-eqb, ne_eqb, lt-ltb, le-ltb, ltb-true}
use Rattle.model.specs.Lists.{numbers}
use Rattle.model.specs.Jobs.{Table, jobs, window}
use Rattle.model.specs.Order.{window_size}
use Rattle.laws.specs.Lists.{mem_all}
use Rattle.laws.specs.Counting.{count_same, count_le, count_bound, count_either}
use Rattle.matching.specs.RunningOrder.{size_count, slot_lt}
use Rattle.schedule.specs.OfTable.{shelf_base, row_slot}

-- below the next number is below this one, or this one
below_next : (w v : ℕ) → ltb w (suc v) ≡ (ltb w v || eqb w v)
below_next w v = elim (dec_lt w v) [
  | yes less ↦ rw (lt-ltb w v less, lt-ltb w (suc v) (omega arith)) refl
  | no more ↦ elim (ℕ_discrete w v) [
    | yes same ↦ rw (le-ltb w v (omega arith), eq-eqb w v same, lt-ltb w (suc v) (omega arith)) refl
    | no other ↦ rw (le-ltb w v (omega arith), ne_eqb w v other, le-ltb w (suc v) (omega arith)) refl
  ]
]

module _ (tb : Table) where
  -- ---- the shelves

  -- a shelf ends where the next begins
  pub base_next : (v : ℕ) → shelf_base tb (suc v) ≡ shelf_base tb v + window_size tb v
  unfolding shelf_base
  base_next v =
      rw (size_count tb v)
      (count_same (λ (j : ℕ). ltb (window tb j) (suc v)) (λ (j : ℕ). ltb (window tb j) v || eqb (window tb j) v) (jobs tb) (λ j h. below_next (window tb j) v)
      ∙ count_either (λ (j : ℕ). ltb (window tb j) v) (λ (j : ℕ). eqb (window tb j) v) (numbers (jobs tb))
      (mem_all (λ (j : ℕ). ltb (window tb j) v ≡ true → eqb (window tb j) v ≡ false) (numbers (jobs tb)) (λ j m e. ne_eqb (window tb j) v (λ same. omega (arith, ltb-true (window tb j) v e)))))

  base_rises : (v w : ℕ) → v ≤ w → shelf_base tb v ≤ shelf_base tb w
  unfolding shelf_base
  base_rises v w l = count_le (λ (j : ℕ). ltb (window tb j) v) (λ (j : ℕ). ltb (window tb j) w) (jobs tb) (λ j h e. lt-ltb (window tb j) w (omega (arith, ltb-true (window tb j) v e)))

  -- two do not overlap
  pub shelf_apart : (v w : ℕ) → v < w → shelf_base tb v + window_size tb v ≤ shelf_base tb w
  shelf_apart v w l = rw (← base_next v) (base_rises (suc v) w (omega arith))

  -- and all lie in the row
  pub shelf_within : (v : ℕ) → shelf_base tb v + window_size tb v ≤ jobs tb
  unfolding shelf_base
  shelf_within v = rw (← base_next v) (count_bound (λ (j : ℕ). ltb (window tb j) (suc v)) (jobs tb))

  -- ---- the slots

  module _ (j : ℕ) (h : j < jobs tb) where
    -- a job's slot of the row lies in the shelf of its window
    pub row_begins : shelf_base tb (window tb j) ≤ row_slot tb j
    unfolding row_slot
    row_begins = omega arith

    pub row_ends : row_slot tb j < shelf_base tb (window tb j) + window_size tb (window tb j)
    unfolding row_slot
    row_ends = omega (arith, slot_lt tb j h)

    pub row_lt : row_slot tb j < jobs tb
    row_lt = omega (arith, row_ends, shelf_within (window tb j))
