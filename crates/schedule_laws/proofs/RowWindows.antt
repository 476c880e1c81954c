-- As no two shelves overlap, a slot of the row tells its window, and a span of a shelf asks for slots of its own window alone.
use Rattle.std.specs.Prelude.{ℕ, ◌+◌, ◌<◌, ◌≤◌, ◌≡◌, ◌&&◌, leb}
use Rattle.std.proofs.Math.Path.{refl}
use Rattle.std.proofs.Math.Bool.{and-false}
use native.Mathlib.Omega.{arith}
use Rattle.std.proofs.Math.Decide.{dec_lt, ℕ_discrete}
use Rattle.std.proofs.Math.Dec.{ltb}
use borrow.Author.Tests.{eq-eqb, ne_eqb, le-ltb, lt-leb}
use Rattle.model.specs.Jobs.{Table, jobs, window, same_window}
use Rattle.model.specs.Order.{window_size, slot}
use Rattle.model.specs.Visits.{asked_from, asked_to}
use Rattle.laws.specs.Booleans.{leb_moved, ltb_moved}
use Rattle.jobs.specs.Accepted.{Accepted}
use Rattle.matching.specs.RunningOrder.{slot_injective}
use Rattle.schedule.specs.OfTable.{shelf_base, row_slot, row_from, row_to}
use Rattle.schedule_laws.specs.Asked.{asked_bound}
use Rattle.schedule_laws.specs.Row.{shelf_apart, row_begins, row_ends}

module _ (tb : Table) where
  -- a slot of the row in a window's shelf is one of its own
  pub row_window : (i j : ℕ) → j < jobs tb → shelf_base tb (window tb i) ≤ row_slot tb j → row_slot tb j < shelf_base tb (window tb i) + window_size tb (window tb i) → window tb i ≡ window tb j
  row_window i j h begins ends = elim (ℕ_discrete (window tb i) (window tb j)) [
    | yes same ↦ same
    | no other ↦ elim (dec_lt (window tb i) (window tb j)) [
      | yes less ↦ absurd (omega (arith, row_begins tb j h, shelf_apart tb (window tb i) (window tb j) less))
      | no more ↦ absurd (omega (arith, row_ends tb j h, shelf_apart tb (window tb j) (window tb i) (omega arith)))
    ]
  ]

  -- two jobs with one slot of the row are one
  pub row_once : (i j : ℕ) → i < jobs tb → j < jobs tb → row_slot tb i ≡ row_slot tb j → i ≡ j
  row_once i j h k e = elim (ℕ_discrete (window tb i) (window tb j)) [
    | yes same ↦ slot_injective tb i j h k same (unfold row_slot in (let base : shelf_base tb (window tb i) ≡ shelf_base tb (window tb j) = rw same refl in omega arith))
    | no other ↦ elim (dec_lt (window tb i) (window tb j)) [
      | yes less ↦ absurd (omega (arith, row_ends tb i h, row_begins tb j k, shelf_apart tb (window tb i) (window tb j) less))
      | no more ↦ absurd (omega (arith, row_ends tb j k, row_begins tb i h, shelf_apart tb (window tb j) (window tb i) (omega arith)))
    ]
  ]

  -- a span of a shelf holds the slots of its own window alone
  pub row_asked : Accepted tb → (i j : ℕ) → i < jobs tb → j < jobs tb → (leb (row_from tb i) (row_slot tb j) && ltb (row_slot tb j) (row_to tb i)) ≡ (same_window tb i j && (leb (asked_from tb i) (slot tb j) && ltb (slot tb j) (asked_to tb i)))
  unfolding same_window
  row_asked a i j h k = elim (ℕ_discrete (window tb i) (window tb j)) [
    | yes same ↦
        let base = shelf_base tb (window tb i) in
        let at : row_slot tb j ≡ base + slot tb j = unfold row_slot in rw same refl in
        rw (eq-eqb (window tb i) (window tb j) same, at, leb_moved base (asked_from tb i) (slot tb j), ltb_moved base (slot tb j) (asked_to tb i)) refl
    | no other ↦ rw (ne_eqb (window tb i) (window tb j) other) (elim (dec_lt (window tb i) (window tb j)) [
      | yes less ↦
          let past : row_to tb i ≤ row_slot tb j = omega (arith, asked_bound tb a i h, shelf_apart tb (window tb i) (window tb j) less, row_begins tb j k) in
          rw (le-ltb (row_slot tb j) (row_to tb i) past) (and-false (leb (row_from tb i) (row_slot tb j)))
      | no more ↦
          let before : row_slot tb j < row_from tb i = omega (arith, row_ends tb j k, shelf_apart tb (window tb j) (window tb i) (omega arith)) in
          rw (lt-leb (row_from tb i) (row_slot tb j) before) refl
    ])
  ]
