-- Each window's shelf of a table behaves, call by call, as a plain list of its own (document 01, "The shelf and its cells", as 2026-05 changed it): what is done in the row of all
-- shelves at a job's slot there is done on the shelf of its window at the job's own slot, and on no other. A law for each call, in the words of its contract.
use Rattle.std.specs.Prelude.{ℕ, ◌+◌, ◌-◌, ◌<◌, ◌≤◌, ◌≡◌, refl, ◌⊎◌, ◌≢◌, List, []}
use Rattle.std.proofs.Common.{inl, inr, arith}
use Rattle.std.proofs.Math.Decide.{dec_lt}
use Rattle.model.specs.Jobs.{Table, jobs, window}
use Rattle.model.specs.Order.{window_size, slot}
use Rattle.model.specs.Visits.{levels, visits, asked_from, asked_to}
use Rattle.matching.specs.RunningOrder.{slot_lt}
use Rattle.schedule.specs.OfTable.{shelf_base, row_slot, row_from, row_to}
use Rattle.schedule_laws.specs.Row.{shelf_apart, row_begins, row_ends}
use Rattle.sweep_laws.specs.SegmentTree.{Entry, insert_entry, remove_entry, entries_in, smallest, Cleared, Inserted, Removed, ShelfSpan}
use Rattle.sweep_laws.specs.Shelves.{shelf_in}
use Rattle.sweep_laws.proofs.ShelfLaws.{shelf_cleared, shelf_inserted, shelf_removed, other_inserted, other_removed, shelf_found}

module _ (tb : Table) where
  -- what the shelf of window v holds, by its own slots, in a row of so many slots
  abbrev pub window_shelf : ℕ → ℕ → List ℕ → List Entry
  window_shelf v width nodes = shelf_in (shelf_base tb v) (window_size tb v) width nodes

  -- a job of another window has its slot in front of the shelf, or behind it
  slot_apart : (v j : ℕ) → j < jobs tb → window tb j ≢ v → (row_slot tb j < shelf_base tb v) ⊎ (shelf_base tb v + window_size tb v ≤ row_slot tb j)
  slot_apart v j h other = elim (dec_lt (window tb j) v) [
    | yes less ↦ inl (omega (arith, row_ends tb j h, shelf_apart tb (window tb j) v less))
    | no more ↦ inr (omega (arith, row_begins tb j h, shelf_apart tb v (window tb j) (omega arith)))
  ]

  module _ (kept width : ℕ) (old new : List ℕ) where
    -- every shelf is emptied
    pub window_cleared : (v : ℕ) → Cleared kept width old new → window_shelf v width new ≡ []
    window_cleared v h = shelf_cleared (shelf_base tb v) (window_size tb v) kept width old new h

    module _ (j : ℕ) (known : j < jobs tb) where
      -- a place has come to the slot of job j: to its own slot, on the shelf of its window
      pub window_inserted : (place : ℕ) → Inserted kept width old (row_slot tb j) place new → window_shelf (window tb j) width new ≡ insert_entry (slot tb j) place (window_shelf (window tb j) width old)
      unfolding row_slot
      window_inserted place h = shelf_inserted (shelf_base tb (window tb j)) (window_size tb (window tb j)) kept width old new (slot tb j) place (slot_lt tb j known) h

      -- its slot is emptied
      pub window_removed : Removed kept width old (row_slot tb j) new → window_shelf (window tb j) width new ≡ remove_entry (slot tb j) (window_shelf (window tb j) width old)
      unfolding row_slot
      window_removed h = shelf_removed (shelf_base tb (window tb j)) (window_size tb (window tb j)) kept width old new (slot tb j) h

      -- the shelf of another window stays as it is
      module _ (v : ℕ) (other : window tb j ≢ v) where
        pub other_window_inserted : (place : ℕ) → Inserted kept width old (row_slot tb j) place new → window_shelf v width new ≡ window_shelf v width old
        other_window_inserted place h = other_inserted (shelf_base tb v) (window_size tb v) kept width old new (row_slot tb j) (slot_apart v j known other) place h

        pub other_window_removed : Removed kept width old (row_slot tb j) new → window_shelf v width new ≡ window_shelf v width old
        other_window_removed h = other_removed (shelf_base tb v) (window_size tb v) kept width old new (row_slot tb j) (slot_apart v j known other) h

  -- a lookup in the row for what job j asks for answers what one on the shelf of its window does for the job's own span
  pub window_found :
      (width : ℕ) (nodes : List ℕ) (j : ℕ)
      → ShelfSpan (shelf_base tb (window tb j)) (window_size tb (window tb j)) (row_from tb j) (row_to tb j)
      → smallest (entries_in width nodes) (row_from tb j) (row_to tb j) ≡ smallest (window_shelf (window tb j) width nodes) (asked_from tb j) (asked_to tb j)
  window_found width nodes j span =
      let base : ℕ = shelf_base tb (window tb j) in
      let from : row_from tb j - base ≡ asked_from tb j = omega arith in
      let to : row_to tb j - base ≡ asked_to tb j = omega arith in
      rw (from, to) at (shelf_found width nodes base (window_size tb (window tb j)) (row_from tb j) (row_to tb j) span)

  -- and visits as many cells
  pub window_visits : (j : ℕ) → visits (levels (window_size tb (window tb j))) (row_from tb j - shelf_base tb (window tb j)) (row_to tb j - shelf_base tb (window tb j)) ≡ visits (levels (window_size tb (window tb j))) (asked_from tb j) (asked_to tb j)
  window_visits j =
      let from : row_from tb j - shelf_base tb (window tb j) ≡ asked_from tb j = omega arith in
      let to : row_to tb j - shelf_base tb (window tb j) ≡ asked_to tb j = omega arith in
      rw (from, to) refl
