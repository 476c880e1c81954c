-- The shelves of all windows stand side by side over one row of slots, in one tree (document 01, "The shelf and its cells", as 2026-05 changed it): what one of them holds.
use Rattle.std.specs.Prelude.{ℕ, ◌+◌, ◌-◌, Bool, ◌&&◌, leb, ltb}
use mathlib.Core.List.{List, map}
use Rattle.model.specs.Lists.{select}
use Rattle.sweep_laws.specs.SegmentTree.{Entry, entries_in}

-- the slot lies on the shelf of `size` slots from `base` on
abbrev pub on_shelf : ℕ → ℕ → ℕ → Bool
on_shelf base size slot = leb base slot && ltb slot (base + size)

-- an entry by the shelf's own slots
abbrev pub own_slot : ℕ → Entry → Entry
own_slot base e = record { slot = e.slot - base; place = e.place }

-- the plain list of one shelf: its entries of the row, by its own slots
unfoldable pub shelf_of : ℕ → ℕ → List Entry → List Entry
shelf_of base size es = map (own_slot base) (select (λ (e : Entry). on_shelf base size e.slot) es)

-- what a shelf holds, in a row of so many slots
abbrev pub shelf_in : ℕ → ℕ → ℕ → List ℕ → List Entry
shelf_in base size width nodes = shelf_of base size (entries_in width nodes)
