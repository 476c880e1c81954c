-- The visits of a lookup (docs/RULES.md, 7; document 01, "The shelf and its cells", as 2026-05 changed it). The shelf of a window is a segment tree over its slots, a cell
-- one of its nodes, a lookup a query for the smallest place in a span of slots (range minimum).
use Rattle.std.specs.Prelude.{ℕ, zero, suc, ◌+◌, ◌^◌, Bool, cond, ◌||◌, ◌&&◌, length, get_or, leb}
use mathlib.Core.List.{List, head_d}
use Rattle.model.specs.Lists.{numbers, select, total}
use Rattle.model.specs.Tree.{first_leaf, last_leaf}
use Rattle.model.specs.Jobs.{Table, window, asks, highest, bottom_leaf}
use Rattle.model.specs.Order.{window_size, slot_order}
use Rattle.model.specs.Greedy.{Pass, pair, single, passes}

-- the smallest k from k on with m ≤ 2 ^ k, in n steps
unfoldable pub levels_from : ℕ → ℕ → ℕ → ℕ
levels_from zero k m = k
levels_from (suc n) k m = cond (leb m (2 ^ k)) k (levels_from n (suc k) m)

-- k, where W = 2 ^ k is the smallest power of two that is at least m and at least 1
unfoldable pub levels : ℕ → ℕ
levels m = levels_from m 0 m

-- the cell of 2 ^ k slots from `start` on lies wholly inside the slots from `from` up to `to`, or wholly outside them
abbrev pub inside_or_outside : ℕ → ℕ → ℕ → ℕ → Bool
inside_or_outside k start from to = leb from start && leb (start + 2 ^ k) to || (leb to start || leb (start + 2 ^ k) from)

-- the visits at and under that cell: one wholly inside or wholly outside ends there, otherwise both halves are visited
unfoldable pub cell_visits : ℕ → ℕ → ℕ → ℕ → ℕ
cell_visits zero start from to = 1
cell_visits (suc k) start from to =
    cond (inside_or_outside (suc k) start from to) 1 (1 + (cell_visits k start from to + cell_visits k (start + 2 ^ k) from to))

-- the visits of a lookup, of 2 ^ k slots, for those from `from` up to `to`. An empty span ends at the topmost cell
unfoldable pub visits : ℕ → ℕ → ℕ → ℕ
visits k from to = cond (leb to from) 1 (cell_visits k 0 from to)

module _ (tb : Table) where
  -- the lookup of job i asks for slot s of its window: the bottom of the slot's job has its first leaf in the leaf span of the highest layout of i
  unfoldable pub asks_for : ℕ → ℕ → Bool
  asks_for i s =
      leb (first_leaf tb.parents (highest tb i)) (bottom_leaf tb (get_or (slot_order tb (window tb i)) s 0))
      && leb (bottom_leaf tb (get_or (slot_order tb (window tb i)) s 0)) (last_leaf tb.parents (highest tb i))

  -- every slot that it asks for, in order
  unfoldable pub asked_slots : ℕ → List ℕ
  asked_slots i = select (asks_for i) (numbers (window_size tb (window tb i)))

  -- slots stand by first leaf, so these are a span (schedule_laws/Asked `asked-range`): from the first of them up to as many more as there are
  unfoldable pub asked_from : ℕ → ℕ
  asked_from i = head_d (asked_slots i) 0

  unfoldable pub asked_to : ℕ → ℕ
  asked_to i = asked_from i + length (asked_slots i)

  -- the visits of the job's lookup, in the shelf of its window; a solo job and a job 0-0 make none
  unfoldable pub lookup_visits : ℕ → ℕ
  lookup_visits i = cond (asks tb i) (visits (levels (window_size tb (window tb i))) (asked_from i) (asked_to i)) 0

  -- the job that is free at its turn in a pass
  unfoldable pub pass_visits : Pass → ℕ
  pass_visits (pair i j) = lookup_visits i
  pass_visits (single i) = lookup_visits i

  -- the cell count of the plan: one lookup for each job still free at its turn that is neither solo nor a job 0-0
  unfoldable pub cell_count : ℕ
  cell_count = total pass_visits (passes tb)
