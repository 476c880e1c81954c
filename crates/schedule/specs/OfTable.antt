-- The schedule of a table (000, Algorithm 2): who is where in the running order, in which slot, asks for which slots, and is reached when.
use Rattle.std.specs.Prelude.{ℕ, suc, ◌+◌, ◌<◌, ◌≤◌, ◌≡◌, Bool, cond, List, map, length, get_or, take, leb, ltb}
use Rattle.model.specs.Lists.{numbers, select, count_where, sort_by}
use Rattle.model.specs.Tree.{FFFF, depth}
use Rattle.model.specs.Jobs.{Table, jobs, bottom, window, window_limit, asks, highest_depth}
use Rattle.model.specs.Order.{lexicographic, running_order, window_size, slot}
use Rattle.model.specs.Visits.{asked_from, asked_to}
use Rattle.schedule.specs.Schedule.{Schedule}
use Rattle.schedule.specs.InWork.{order_cell, schedule_in}

module _ (tb : Table) where
  -- the job at a place of the running order
  abbrev pub job_at : ℕ → ℕ
  job_at p = get_or (running_order tb) p 0

  -- a solo job and a job 0-0 ask nobody and are never found
  unfoldable pub asking : ℕ → Bool
  asking p = asks tb (job_at p)

  -- the depth of the bottom of the job at a place
  unfoldable pub bottom_depth : ℕ → ℕ
  bottom_depth p = depth tb.parents (bottom tb (job_at p))

  -- the deeper bottom is reached first, equal depths by place
  unfoldable pub sooner : ℕ → ℕ → Bool
  sooner p q = lexicographic (bottom_depth q) (bottom_depth p) p q

  -- the places that can be found, in the order in which their bottoms are reached
  unfoldable pub reach_order : List ℕ
  reach_order = sort_by sooner (select asking (numbers (jobs tb)))

  -- at the turn of a place those are reached whose bottom is as deep as its job's highest layout
  unfoldable pub due : ℕ → ℕ
  due p = count_where (λ (q : ℕ). leb (highest_depth tb (job_at p)) (bottom_depth q)) reach_order

  -- the shelf of window v begins behind those of the windows before it
  unfoldable pub shelf_base : ℕ → ℕ
  shelf_base v = count_where (λ (j : ℕ). ltb (window tb j) v) (numbers (jobs tb))

  -- the slot of a job in the row of all shelves
  unfoldable pub row_slot : ℕ → ℕ
  row_slot j = shelf_base (window tb j) + slot tb j

  -- where the span begins and ends there that it asks for
  abbrev pub row_from : ℕ → ℕ
  row_from j = shelf_base (window tb j) + asked_from tb j

  abbrev pub row_to : ℕ → ℕ
  row_to j = shelf_base (window tb j) + asked_to tb j

  unfoldable pub schedule_of : Schedule
  schedule_of =
      record {
        slots = map (λ (p : ℕ). row_slot (job_at p)) (numbers (jobs tb));
        froms = map (λ (p : ℕ). cond (asking p) (row_from (job_at p)) FFFF) (numbers (jobs tb));
        tos = map (λ (p : ℕ). cond (asking p) (row_to (job_at p)) 0) (numbers (jobs tb));
        dues = map due (numbers (jobs tb));
        reached = reach_order;
        bases = map (λ (p : ℕ). shelf_base (window tb (job_at p))) (numbers (jobs tb));
        sizes = map (λ (p : ℕ). window_size tb (window tb (job_at p))) (numbers (jobs tb));
      }

  -- where each shelf begins, by window; those behind the last window end at the last slot
  abbrev pub shelf_starts : List ℕ
  shelf_starts = map shelf_base (numbers (suc window_limit))

  -- the running order by place, each job with its window
  abbrev pub order_cells : List ℕ
  order_cells = map (λ (p : ℕ). order_cell (job_at p) (window tb (job_at p))) (numbers (jobs tb))

  -- the gap at each place leads no further than the next place of its window
  pub record Gaps (gaps : List ℕ) : Type 0 where
    pub gaps_length : length gaps ≡ jobs tb
    pub inside : (p : ℕ) → p < jobs tb → p + get_or gaps p 0 < jobs tb
    pub first : (p q : ℕ) → p < q → q < jobs tb → window tb (job_at p) ≡ window tb (job_at q) → p + get_or gaps p 0 ≤ q

  -- work cells that hold the running order and the schedule, with the starts of the shelves and the gaps
  pub record Prepared (starts gaps work : List ℕ) : Type 0 where
    pub starts_are : starts ≡ shelf_starts
    pub gaps_are : Gaps gaps
    pub order_is : take (jobs tb) work ≡ order_cells
    pub schedule_is : schedule_in (jobs tb) starts work ≡ schedule_of
