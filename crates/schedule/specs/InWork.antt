-- Where a schedule, and the passes that the sweep makes of it, stand in the work cells: in parts of n cells, n the number of places. Part 0 has the job
-- at each place, and the sweep leaves it alone. A job and its window share a cell: no job number reaches 4,096.
use Rattle.std.specs.Prelude.{ℕ, suc, ◌+◌, ◌-◌, ◌*◌, ◌/◌, ◌%◌, ◌<◌, ◌≤◌, ◌≡◌, cond, List, map, length, get_or, take, drop, eqb}
use Rattle.model.specs.Lists.{numbers, last_d, total}
use Rattle.model.specs.Tree.{FFFF}
use Rattle.model.specs.Jobs.{job_limit, window_limit}
use Rattle.model.specs.Greedy.{Pass, pair, single}
use Rattle.model.specs.Planning.{pair_count}
use Rattle.schedule.specs.Schedule.{Schedule, passes_by_place, total_visits}

-- the parts: the slot at each place, the span that it asks for, the places that can be found, how many of these are due at each place
abbrev pub slot_part : ℕ
slot_part = 1

abbrev pub from_part : ℕ
from_part = 2

abbrev pub to_part : ℕ
to_part = 3

abbrev pub reached_part : ℕ
reached_part = 4

abbrev pub due_part : ℕ
due_part = 5

-- what the sweep leaves in the place of what it has used: the mate of each place, FFFF for none, and the places that open a pass
abbrev pub mate_part : ℕ
mate_part = from_part

abbrev pub opener_part : ℕ
opener_part = due_part

-- the segment tree stands after them
abbrev pub tree_part : ℕ
tree_part = 6

-- part k of work cells for n places
abbrev pub part : ℕ → ℕ → List ℕ → List ℕ
part n k work = take n (drop (k * n) work)

-- a job with its window in one cell
abbrev pub order_cell : ℕ → ℕ → ℕ
order_cell job window = job + window * job_limit

-- the job at a place, and its window
abbrev pub job_in : List ℕ → ℕ → ℕ
job_in work p = get_or work p 0 % job_limit

abbrev pub window_in : List ℕ → ℕ → ℕ
window_in work p = get_or work p 0 / job_limit

-- where the shelf of its window begins, and how many slots that has: by window `starts` has where its shelf begins, and shelf v ends where shelf v + 1 begins, or would
module _ (starts work : List ℕ) where
  abbrev pub base_in : ℕ → ℕ
  base_in p = get_or starts (window_in work p) 0

  abbrev pub size_in : ℕ → ℕ
  size_in p = get_or starts (window_in work p + 1) 0 - base_in p

-- every place has a window, and a shelf that does not end before it begins
pub record Shelved (n : ℕ) (starts work : List ℕ) : Type 0 where
  pub starts_length : length starts ≡ suc window_limit
  pub window_known : (p : ℕ) → p < n → window_in work p < window_limit
  pub shelf_rises : (p : ℕ) → p < n → base_in starts work p ≤ get_or starts (window_in work p + 1) 0

-- the schedule that work cells hold; of the places that can be found there are as many as are due at the last turn
unfoldable pub schedule_in : ℕ → List ℕ → List ℕ → Schedule
schedule_in n starts work =
    record {
      slots = part n slot_part work;
      froms = part n from_part work;
      tos = part n to_part work;
      dues = part n due_part work;
      reached = take (last_d (part n due_part work) 0) (drop (reached_part * n) work);
      bases = map (base_in starts work) (numbers n);
      sizes = map (size_in starts work) (numbers n);
    }

-- the pass that place p opens: with its mate, or alone
unfoldable pub pass_of : ℕ → List ℕ → ℕ → Pass
pass_of n work p = cond (eqb (get_or work (mate_part * n + p) 0) FFFF) (single p) (pair p (get_or work (mate_part * n + p) 0))

-- pass k
unfoldable pub pass_at : ℕ → List ℕ → ℕ → Pass
pass_at n work k = pass_of n work (get_or work (opener_part * n + k) 0)

-- what a sweep of n places over `old` leaves: the passes of the greedy rule over the relation that the schedule defines, with their count and visits
pub record Swept (n : ℕ) (starts old : List ℕ) (pairs visits : ℕ) (new : List ℕ) : Type 0 where
  pub kept : length new ≡ length old
  pub order_kept : take n new ≡ take n old
  pub passes_are : map (pass_at n new) (numbers (length (passes_by_place (schedule_in n starts old)))) ≡ passes_by_place (schedule_in n starts old)
  pub pairs_are : pairs ≡ total pair_count (passes_by_place (schedule_in n starts old))
  pub visits_are : visits ≡ total_visits (schedule_in n starts old)
