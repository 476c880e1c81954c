-- A table in one window is planned as if there were none (2026-05): its window has all jobs, the slots and the W of all jobs, the passes are those of sharing alone, and the
-- lookups visit what they do in the one shelf of all jobs. Whatever the windows and marks, the running order is that of the paths.
use Rattle.std.specs.Prelude.{ℕ, ◌+◌, ◌<◌, ◌≡◌, Bool, true, cond, ◌&&◌, get_or, leb}
use Rattle.std.proofs.Math.Path.{refl, ap}
use Rattle.std.proofs.Common.{sym, ◌∙◌}
use Rattle.std.proofs.Math.Logic.{◌≢◌}
use Rattle.std.proofs.Math.Bool.{not, and-true}
use mathlib.Core.List.{List, [], ◌∷◌, map, map-id, head_d}
use Rattle.std.proofs.Math.ListN.{length}
use Rattle.std.proofs.Math.Dec.{eqb}
use borrow.Author.Tests.{eq-eqb}
use Rattle.model.specs.Lists.{numbers, index_of, select, sort_by, total, AllPairs}
use Rattle.model.specs.Tree.{first_leaf, last_leaf}
use Rattle.model.specs.Jobs.{Table, table_of, jobs, window, solo, same_window, path, own_path, asks, highest, highest_depth, shares, bottom_leaf}
use Rattle.model.specs.Order.{earlier, running_order, place, leftward, window_jobs, window_size, slot_order}
use Rattle.model.specs.Greedy.{Pass, pair, single, greedy, compatible, passes}
use Rattle.model.specs.Visits.{levels, visits, asks_for, asked_slots, asked_from, asked_to, lookup_visits, pass_visits, cell_count}
use Rattle.laws.specs.Lists.{mem_all, select_all, pairwise_imply}
use Rattle.laws.specs.Numbers.{numbers_mem, numbers_length}
use Rattle.matching.specs.Renamed.{renamed, greedy_renamed, total_renamed}
use Rattle.matching.specs.RunningOrder.{running_mem, running_distinct}
use Rattle.matching.specs.Compatible.{same_window_lem}

-- ---- as it was without windows

module _ (tb : Table) where
  -- neither is solo, and they share
  abbrev pub sharing : ℕ → ℕ → Bool
  sharing i j = not (solo tb i) && not (solo tb j) && shares tb i j

  -- all jobs by slot
  abbrev pub all_slots : List ℕ
  all_slots = sort_by (leftward tb) (numbers (jobs tb))

  -- the lookup of job i asks for slot s, where the jobs stand so by slot
  abbrev pub asks_among : List ℕ → ℕ → ℕ → Bool
  asks_among bySlot i s =
      leb (first_leaf tb.parents (highest tb i)) (bottom_leaf tb (get_or bySlot s 0))
      && leb (bottom_leaf tb (get_or bySlot s 0)) (last_leaf tb.parents (highest tb i))

  -- those of all slots that it asks for
  abbrev pub asked_of_all : ℕ → List ℕ
  asked_of_all i = select (asks_among all_slots i) (numbers (jobs tb))

  -- the visits of its lookup, with the W of all jobs
  abbrev pub visits_of_all : ℕ → ℕ
  visits_of_all i = cond (asks tb i) (visits (levels (jobs tb)) (head_d (asked_of_all i) 0) (head_d (asked_of_all i) 0 + length (asked_of_all i))) 0

  -- those of the job that is free at its turn in a pass
  unfoldable pub pass_visits_of_all : Pass → ℕ
  pass_visits_of_all (pair i j) = visits_of_all i
  pass_visits_of_all (single i) = visits_of_all i

-- ---- the greedy rule over relations that agree

-- a pass under its own names
renamed_same : (ps : List Pass) → map (renamed (λ (x : ℕ). x)) ps ≡ ps
unfolding renamed
renamed_same [] = refl
renamed_same (pair i j ∷ ps) = ap (λ (l : List Pass). pair i j ∷ l) (renamed_same ps)
renamed_same (single i ∷ ps) = ap (λ (l : List Pass). single i ∷ l) (renamed_same ps)

-- relations that agree on every vertex and each later one make the same passes
greedy_agree : (r r' : ℕ → ℕ → Bool) (vs : List ℕ) → AllPairs (λ (x y : ℕ). r x y ≡ r' x y) vs → greedy r vs ≡ greedy r' vs
greedy_agree r r' vs a = sym (renamed_same (greedy r vs)) ∙ greedy_renamed (λ (x : ℕ). x) r r' vs (λ x y m n e. e) a ∙ ap (greedy r') (map-id vs)

-- ---- all jobs in one window

-- every job is in window v
abbrev pub InWindow : ℕ → Table → Type 0
InWindow v tb = (j : ℕ) → j < jobs tb → window tb j ≡ v

module _ (tb : Table) (v : ℕ) (one : InWindow v tb) where
  -- its jobs are all jobs
  pub one_window : window_jobs tb v ≡ numbers (jobs tb)
  unfolding window_jobs
  one_window = select_all (λ (j : ℕ). eqb (window tb j) v) (numbers (jobs tb)) (mem_all (λ (j : ℕ). eqb (window tb j) v ≡ true) (numbers (jobs tb)) (λ j m. eq-eqb (window tb j) v (one j (numbers_mem (jobs tb) m))))

  -- M in number, so that W is that of all jobs
  pub one_window_size : window_size tb v ≡ jobs tb
  unfolding window_size
  one_window_size = ap length one_window ∙ numbers_length (jobs tb)

  -- its slots are those of all jobs
  pub one_window_slots : slot_order tb v ≡ all_slots tb
  unfolding slot_order
  one_window_slots = ap (sort_by (leftward tb)) one_window

  -- any two jobs are in the same window
  pub one_window_same : (i j : ℕ) → i < jobs tb → j < jobs tb → same_window tb i j ≡ true
  one_window_same i j h k = same_window_lem tb i j (one i h ∙ sym (one j k))

  -- so that sharing alone decides, where neither is solo
  pub one_window_compatible : (i j : ℕ) → i < jobs tb → j < jobs tb → compatible tb i j ≡ sharing tb i j
  unfolding compatible
  one_window_compatible i j h k = rw (one_window_same i j h k, and-true (not (solo tb i) && not (solo tb j))) refl

  -- the passes are those that the matching rule makes of it
  pub one_window_passes : passes tb ≡ greedy (sharing tb) (running_order tb)
  unfolding passes
  one_window_passes = greedy_agree (compatible tb) (sharing tb) (running_order tb)
      (pairwise_imply ◌≢◌ (λ (i j : ℕ). compatible tb i j ≡ sharing tb i j) (running_order tb) (λ i j m n d. one_window_compatible i j (running_mem tb m) (running_mem tb n)) (running_distinct tb))

  -- a lookup asks for the same slots
  pub one_window_asked : (i : ℕ) → i < jobs tb → asked_slots tb i ≡ asked_of_all tb i
  unfolding asked_slots asks_for
  one_window_asked i h =
      let own : slot_order tb (window tb i) ≡ all_slots tb = ap (slot_order tb) (one i h) ∙ one_window_slots in
      let size : window_size tb (window tb i) ≡ jobs tb = ap (window_size tb) (one i h) ∙ one_window_size in
      ap (λ (bySlot : List ℕ). select (asks_among tb bySlot i) (numbers (window_size tb (window tb i)))) own ∙ ap (λ (n : ℕ). select (asks_among tb (all_slots tb) i) (numbers n)) size

  -- and visits as many cells
  pub one_window_visits : (i : ℕ) → i < jobs tb → lookup_visits tb i ≡ visits_of_all tb i
  unfolding lookup_visits asked_to asked_from
  one_window_visits i h = rw (one_window_asked i h, one i h, one_window_size) refl

  -- so the cell count is the same
  pub one_window_count : cell_count tb ≡ total (pass_visits_of_all tb) (greedy (sharing tb) (running_order tb))
  unfolding cell_count passes pass_visits pass_visits_of_all
  one_window_count =
      total_renamed (λ (x : ℕ). x) (compatible tb) (pass_visits tb) (pass_visits_of_all tb) (λ i j. refl) (λ i j. refl) (running_order tb) (λ i m. one_window_visits i (running_mem tb m))
      ∙ ap (total (pass_visits_of_all tb)) (renamed_same (passes tb) ∙ one_window_passes)

-- ---- by paths alone

-- marks and windows do not move the running order
unmarked : (tb : Table) → running_order tb ≡ running_order (table_of tb.parents tb.tops tb.bottoms [] [])
unfolding running_order earlier highest_depth highest own_path path
unmarked tb = refl

-- tables with the same parents, tops and bottoms, whatever their marks and windows
module _ (tb tb' : Table) (parents : tb.parents ≡ tb'.parents) (tops : tb.tops ≡ tb'.tops) (bottoms : tb.bottoms ≡ tb'.bottoms) where
  -- have one running order
  pub running_order_by_paths : running_order tb ≡ running_order tb'
  running_order_by_paths = unmarked tb ∙ rw (parents, tops, bottoms) (sym (unmarked tb'))

  -- and the same places
  pub place_by_paths : (j : ℕ) → place tb j ≡ place tb' j
  unfolding place
  place_by_paths j = ap (index_of j) running_order_by_paths
