-- The worked tables (docs/RULES.md, 16): document 01's "Tables to try" that are marked ◆, planned as 2026-01 and 2026-02 ask, tables that tell wrong planners, tables with
-- windows, what is printed for some and for tables that 2026-04 and 2026-05 newly accept or refuse, rivals beside our plans, groups for presses with more lanes, and worked
-- stretches: a table of examples, one of printings, one of rivals, one of groups, one of stretches, and one fact of them all.
use Rattle.std.specs.Prelude.{ℕ, zero, suc, ◌≡◌, refl, ◌≢◌, Bool, cond, not, length, get_or, T, eqb, ltb}
use Rattle.std.proofs.Math.Bool.{xor}
use Rattle.std.proofs.Math.Option.{Option, none, some}
use mathlib.Core.List.{List, [], ◌∷◌, ◌++◌, map, flat_map, flatten, head_d}
use Rattle.std.proofs.Common.{arith, T_not, ltb→lt}
use Rattle.std.proofs.Math.Dec.{eqb_refl, eqb-suc-suc, eqb-suc-zero}
use Rattle.model.specs.Lists.{numbers_from, numbers, elem, index_of, last_d, any_of, all_of, select, count_where, find, total, insert_by, sort_by, All, without, without_all, first_passing}
use Rattle.model.specs.Verdict.{Verdict, accepted, refused}
use Rattle.model.specs.Tree.{FFFF, right_parent, layouts_from, tree_verdict, ascend, ancestors, ancestor_or_self, depth, children, or_self, leaves_within, leaves, first_leaf, last_leaf}
use Rattle.model.specs.Jobs.{Table, solo, same_window, up_to, path_from, path, own_path, bare, asks, highest, highest_depth, shares, shared_layouts, highest_shared, deepest_shared, bottom_leaf, job_verdict}
use Rattle.model.specs.Order.{earlier, running_order, place, leftward, window_jobs, window_size, slot_order, slot}
use Rattle.model.specs.Greedy.{Pass, pair, single, greedy_step, greedy_steps, greedy, compatible, passes}
use Rattle.model.specs.Grouping.{Group, FullGrouping, group_step, group_steps, grouping, all_full, groups_of, common_layouts, deepest_common}
use Rattle.model.specs.Visits.{levels_from, levels, cell_visits, visits, asks_for, asked_slots, asked_from, asked_to, lookup_visits, pass_visits, cell_count}
use Rattle.model.specs.Rival.{Pair, Rules, Rival, in_front, pairs_in_front, pairs_of, in_pair, paired_in_one, first_difference}
use Rattle.model.specs.Planning.{work_cells, lent_verdict, jobs_verdict, plan_verdict, partner_in, pair_count, single_count, partners, upper, upper_layouts, printed, printed_layouts, pairs, singles}
use Rattle.model.specs.Table.{window_frame, is_digit, digit_value, number_after, lead, lines, frame_of_kind, frame_of, is_end, beyond_windows, end_without_layout, on_its_line, content_verdict, frame_verdict, extended, with_own_line, unless_refused, read_frame, read_lines, read_table, read}
use Rattle.model.specs.Output.{digit, hex, pair_line, single_line, totals_line, pass_line, plan_bytes, refusal_bytes, reading_bytes, run_bytes, lanes_verdict, full_verdict, group_line, group_count_line, group_bytes, unless_refused_bytes, group_reading_bytes, group_run_bytes}
use Rattle.model.specs.Stretch.{agreement, starts_in, leading, stretch_of, begun, numbers_of, dropped, kept}

-- a plan's passes, `I J U L` or `I`, its partners, upper and printed layouts by job, and its totals; or a refusal's number and place
data Outcome : Type 0 where
  plans : List (List ℕ) → List ℕ → List ℕ → List ℕ → ℕ → ℕ → ℕ → Outcome
  turns_away : ℕ → ℕ → Outcome

pass_numbers : Table → Pass → List ℕ
pass_numbers tb (pair i j) = i ∷ j ∷ upper tb i ∷ printed tb i ∷ []
pass_numbers tb (single i) = i ∷ []

outcome : Table → Verdict → Outcome
outcome tb accepted = plans (map (pass_numbers tb) (passes tb)) (partners tb) (upper_layouts tb) (printed_layouts tb) (pairs tb) (singles tb) (cell_count tb)
outcome tb (refused number place) = turns_away number place

-- a job as top to bottom
record Job : Type 0 where
  top : ℕ
  bottom : ℕ
  mark : ℕ
  window : ℕ

infix 70 ◌to◌
◌to◌ : ℕ → ℕ → Job
t to b = record { top = t; bottom = b; mark = 0; window = 0 }

infix 70 ◌solo_to◌
◌solo_to◌ : ℕ → ℕ → Job
t solo_to b = record { top = t; bottom = b; mark = 1; window = 0 }

infix 68 ◌in_window◌
◌in_window◌ : Job → ℕ → Job
j in_window v = record { top = j.top; bottom = j.bottom; mark = j.mark; window = v }

-- a parent list, jobs, and what is expected of them
record Example : Type 0 where
  parents : List ℕ
  jobs : List Job
  expected : Outcome

table_with : List ℕ → List Job → Table
table_with parents js =
    record {
      parents = parents;
      tops = map (λ (j : Job). j.top) js;
      bottoms = map (λ (j : Job). j.bottom) js;
      marks = map (λ (j : Job). j.mark) js;
      windows = map (λ (j : Job). j.window) js;
    }

table_in : Example → Table
table_in e = table_with e.parents e.jobs

-- what *Plan* does, with buffers of the right sizes
planned : Example → Outcome
planned e =
    outcome (table_in e) (plan_verdict (table_in e) (length e.jobs) (length e.jobs) (length e.jobs) work_cells)

F : ℕ
F = FFFF

bakehouse : Example
bakehouse =
    record {
      parents = F ∷ 0 ∷ 0 ∷ 1 ∷ [];
      jobs = 0 to 3 ∷ 1 to 3 ∷ 2 to 2 ∷ 0 to 2 ∷ 3 to 3 ∷ [];
      expected = plans ((4 ∷ 0 ∷ 3 ∷ 3 ∷ []) ∷ (1 ∷ []) ∷ (2 ∷ 3 ∷ 2 ∷ 2 ∷ []) ∷ []) (4 ∷ F ∷ 3 ∷ 2 ∷ 0 ∷ []) (3 ∷ F ∷ 2 ∷ 2 ∷ 3 ∷ []) (3 ∷ F ∷ 2 ∷ 2 ∷ 3 ∷ []) 2 1 0x19;
    }

-- three jobs on a chain, the last of which shares with each of the two others, and these not with each other; the same numbered from the other end; and behind a job that is alone
-- in its window
earlier_job : Example
earlier_job = record { parents = F ∷ 0 ∷ 1 ∷ 2 ∷ []; jobs = 3 to 3 ∷ 2 to 2 ∷ 1 to 3 ∷ []; expected = plans ((0 ∷ 2 ∷ 3 ∷ 3 ∷ []) ∷ (1 ∷ []) ∷ []) (2 ∷ F ∷ 0 ∷ []) (3 ∷ F ∷ 3 ∷ []) (3 ∷ F ∷ 3 ∷ []) 1 1 10 }

numbered_last : Example
numbered_last = record { parents = F ∷ 0 ∷ 1 ∷ 2 ∷ []; jobs = 1 to 3 ∷ 2 to 2 ∷ 3 to 3 ∷ []; expected = plans ((2 ∷ 0 ∷ 3 ∷ 3 ∷ []) ∷ (1 ∷ []) ∷ []) (2 ∷ F ∷ 0 ∷ []) (3 ∷ F ∷ 3 ∷ []) (3 ∷ F ∷ 3 ∷ []) 1 1 10 }

alone_before : Example
alone_before =
    record {
      parents = F ∷ 0 ∷ 1 ∷ 2 ∷ [];
      jobs = 3 to 3 in_window 1 ∷ 3 to 3 ∷ 2 to 2 ∷ 1 to 3 ∷ [];
      expected = plans ((0 ∷ []) ∷ (1 ∷ 3 ∷ 3 ∷ 3 ∷ []) ∷ (2 ∷ []) ∷ []) (F ∷ 3 ∷ F ∷ 1 ∷ []) (F ∷ 3 ∷ F ∷ 3 ∷ []) (F ∷ 3 ∷ F ∷ 3 ∷ []) 1 2 11;
    }

four_alike : Example
four_alike =
    record {
      parents = F ∷ 0 ∷ [];
      jobs = 1 to 1 ∷ 1 to 1 ∷ 1 to 1 ∷ 1 to 1 ∷ [];
      expected = plans ((0 ∷ 1 ∷ 1 ∷ 1 ∷ []) ∷ (2 ∷ 3 ∷ 1 ∷ 1 ∷ []) ∷ []) (1 ∷ 0 ∷ 3 ∷ 2 ∷ []) (1 ∷ 1 ∷ 1 ∷ 1 ∷ []) (1 ∷ 1 ∷ 1 ∷ 1 ∷ []) 2 0 2;
    }

examples : List Example
examples =
    -- those marked ◆
    record { parents = F ∷ []; jobs = []; expected = plans [] [] [] [] 0 0 0 }
    ∷ record { parents = F ∷ []; jobs = 0 to 0 ∷ []; expected = plans ((0 ∷ []) ∷ []) (F ∷ []) (F ∷ []) (F ∷ []) 0 1 0 }
    ∷ record { parents = F ∷ []; jobs = 0 to 0 ∷ 0 to 0 ∷ []; expected = plans ((0 ∷ []) ∷ (1 ∷ []) ∷ []) (F ∷ F ∷ []) (F ∷ F ∷ []) (F ∷ F ∷ []) 0 2 0 }
    ∷ record { parents = F ∷ []; jobs = 0 to 0 ∷ 0 solo_to 0 ∷ []; expected = plans ((0 ∷ []) ∷ (1 ∷ []) ∷ []) (F ∷ F ∷ []) (F ∷ F ∷ []) (F ∷ F ∷ []) 0 2 0 }
    ∷ record { parents = F ∷ 0 ∷ []; jobs = 0 to 0 ∷ 1 to 1 ∷ []; expected = plans ((1 ∷ []) ∷ (0 ∷ []) ∷ []) (F ∷ F ∷ []) (F ∷ F ∷ []) (F ∷ F ∷ []) 0 2 1 }
    ∷ record {
      parents = F ∷ 0 ∷ 0 ∷ [];
      jobs = 0 to 1 ∷ 0 to 2 ∷ 1 to 1 ∷ 2 to 2 ∷ [];
      expected = plans ((0 ∷ 2 ∷ 1 ∷ 1 ∷ []) ∷ (1 ∷ 3 ∷ 2 ∷ 2 ∷ []) ∷ []) (2 ∷ 3 ∷ 0 ∷ 1 ∷ []) (1 ∷ 2 ∷ 1 ∷ 2 ∷ []) (1 ∷ 2 ∷ 1 ∷ 2 ∷ []) 2 0 6;
    }
    ∷ record {
      parents = F ∷ 0 ∷ [];
      jobs = 1 to 1 ∷ 1 to 1 ∷ 0 to 1 ∷ 0 to 0 ∷ [];
      expected = plans ((0 ∷ 1 ∷ 1 ∷ 1 ∷ []) ∷ (2 ∷ []) ∷ (3 ∷ []) ∷ []) (1 ∷ 0 ∷ F ∷ F ∷ []) (1 ∷ 1 ∷ F ∷ F ∷ []) (1 ∷ 1 ∷ F ∷ F ∷ []) 1 2 2;
    }
    ∷ bakehouse
    ∷ record { parents = F ∷ 1 ∷ []; jobs = []; expected = turns_away 4 1 }
    ∷ record { parents = F ∷ 0 ∷ []; jobs = 1 to 0 ∷ []; expected = turns_away 6 0 }
    -- those that tell wrong planners: the shallowest first, a later partner, spans without depths, the last never offered, solo jobs paired, the highest shared layout
    -- printed, jobs 0-0 that ask or have no slot, the order by depth of top, the upper layout of the later job (which
    -- has the smaller number, and then the larger)
    ∷ record {
      parents = F ∷ 0 ∷ 1 ∷ 1 ∷ [];
      jobs = 0 to 2 ∷ 0 to 3 ∷ 2 to 2 ∷ 3 to 3 ∷ [];
      expected = plans ((2 ∷ 0 ∷ 2 ∷ 2 ∷ []) ∷ (3 ∷ 1 ∷ 3 ∷ 3 ∷ []) ∷ []) (2 ∷ 3 ∷ 0 ∷ 1 ∷ []) (2 ∷ 3 ∷ 2 ∷ 3 ∷ []) (2 ∷ 3 ∷ 2 ∷ 3 ∷ []) 2 0 6;
    }
    ∷ record {
      parents = F ∷ 0 ∷ 1 ∷ [];
      jobs = 0 to 1 ∷ 0 to 2 ∷ 2 to 2 ∷ 2 to 2 ∷ [];
      expected = plans ((2 ∷ 3 ∷ 2 ∷ 2 ∷ []) ∷ (0 ∷ 1 ∷ 1 ∷ 1 ∷ []) ∷ []) (1 ∷ 0 ∷ 3 ∷ 2 ∷ []) (1 ∷ 1 ∷ 2 ∷ 2 ∷ []) (1 ∷ 1 ∷ 2 ∷ 2 ∷ []) 2 0 2;
    }
    ∷ record { parents = F ∷ 0 ∷ 1 ∷ []; jobs = 0 to 1 ∷ 2 to 2 ∷ []; expected = plans ((1 ∷ []) ∷ (0 ∷ []) ∷ []) (F ∷ F ∷ []) (F ∷ F ∷ []) (F ∷ F ∷ []) 0 2 2 }
    ∷ record { parents = F ∷ 0 ∷ []; jobs = 0 to 1 ∷ 0 to 1 ∷ []; expected = plans ((0 ∷ 1 ∷ 1 ∷ 1 ∷ []) ∷ []) (1 ∷ 0 ∷ []) (1 ∷ 1 ∷ []) (1 ∷ 1 ∷ []) 1 0 1 }
    ∷ record { parents = F ∷ 0 ∷ []; jobs = 1 to 1 ∷ 1 solo_to 1 ∷ []; expected = plans ((0 ∷ []) ∷ (1 ∷ []) ∷ []) (F ∷ F ∷ []) (F ∷ F ∷ []) (F ∷ F ∷ []) 0 2 1 }
    ∷ record { parents = F ∷ 0 ∷ 1 ∷ []; jobs = 0 to 2 ∷ 0 to 2 ∷ []; expected = plans ((0 ∷ 1 ∷ 1 ∷ 2 ∷ []) ∷ []) (1 ∷ 0 ∷ []) (1 ∷ 1 ∷ []) (2 ∷ 2 ∷ []) 1 0 1 }
    ∷ record { parents = F ∷ 0 ∷ []; jobs = 1 to 1 ∷ 0 to 0 ∷ 0 to 0 ∷ []; expected = plans ((0 ∷ []) ∷ (1 ∷ []) ∷ (2 ∷ []) ∷ []) (F ∷ F ∷ F ∷ []) (F ∷ F ∷ F ∷ []) (F ∷ F ∷ F ∷ []) 0 3 5 }
    ∷ record { parents = F ∷ 0 ∷ 0 ∷ []; jobs = 0 to 0 ∷ 2 to 2 ∷ 2 to 2 ∷ []; expected = plans ((1 ∷ 2 ∷ 2 ∷ 2 ∷ []) ∷ (0 ∷ []) ∷ []) (F ∷ 2 ∷ 1 ∷ []) (F ∷ 2 ∷ 2 ∷ []) (F ∷ 2 ∷ 2 ∷ []) 1 1 7 }
    ∷ record { parents = F ∷ 0 ∷ []; jobs = 0 to 1 ∷ 1 to 1 ∷ []; expected = plans ((0 ∷ 1 ∷ 1 ∷ 1 ∷ []) ∷ []) (1 ∷ 0 ∷ []) (1 ∷ 1 ∷ []) (1 ∷ 1 ∷ []) 1 0 1 }
    ∷ record { parents = F ∷ 0 ∷ 1 ∷ 2 ∷ []; jobs = 1 to 3 ∷ 2 to 3 ∷ []; expected = plans ((1 ∷ 0 ∷ 2 ∷ 3 ∷ []) ∷ []) (1 ∷ 0 ∷ []) (2 ∷ 2 ∷ []) (3 ∷ 3 ∷ []) 1 0 1 }
    ∷ record { parents = F ∷ 0 ∷ 1 ∷ 2 ∷ []; jobs = 2 to 3 ∷ 1 to 3 ∷ []; expected = plans ((0 ∷ 1 ∷ 2 ∷ 3 ∷ []) ∷ []) (1 ∷ 0 ∷ []) (2 ∷ 2 ∷ []) (3 ∷ 3 ∷ []) 1 0 1 }
    -- windows (2026-05): two that share, in different windows, each alone on its shelf; the next of the same window is taken; the shelf of window 1 has the slots of
    -- its own three jobs, and left of them in one array those of window 0; solo jobs and jobs 0-0 have their slots in their own windows; window 15 and, refused, 16 and 255, a solo
    -- job's too; of one job 5 before 9 and 6 before 9; of two the first
    ∷ record { parents = F ∷ 0 ∷ []; jobs = 1 to 1 ∷ 1 to 1 in_window 1 ∷ []; expected = plans ((0 ∷ []) ∷ (1 ∷ []) ∷ []) (F ∷ F ∷ []) (F ∷ F ∷ []) (F ∷ F ∷ []) 0 2 2 }
    ∷ record {
      parents = F ∷ 0 ∷ [];
      jobs = 1 to 1 in_window 2 ∷ 1 to 1 ∷ 1 to 1 in_window 2 ∷ 0 to 1 ∷ [];
      expected = plans ((0 ∷ 2 ∷ 1 ∷ 1 ∷ []) ∷ (1 ∷ 3 ∷ 1 ∷ 1 ∷ []) ∷ []) (2 ∷ 3 ∷ 0 ∷ 1 ∷ []) (1 ∷ 1 ∷ 1 ∷ 1 ∷ []) (1 ∷ 1 ∷ 1 ∷ 1 ∷ []) 2 0 2;
    }
    ∷ record {
      parents = F ∷ 0 ∷ 0 ∷ [];
      jobs = 2 to 2 in_window 1 ∷ 1 to 1 in_window 1 ∷ 2 to 2 ∷ 2 to 2 in_window 1 ∷ 1 to 1 ∷ [];
      expected = plans ((0 ∷ 3 ∷ 2 ∷ 2 ∷ []) ∷ (1 ∷ []) ∷ (2 ∷ []) ∷ (4 ∷ []) ∷ []) (3 ∷ F ∷ F ∷ 0 ∷ F ∷ []) (2 ∷ F ∷ F ∷ 2 ∷ F ∷ []) (2 ∷ F ∷ F ∷ 2 ∷ F ∷ []) 1 3 0x12;
    }
    ∷ record { parents = F ∷ 0 ∷ []; jobs = 1 solo_to 1 in_window 1 ∷ 1 to 1 in_window 1 ∷ 1 to 1 in_window 1 ∷ []; expected = plans ((0 ∷ []) ∷ (1 ∷ 2 ∷ 1 ∷ 1 ∷ []) ∷ []) (F ∷ 2 ∷ 1 ∷ []) (F ∷ 1 ∷ 1 ∷ []) (F ∷ 1 ∷ 1 ∷ []) 1 1 5 }
    ∷ record { parents = F ∷ 0 ∷ []; jobs = 1 solo_to 1 ∷ 1 to 1 in_window 1 ∷ 1 to 1 in_window 1 ∷ []; expected = plans ((0 ∷ []) ∷ (1 ∷ 2 ∷ 1 ∷ 1 ∷ []) ∷ []) (F ∷ 2 ∷ 1 ∷ []) (F ∷ 1 ∷ 1 ∷ []) (F ∷ 1 ∷ 1 ∷ []) 1 1 1 }
    ∷ record { parents = F ∷ 0 ∷ []; jobs = 1 to 1 in_window 3 ∷ 0 to 0 in_window 3 ∷ 0 to 0 ∷ 0 to 0 in_window 3 ∷ []; expected = plans ((0 ∷ []) ∷ (1 ∷ []) ∷ (2 ∷ []) ∷ (3 ∷ []) ∷ []) (F ∷ F ∷ F ∷ F ∷ []) (F ∷ F ∷ F ∷ F ∷ []) (F ∷ F ∷ F ∷ F ∷ []) 0 4 5 }
    ∷ record { parents = F ∷ 0 ∷ []; jobs = 0 to 1 in_window 15 ∷ 0 to 1 in_window 15 ∷ []; expected = plans ((0 ∷ 1 ∷ 1 ∷ 1 ∷ []) ∷ []) (1 ∷ 0 ∷ []) (1 ∷ 1 ∷ []) (1 ∷ 1 ∷ []) 1 0 1 }
    ∷ record { parents = F ∷ []; jobs = 0 to 0 ∷ 0 to 0 in_window 16 ∷ []; expected = turns_away 9 1 }
    ∷ record { parents = F ∷ []; jobs = 0 solo_to 0 in_window 255 ∷ 0 to 1 ∷ []; expected = turns_away 9 0 }
    ∷ record { parents = F ∷ []; jobs = 0 to 1 in_window 16 ∷ []; expected = turns_away 5 0 }
    ∷ record { parents = F ∷ 0 ∷ []; jobs = 1 to 0 in_window 16 ∷ []; expected = turns_away 6 0 }
    -- the earlier job gets the partner (2026-14): below, beside rivals
    ∷ earlier_job
    ∷ numbered_last
    ∷ alone_before
    ∷ four_alike
    ∷ []

-- ---- from bytes to bytes

-- a line by its digits' values
spelled : List ℕ → List ℕ
spelled ds = map (λ (d : ℕ). get_or (48 ∷ 49 ∷ 50 ∷ 51 ∷ 52 ∷ 53 ∷ 54 ∷ 55 ∷ 56 ∷ 57 ∷ 65 ∷ 66 ∷ 67 ∷ 68 ∷ 69 ∷ 70 ∷ []) d 0) ds ++ 10 ∷ []

-- lines of a table and of a plan, by numbers of one digit
first_layout : List ℕ
first_layout = 0 ∷ 1 ∷ 15 ∷ 15 ∷ 15 ∷ 15 ∷ []

layout_under : ℕ → List ℕ
layout_under p = 0 ∷ 1 ∷ 0 ∷ 0 ∷ 0 ∷ p ∷ []

job_of : ℕ → ℕ → List ℕ
job_of t b = 0 ∷ 2 ∷ 0 ∷ 0 ∷ 0 ∷ t ∷ 0 ∷ 0 ∷ 0 ∷ b ∷ []

solo_of : ℕ → ℕ → List ℕ
solo_of t b = 0 ∷ 4 ∷ 0 ∷ 0 ∷ 0 ∷ t ∷ 0 ∷ 0 ∷ 0 ∷ b ∷ []

-- a window by its two digits
window_of : ℕ → ℕ → ℕ → ℕ → List ℕ
window_of t b v w = 0 ∷ 5 ∷ 0 ∷ 0 ∷ 0 ∷ t ∷ 0 ∷ 0 ∷ 0 ∷ b ∷ v ∷ w ∷ []

end_of : ℕ → ℕ → List ℕ
end_of n m = 0 ∷ 3 ∷ 0 ∷ 0 ∷ 0 ∷ n ∷ 0 ∷ 0 ∷ 0 ∷ m ∷ []

pair_of : ℕ → ℕ → ℕ → ℕ → List ℕ
pair_of i j u l = 1 ∷ 1 ∷ 0 ∷ 0 ∷ 0 ∷ i ∷ 0 ∷ 0 ∷ 0 ∷ j ∷ 0 ∷ 0 ∷ 0 ∷ u ∷ 0 ∷ 0 ∷ 0 ∷ l ∷ []

single_of : ℕ → List ℕ
single_of i = 1 ∷ 2 ∷ 0 ∷ 0 ∷ 0 ∷ i ∷ []

-- pairs, singles, and the last two digits of the cell count
totals_of : ℕ → ℕ → ℕ → ℕ → List ℕ
totals_of p s c d = 1 ∷ 15 ∷ 0 ∷ 0 ∷ 0 ∷ p ∷ 0 ∷ 0 ∷ 0 ∷ s ∷ 0 ∷ 0 ∷ 0 ∷ 0 ∷ 0 ∷ 0 ∷ c ∷ d ∷ []

refusal_of : ℕ → ℕ → List ℕ
refusal_of k p = 1 ∷ 14 ∷ 0 ∷ k ∷ 0 ∷ 0 ∷ 0 ∷ p ∷ []

-- a table's lines, and all that is printed for them
record Printing : Type 0 where
  lines : List (List ℕ)
  spells : List (List ℕ)

printings : List Printing
printings =
    -- the bakehouse table, no bytes at all, the two refused tables, F 0; solo 1-1, 1-1, 1-1: a solo job has its place and its slot, so W is 4 and the lookup of
    -- job 1 visits 5 cells; and F 0 1; 0-2, 0-2: what the two share runs from 1 to 2
    record {
      lines =
          first_layout ∷ layout_under 0 ∷ layout_under 0 ∷ layout_under 1
          ∷ job_of 0 3 ∷ job_of 1 3 ∷ job_of 2 2 ∷ job_of 0 2 ∷ job_of 3 3 ∷ end_of 4 5 ∷ [];
      spells = pair_of 4 0 3 3 ∷ single_of 1 ∷ pair_of 2 3 2 2 ∷ totals_of 2 1 1 9 ∷ [];
    }
    ∷ record { lines = []; spells = refusal_of 7 1 ∷ [] }
    ∷ record { lines = first_layout ∷ layout_under 1 ∷ []; spells = refusal_of 4 2 ∷ [] }
    ∷ record { lines = first_layout ∷ layout_under 0 ∷ job_of 1 0 ∷ end_of 2 1 ∷ []; spells = refusal_of 6 3 ∷ [] }
    ∷ record {
      lines = first_layout ∷ layout_under 0 ∷ solo_of 1 1 ∷ job_of 1 1 ∷ job_of 1 1 ∷ end_of 2 3 ∷ [];
      spells = single_of 0 ∷ pair_of 1 2 1 1 ∷ totals_of 1 1 0 5 ∷ [];
    }
    ∷ record {
      lines = first_layout ∷ layout_under 0 ∷ layout_under 1 ∷ job_of 0 2 ∷ job_of 0 2 ∷ end_of 3 2 ∷ [];
      spells = pair_of 0 1 1 2 ∷ totals_of 1 0 0 1 ∷ [];
    }
    -- layouts after jobs (2026-04): a job before any layout, and a pair on a layout that stands last
    ∷ record { lines = job_of 1 1 ∷ first_layout ∷ layout_under 0 ∷ end_of 2 1 ∷ []; spells = single_of 0 ∷ totals_of 0 1 0 1 ∷ [] }
    ∷ record {
      lines = first_layout ∷ job_of 0 1 ∷ solo_of 0 0 ∷ job_of 1 1 ∷ layout_under 0 ∷ end_of 2 3 ∷ [];
      spells = pair_of 0 2 1 1 ∷ single_of 1 ∷ totals_of 1 1 0 5 ∷ [];
    }
    -- an end without a layout, whatever its counts; no end
    ∷ record { lines = end_of 0 0 ∷ []; spells = refusal_of 2 1 ∷ [] }
    ∷ record { lines = job_of 0 0 ∷ end_of 0 2 ∷ []; spells = refusal_of 2 2 ∷ [] }
    ∷ record { lines = job_of 0 0 ∷ []; spells = refusal_of 7 2 ∷ [] }
    ∷ record { lines = first_layout ∷ job_of 1 0 ∷ []; spells = refusal_of 7 3 ∷ [] }
    -- wrong counts, or a fault further down, before a wrong job; the parent is one of the layouts so far, whatever the line; the first layout is layout 0
    ∷ record { lines = first_layout ∷ job_of 1 0 ∷ end_of 1 2 ∷ []; spells = refusal_of 7 3 ∷ [] }
    ∷ record { lines = first_layout ∷ job_of 1 0 ∷ [] ∷ end_of 1 1 ∷ []; spells = refusal_of 1 3 ∷ [] }
    ∷ record { lines = first_layout ∷ job_of 1 0 ∷ layout_under 5 ∷ end_of 2 1 ∷ []; spells = refusal_of 4 3 ∷ [] }
    ∷ record { lines = first_layout ∷ job_of 1 0 ∷ layout_under 1 ∷ end_of 2 1 ∷ []; spells = refusal_of 4 3 ∷ [] }
    ∷ record { lines = job_of 0 0 ∷ layout_under 0 ∷ []; spells = refusal_of 4 2 ∷ [] }
    -- of two wrong jobs the first; its own line, behind a layout between jobs and in front of the last layout; 5 before 6 in one job
    ∷ record { lines = first_layout ∷ layout_under 0 ∷ job_of 1 0 ∷ job_of 5 0 ∷ end_of 2 2 ∷ []; spells = refusal_of 6 3 ∷ [] }
    ∷ record { lines = first_layout ∷ job_of 0 0 ∷ layout_under 0 ∷ job_of 1 0 ∷ end_of 2 2 ∷ []; spells = refusal_of 6 4 ∷ [] }
    ∷ record { lines = first_layout ∷ job_of 1 0 ∷ layout_under 0 ∷ end_of 2 1 ∷ []; spells = refusal_of 6 2 ∷ [] }
    ∷ record { lines = first_layout ∷ job_of 0 0 ∷ solo_of 1 0 ∷ end_of 1 2 ∷ []; spells = refusal_of 5 3 ∷ [] }
    -- a wrong job before a line after the end; there 2 for a job or a layout, and 1 for an empty line
    ∷ record { lines = first_layout ∷ job_of 0 1 ∷ end_of 1 1 ∷ end_of 1 1 ∷ []; spells = refusal_of 5 2 ∷ [] }
    ∷ record { lines = first_layout ∷ end_of 1 0 ∷ job_of 0 1 ∷ []; spells = refusal_of 2 3 ∷ [] }
    ∷ record { lines = first_layout ∷ end_of 1 0 ∷ layout_under 0 ∷ end_of 2 0 ∷ []; spells = refusal_of 2 3 ∷ [] }
    ∷ record { lines = first_layout ∷ end_of 1 0 ∷ [] ∷ []; spells = refusal_of 1 3 ∷ [] }
    -- windows (2026-05): solo jobs and a job without a window fill window 0, the last is alone in window 1; a pair of window 15; 9 before 2 and 7 (before 3: the last part of the fact), and before a wrong job of an
    -- earlier line; but the end line's wrong job before it, and 1 before 9; lines too short and too long; the own line of a job behind a line with a window, and of such a job
    ∷ record {
      lines = first_layout ∷ layout_under 0 ∷ solo_of 1 1 ∷ solo_of 1 1 ∷ job_of 1 1 ∷ window_of 1 1 0 1 ∷ end_of 2 4 ∷ [];
      spells = single_of 0 ∷ single_of 1 ∷ single_of 2 ∷ single_of 3 ∷ totals_of 0 4 0 6 ∷ [];
    }
    ∷ record {
      lines = window_of 0 1 0 15 ∷ first_layout ∷ layout_under 0 ∷ window_of 1 1 0 0 ∷ window_of 1 1 0 15 ∷ end_of 2 3 ∷ [];
      spells = pair_of 0 2 1 1 ∷ single_of 1 ∷ totals_of 1 1 0 2 ∷ [];
    }
    ∷ record { lines = first_layout ∷ end_of 1 0 ∷ window_of 0 0 1 0 ∷ []; spells = refusal_of 9 3 ∷ [] }
    ∷ record { lines = first_layout ∷ window_of 0 0 15 15 ∷ []; spells = refusal_of 9 2 ∷ [] }
    ∷ record { lines = first_layout ∷ job_of 1 0 ∷ window_of 0 0 1 0 ∷ end_of 1 2 ∷ []; spells = refusal_of 9 3 ∷ [] }
    ∷ record { lines = first_layout ∷ job_of 1 0 ∷ end_of 1 1 ∷ window_of 0 0 1 0 ∷ []; spells = refusal_of 5 2 ∷ [] }
    ∷ record { lines = first_layout ∷ end_of 1 0 ∷ window_of 0 0 0 15 ∷ []; spells = refusal_of 2 3 ∷ [] }
    ∷ record { lines = first_layout ∷ window_of 16 0 1 0 ∷ end_of 1 1 ∷ []; spells = refusal_of 1 2 ∷ [] }
    ∷ record { lines = first_layout ∷ (0 ∷ 5 ∷ 0 ∷ 0 ∷ 0 ∷ 0 ∷ 0 ∷ 0 ∷ 0 ∷ 0 ∷ []) ∷ end_of 1 1 ∷ []; spells = refusal_of 1 2 ∷ [] }
    ∷ record { lines = first_layout ∷ (0 ∷ 2 ∷ 0 ∷ 0 ∷ 0 ∷ 0 ∷ 0 ∷ 0 ∷ 0 ∷ 0 ∷ 0 ∷ 0 ∷ []) ∷ end_of 1 1 ∷ []; spells = refusal_of 1 2 ∷ [] }
    ∷ record { lines = first_layout ∷ window_of 0 0 0 1 ∷ job_of 1 0 ∷ end_of 1 2 ∷ []; spells = refusal_of 5 3 ∷ [] }
    ∷ record { lines = first_layout ∷ layout_under 0 ∷ job_of 0 0 ∷ window_of 1 0 0 1 ∷ end_of 2 2 ∷ []; spells = refusal_of 6 4 ∷ [] }
    ∷ []

-- ---- rivals

-- the first job that one of two plans has paired and the other single, and which of them has it paired; or there is none
data Difference : Type 0 where
  ours_has : ℕ → Difference
  rival_has : ℕ → Difference
  nowhere : Difference

difference : List Pair → Option ℕ → Difference
difference our none = nowhere
difference our (some j) = cond (in_pair our j) (ours_has j) (rival_has j)

-- a rival plan for an example, the pairs in front of the cuts from 0 to M, ours and the rival's, and the first difference
record Comparison : Type 0 where
  example : Example
  rival : List Pair
  ours_in_front : List ℕ
  rivals_in_front : List ℕ
  first : Difference

infix 70 ◌with◌
◌with◌ : ℕ → ℕ → Pair
i with j = record { one = i; other = j }

-- as many pairs in front of every cut as ours, but the first job in the running order single; the same numbered from the other end, and behind a job that is single in both; a job
-- before the first difference that is paired in both; no pairs at all, and fewer pairs; and fewer in front of a cut alone, with the same jobs paired
comparisons : List Comparison
comparisons =
    record { example = earlier_job; rival = 1 with 2 ∷ []; ours_in_front = 0 ∷ 0 ∷ 0 ∷ 1 ∷ []; rivals_in_front = 0 ∷ 0 ∷ 0 ∷ 1 ∷ []; first = ours_has 0 }
    ∷ record { example = numbered_last; rival = 0 with 1 ∷ []; ours_in_front = 0 ∷ 0 ∷ 0 ∷ 1 ∷ []; rivals_in_front = 0 ∷ 0 ∷ 0 ∷ 1 ∷ []; first = ours_has 2 }
    ∷ record { example = alone_before; rival = 2 with 3 ∷ []; ours_in_front = 0 ∷ 0 ∷ 0 ∷ 0 ∷ 1 ∷ []; rivals_in_front = 0 ∷ 0 ∷ 0 ∷ 0 ∷ 1 ∷ []; first = ours_has 1 }
    ∷ record { example = bakehouse; rival = 4 with 1 ∷ 2 with 3 ∷ []; ours_in_front = 0 ∷ 0 ∷ 1 ∷ 1 ∷ 1 ∷ 2 ∷ []; rivals_in_front = 0 ∷ 0 ∷ 0 ∷ 1 ∷ 1 ∷ 2 ∷ []; first = ours_has 0 }
    ∷ record { example = bakehouse; rival = []; ours_in_front = 0 ∷ 0 ∷ 1 ∷ 1 ∷ 1 ∷ 2 ∷ []; rivals_in_front = 0 ∷ 0 ∷ 0 ∷ 0 ∷ 0 ∷ 0 ∷ []; first = ours_has 4 }
    ∷ record { example = four_alike; rival = 0 with 1 ∷ []; ours_in_front = 0 ∷ 0 ∷ 1 ∷ 1 ∷ 2 ∷ []; rivals_in_front = 0 ∷ 0 ∷ 1 ∷ 1 ∷ 1 ∷ []; first = ours_has 2 }
    ∷ record { example = four_alike; rival = 0 with 3 ∷ 1 with 2 ∷ []; ours_in_front = 0 ∷ 0 ∷ 1 ∷ 1 ∷ 2 ∷ []; rivals_in_front = 0 ∷ 0 ∷ 0 ∷ 1 ∷ 2 ∷ []; first = nowhere }
    ∷ []

-- what the definitions make of the two plans
compared : Comparison → Comparison
compared c =
    let tb = table_in c.example in
    let our = pairs_of (length tb.tops) (partners tb) in
    let cuts = numbers (suc (length tb.tops)) in
    record { example = c.example; rival = c.rival; ours_in_front = map (λ (m : ℕ). pairs_in_front tb m our) cuts; rivals_in_front = map (λ (m : ℕ). pairs_in_front tb m c.rival) cuts; first = difference our (first_difference tb our c.rival) }

-- the rules of a pair, by their tests
unequal : (i j : ℕ) → T (not (eqb i j)) → i ≢ j
unequal i j t e = T_not (eqb i j) t (rw e (eqb_refl j))

keeps : (tb : Table) (i j : ℕ) → T (ltb i (length tb.tops)) → T (ltb j (length tb.tops)) → T (not (eqb i j)) → T (not (solo tb i)) → T (not (solo tb j)) → T (same_window tb i j) → T (shares tb i j) → Rules tb (i with j)
unfolding ◌with◌
keeps tb i j one other differ a b c d = record {
  one_known = ltb→lt i (length tb.tops) one;
  other_known = ltb→lt j (length tb.tops) other;
  differ = unequal i j differ;
  one_not_solo = a;
  other_not_solo = b;
  same_window = c;
  share = d;
}

-- a rival of one pair, and of two
one_pair : (tb : Table) (p : Pair) → Rules tb p → Rival tb (p ∷ [])
one_pair tb p r = record { keep = (r, tt); once = (tt, tt) }

two_pairs :
    (tb : Table) (p q : Pair)
    → Rules tb p
    → Rules tb q
    → T (not (eqb p.one q.one))
    → T (not (eqb p.one q.other))
    → T (not (eqb p.other q.one))
    → T (not (eqb p.other q.other))
    → Rival tb (p ∷ q ∷ [])
two_pairs tb p q r s a b c d = record {
  keep = (r, (s, tt));
  once = ((record { one_one = unequal p.one q.one a; one_other = unequal p.one q.other b; other_one = unequal p.other q.one c; other_other = unequal p.other q.other d }, tt), (tt, tt));
}

-- ---- groups for presses with more lanes

-- a number of one digit in four
four : ℕ → List ℕ
four d = 0 ∷ 0 ∷ 0 ∷ d ∷ []

-- the line of a group, by its jobs and its layout, and that of the number of groups
group_of : List ℕ → ℕ → List ℕ
group_of js l = 1 ∷ 3 ∷ (flat_map four js ++ four l)

group_count_of : ℕ → List ℕ
group_count_of n = 1 ∷ 15 ∷ four n

-- a table, the lanes of a press, and all that is printed for it
record Grouping : Type 0 where
  parents : List ℕ
  jobs : List Job
  lanes : ℕ
  prints : List (List ℕ)

-- document 02's chain
chain_of_seven : List Job
chain_of_seven = 4 to 4 ∷ 3 to 4 ∷ 2 to 4 ∷ 3 to 3 ∷ 3 to 3 ∷ 2 to 2 ∷ 2 to 2 ∷ []

groupings : List Grouping
groupings =
    -- no jobs, and no press; a pair, and one lane too many for it; layout 0 alone; a solo job
    record { parents = F ∷ []; jobs = []; lanes = 8; prints = group_count_of 0 ∷ [] }
    ∷ record { parents = F ∷ []; jobs = []; lanes = 9; prints = refusal_of 13 0 ∷ [] }
    ∷ record { parents = F ∷ []; jobs = []; lanes = 1; prints = refusal_of 13 0 ∷ [] }
    ∷ record { parents = F ∷ 0 ∷ []; jobs = 1 to 1 ∷ 0 to 1 ∷ []; lanes = 2; prints = group_of (0 ∷ 1 ∷ []) 1 ∷ group_count_of 1 ∷ [] }
    ∷ record { parents = F ∷ 0 ∷ []; jobs = 1 to 1 ∷ 0 to 1 ∷ []; lanes = 3; prints = refusal_of 14 0 ∷ [] }
    ∷ record { parents = F ∷ []; jobs = 0 to 0 ∷ 0 to 0 ∷ []; lanes = 2; prints = refusal_of 14 0 ∷ [] }
    ∷ record { parents = F ∷ 0 ∷ []; jobs = 1 to 1 ∷ 1 solo_to 1 ∷ []; lanes = 2; prints = refusal_of 14 0 ∷ [] }
    -- windows
    ∷ record { parents = F ∷ 0 ∷ []; jobs = 1 to 1 ∷ 1 to 1 in_window 1 ∷ 1 to 1 ∷ 1 to 1 in_window 1 ∷ []; lanes = 2; prints = group_of (0 ∷ 2 ∷ []) 1 ∷ group_of (1 ∷ 3 ∷ []) 1 ∷ group_count_of 2 ∷ [] }
    ∷ record { parents = F ∷ 0 ∷ []; jobs = 1 to 1 ∷ 1 to 1 in_window 1 ∷ 1 to 1 ∷ 1 to 1 ∷ []; lanes = 2; prints = refusal_of 14 0 ∷ [] }
    -- lines by place; document 02's chain, without its first job, and with two more at the end
    ∷ record { parents = F ∷ 0 ∷ 1 ∷ []; jobs = 1 to 1 ∷ 1 to 1 ∷ 2 to 2 ∷ 2 to 2 ∷ []; lanes = 2; prints = group_of (2 ∷ 3 ∷ []) 2 ∷ group_of (0 ∷ 1 ∷ []) 1 ∷ group_count_of 2 ∷ [] }
    ∷ record { parents = F ∷ 0 ∷ 1 ∷ 2 ∷ 3 ∷ []; jobs = chain_of_seven; lanes = 3; prints = refusal_of 14 0 ∷ [] }
    ∷ record {
      parents = F ∷ 0 ∷ 1 ∷ 2 ∷ 3 ∷ [];
      jobs = 3 to 4 ∷ 2 to 4 ∷ 3 to 3 ∷ 3 to 3 ∷ 2 to 2 ∷ 2 to 2 ∷ [];
      lanes = 3;
      prints = group_of (0 ∷ 2 ∷ 3 ∷ []) 3 ∷ group_of (1 ∷ 4 ∷ 5 ∷ []) 2 ∷ group_count_of 2 ∷ [];
    }
    ∷ record {
      parents = F ∷ 0 ∷ 1 ∷ 2 ∷ 3 ∷ [];
      jobs = chain_of_seven ++ 3 to 3 ∷ 2 to 2 ∷ [];
      lanes = 3;
      prints = group_of (0 ∷ 1 ∷ 2 ∷ []) 4 ∷ group_of (3 ∷ 4 ∷ 7 ∷ []) 3 ∷ group_of (5 ∷ 6 ∷ 8 ∷ []) 2 ∷ group_count_of 3 ∷ [];
    }
    -- the layout of all three, not of the first two; the first later jobs; two branches; eight lanes
    ∷ record { parents = F ∷ 0 ∷ 1 ∷ []; jobs = 1 to 2 ∷ 1 to 2 ∷ 1 to 1 ∷ []; lanes = 3; prints = group_of (0 ∷ 1 ∷ 2 ∷ []) 1 ∷ group_count_of 1 ∷ [] }
    ∷ record { parents = F ∷ 0 ∷ 1 ∷ 2 ∷ []; jobs = 3 to 3 ∷ 1 to 3 ∷ 2 to 3 ∷ 1 to 1 ∷ []; lanes = 2; prints = group_of (0 ∷ 2 ∷ []) 3 ∷ group_of (1 ∷ 3 ∷ []) 1 ∷ group_count_of 2 ∷ [] }
    ∷ record { parents = F ∷ 0 ∷ 0 ∷ []; jobs = 0 to 1 ∷ 0 to 2 ∷ 1 to 1 ∷ 2 to 2 ∷ []; lanes = 2; prints = group_of (0 ∷ 2 ∷ []) 1 ∷ group_of (1 ∷ 3 ∷ []) 2 ∷ group_count_of 2 ∷ [] }
    ∷ record { parents = F ∷ 0 ∷ []; jobs = 1 to 1 ∷ 1 to 1 ∷ 1 to 1 ∷ 1 to 1 ∷ 1 to 1 ∷ 1 to 1 ∷ 1 to 1 ∷ 1 to 1 ∷ []; lanes = 8; prints = group_of (0 ∷ 1 ∷ 2 ∷ 3 ∷ 4 ∷ 5 ∷ 6 ∷ 7 ∷ []) 1 ∷ group_count_of 1 ∷ [] }
    ∷ []

-- what is printed for a table that was read
grouped : Grouping → List ℕ
grouped e = unless_refused_bytes (lanes_verdict e.lanes) (group_reading_bytes e.lanes (read (table_with e.parents e.jobs)))

-- 13 before what the reader turns away, and that before 14
refused_groupings : List (ℕ × List (List ℕ) × List ℕ)
refused_groupings =
    (9, [] ∷ [], refusal_of 13 0)
    ∷ (2, [] ∷ [], refusal_of 1 1)
    ∷ (2, first_layout ∷ job_of 1 0 ∷ end_of 1 1 ∷ [], refusal_of 5 2)
    ∷ (2, first_layout ∷ job_of 0 0 ∷ end_of 1 1 ∷ [], refusal_of 14 0)
    ∷ []

chain_table : Table
chain_table = table_with (F ∷ 0 ∷ 1 ∷ 2 ∷ 3 ∷ []) chain_of_seven

-- a tree of two branches
on_branches : List Job → Table
on_branches js = table_with (F ∷ 0 ∷ 0 ∷ []) js

-- paths to both have no layout other than 0 in common
branches_apart : (x : ℕ) → x ≢ 0 → T (elem x (1 ∷ 0 ∷ [])) → T (elem x (2 ∷ 0 ∷ [])) → ⊥
unfolding elem any_of
branches_apart zero other a b = other refl
branches_apart (suc zero) other a b = b
branches_apart (suc (suc x)) other a b = rw (eqb-suc-suc (suc x) 0, eqb-suc-zero x, eqb-suc-zero (suc x)) at a

-- ---- stretches

-- two lists, and of their shared stretch the list that it begins, the cell of that list at which it starts, and its numbers
data Which : Type 0 where
  first : Which
  second : Which

record Stretched : Type 0 where
  one : List ℕ
  other : List ℕ
  begins : Which
  from : ℕ
  numbered : List ℕ

-- no numbers; nothing shared; a leading 0 in both, in one, and alone; two leading zeros; zeros inside; equal lists; the second begins it; the first place counts
stretches : List Stretched
stretches =
    record { one = []; other = []; begins = first; from = 0; numbered = [] }
    ∷ record { one = 0 ∷ 1 ∷ []; other = []; begins = first; from = 1; numbered = [] }
    ∷ record { one = 1 ∷ []; other = 0 ∷ 2 ∷ []; begins = first; from = 0; numbered = [] }
    ∷ record { one = 0 ∷ []; other = 0 ∷ []; begins = first; from = 1; numbered = [] }
    ∷ record { one = 0 ∷ 1 ∷ 2 ∷ []; other = 0 ∷ 1 ∷ 3 ∷ []; begins = first; from = 1; numbered = 1 ∷ [] }
    ∷ record { one = 1 ∷ 2 ∷ []; other = 0 ∷ 1 ∷ 2 ∷ []; begins = first; from = 0; numbered = 1 ∷ 2 ∷ [] }
    ∷ record { one = 0 ∷ 1 ∷ 2 ∷ []; other = 1 ∷ 2 ∷ []; begins = first; from = 1; numbered = 1 ∷ 2 ∷ [] }
    ∷ record { one = 1 ∷ 2 ∷ []; other = 1 ∷ 2 ∷ []; begins = first; from = 0; numbered = 1 ∷ 2 ∷ [] }
    ∷ record { one = 2 ∷ 3 ∷ []; other = 0 ∷ 1 ∷ 2 ∷ 3 ∷ 4 ∷ []; begins = first; from = 0; numbered = 2 ∷ 3 ∷ [] }
    ∷ record { one = 0 ∷ 0 ∷ []; other = 0 ∷ 0 ∷ []; begins = first; from = 1; numbered = 0 ∷ [] }
    ∷ record { one = 0 ∷ 0 ∷ 1 ∷ []; other = 0 ∷ 1 ∷ []; begins = second; from = 1; numbered = 1 ∷ [] }
    ∷ record { one = 1 ∷ 0 ∷ 2 ∷ []; other = 0 ∷ 1 ∷ 0 ∷ 2 ∷ []; begins = first; from = 0; numbered = 1 ∷ 0 ∷ 2 ∷ [] }
    ∷ record { one = 0 ∷ 1 ∷ 2 ∷ 3 ∷ []; other = 2 ∷ 3 ∷ 4 ∷ []; begins = second; from = 0; numbered = 2 ∷ 3 ∷ [] }
    ∷ record { one = 3 ∷ 1 ∷ []; other = 0 ∷ 3 ∷ 5 ∷ 3 ∷ 1 ∷ []; begins = first; from = 0; numbered = 3 ∷ [] }
    ∷ []

-- what the definitions make of the two lists
stretched : Stretched → Stretched
stretched e =
    let s = stretch_of (kept e.one) (kept e.other) in
    record { one = e.one; other = e.other; begins = begun s first second; from = begun s (dropped e.one) (dropped e.other); numbered = numbers_of s (kept e.one) (kept e.other) }

-- ---- the fact

-- each table is planned or refused as expected, each printing is as spelled, each rival keeps the rules and compares as written, each table is grouped as spelled, document 02's chain
-- has two groups of three where the rule makes one, what breaks a rule is no group and no full grouping, each stretch is as written, the bakehouse has its running
-- order and its slots, equal leaves by place, the lookups of jobs 4, 1 and 2 visit 7, 7 and 11 cells, an empty span visits one cell, inside a shelf and at its ends, and window
-- 16 is refusal 9 on every line, whatever the table so far, the top and the bottom
examples_hold :
    (map planned examples ≡ map (λ (e : Example). e.expected) examples)
    × (map (λ (e : Printing). run_bytes (flat_map spelled e.lines)) printings ≡ map (λ (e : Printing). flat_map spelled e.spells) printings)
    × All (λ (c : Comparison). Rival (table_in c.example) c.rival) comparisons
    × (map compared comparisons ≡ comparisons)
    × (map grouped groupings ≡ map (λ (e : Grouping). flat_map spelled e.prints) groupings)
    × (map (λ (e : ℕ × List (List ℕ) × List ℕ). group_run_bytes e.0 (flat_map spelled e.1)) refused_groupings ≡ map (λ (e : ℕ × List (List ℕ) × List ℕ). spelled e.2) refused_groupings)
    × All (Group chain_table 3) ((1 ∷ 3 ∷ 4 ∷ []) ∷ (2 ∷ 5 ∷ 6 ∷ []) ∷ [])
    × (groups_of chain_table 3 ≡ (0 ∷ 1 ∷ 2 ∷ []) ∷ (3 ∷ 4 ∷ []) ∷ (5 ∷ 6 ∷ []) ∷ [])
    × (Group (on_branches (1 to 1 ∷ 1 to 1 ∷ [])) 3 (0 ∷ 1 ∷ []) → ⊥)
    × (Group (on_branches (0 to 0 ∷ [])) 2 (0 ∷ 1 ∷ []) → ⊥)
    × (Group (on_branches (1 to 1 ∷ 1 solo_to 1 ∷ [])) 2 (0 ∷ 1 ∷ []) → ⊥)
    × (Group (on_branches (1 to 1 ∷ 1 to 1 in_window 1 ∷ [])) 2 (0 ∷ 1 ∷ []) → ⊥)
    × (Group (on_branches (0 to 1 ∷ 0 to 2 ∷ [])) 2 (0 ∷ 1 ∷ []) → ⊥)
    × (FullGrouping (on_branches (1 to 1 ∷ 1 to 1 ∷ 1 to 1 ∷ [])) 2 ((0 ∷ 1 ∷ []) ∷ []) → ⊥)
    × (FullGrouping (on_branches (1 to 1 ∷ 1 to 1 ∷ [])) 2 ((0 ∷ 1 ∷ []) ∷ (1 ∷ 0 ∷ []) ∷ []) → ⊥)
    × (map stretched stretches ≡ stretches)
    × (running_order (table_in bakehouse) ≡ 4 ∷ 0 ∷ 1 ∷ 2 ∷ 3 ∷ [])
    × (map (slot (table_in bakehouse)) (4 ∷ 0 ∷ 1 ∷ 2 ∷ 3 ∷ []) ≡ 0 ∷ 1 ∷ 2 ∷ 3 ∷ 4 ∷ [])
    × (map (lookup_visits (table_in bakehouse)) (4 ∷ 1 ∷ 2 ∷ []) ≡ 7 ∷ 7 ∷ 11 ∷ [])
    × (map (λ (s : ℕ). visits 3 s s) (0 ∷ 3 ∷ 4 ∷ 8 ∷ []) ≡ 1 ∷ 1 ∷ 1 ∷ 1 ∷ [])
    × ((line : ℕ) (tb : Table) (own : List ℕ) (ended : Bool) (t b : ℕ) → frame_verdict line tb own ended (window_frame t b 16) ≡ refused 9 line)
unfolding numbers_from numbers elem index_of last_d any_of all_of select count_where find total insert_by sort_by right_parent layouts_from tree_verdict ascend ancestors ancestor_or_self depth children or_self leaves_within leaves first_leaf last_leaf solo same_window up_to path_from path own_path bare asks highest highest_depth shares shared_layouts highest_shared deepest_shared bottom_leaf job_verdict earlier running_order place leftward window_jobs window_size slot_order slot without greedy_step greedy_steps greedy compatible passes levels_from levels cell_visits visits asks_for asked_slots asked_from asked_to lookup_visits pass_visits cell_count lent_verdict jobs_verdict plan_verdict partner_in pair_count single_count partners upper upper_layouts printed printed_layouts pairs singles pass_numbers outcome ◌to◌ ◌solo_to◌ ◌in_window◌ table_with table_in planned F bakehouse earlier_job numbered_last alone_before four_alike examples flat_map head_d is_digit digit_value number_after lead lines frame_of_kind frame_of is_end beyond_windows end_without_layout on_its_line content_verdict frame_verdict extended with_own_line unless_refused read_frame read_lines read_table digit hex pair_line single_line totals_line pass_line plan_bytes refusal_bytes reading_bytes run_bytes spelled first_layout layout_under job_of solo_of window_of end_of pair_of single_of totals_of refusal_of printings xor in_front pairs_in_front pairs_of in_pair paired_in_one first_difference difference ◌with◌ comparisons compared flatten without_all first_passing group_step group_steps grouping all_full groups_of common_layouts deepest_common lanes_verdict full_verdict group_line group_count_line group_bytes group_reading_bytes group_run_bytes four group_of group_count_of chain_of_seven chain_table groupings grouped refused_groupings on_branches agreement starts_in leading stretch_of dropped stretched stretches
examples_hold =
    let a = one_pair (table_in earlier_job) (1 with 2) (keeps (table_in earlier_job) 1 2 tt tt tt tt tt tt tt) in
    let b = one_pair (table_in numbered_last) (0 with 1) (keeps (table_in numbered_last) 0 1 tt tt tt tt tt tt tt) in
    let c = one_pair (table_in alone_before) (2 with 3) (keeps (table_in alone_before) 2 3 tt tt tt tt tt tt tt) in
    let d = two_pairs (table_in bakehouse) (4 with 1) (2 with 3) (keeps (table_in bakehouse) 4 1 tt tt tt tt tt tt tt) (keeps (table_in bakehouse) 2 3 tt tt tt tt tt tt tt) tt tt tt tt in
    let e = one_pair (table_in four_alike) (0 with 1) (keeps (table_in four_alike) 0 1 tt tt tt tt tt tt tt) in
    let g : Group chain_table 3 (1 ∷ 3 ∷ 4 ∷ []) = record { full = refl; known = (ltb→lt 1 _ tt, (ltb→lt 3 _ tt, (ltb→lt 4 _ tt, tt))); none_solo = (tt, (tt, (tt, tt))); one_window = (0, (refl, (refl, (refl, tt)))); one_layout = (3, unequal _ _ tt, (tt, (tt, (tt, tt)))) } in
    let h : Group chain_table 3 (2 ∷ 5 ∷ 6 ∷ []) = record { full = refl; known = (ltb→lt 2 _ tt, (ltb→lt 5 _ tt, (ltb→lt 6 _ tt, tt))); none_solo = (tt, (tt, (tt, tt))); one_window = (0, (refl, (refl, (refl, tt)))); one_layout = (2, unequal _ _ tt, (tt, (tt, (tt, tt)))) } in
    let too_few : Group (on_branches (1 to 1 ∷ 1 to 1 ∷ [])) 3 (0 ∷ 1 ∷ []) → ⊥ = λ o. omega (arith, o.full) in
    let not_there : Group (on_branches (0 to 0 ∷ [])) 2 (0 ∷ 1 ∷ []) → ⊥ = λ o. omega (arith, o.known.1.0) in
    let one-solo : Group (on_branches (1 to 1 ∷ 1 solo_to 1 ∷ [])) 2 (0 ∷ 1 ∷ []) → ⊥ = λ o. o.none_solo.1.0 in
    let two-windows : Group (on_branches (1 to 1 ∷ 1 to 1 in_window 1 ∷ [])) 2 (0 ∷ 1 ∷ []) → ⊥ = λ o. omega (arith, o.one_window.1.0, o.one_window.1.1.0) in
    let no-layout : Group (on_branches (0 to 1 ∷ 0 to 2 ∷ [])) 2 (0 ∷ 1 ∷ []) → ⊥ = λ o. branches_apart o.one_layout.0 o.one_layout.1 o.one_layout.2.0 o.one_layout.2.1.0 in
    let left_out : FullGrouping (on_branches (1 to 1 ∷ 1 to 1 ∷ 1 to 1 ∷ [])) 2 ((0 ∷ 1 ∷ []) ∷ []) → ⊥ = λ o. omega (arith, o.once 2 (ltb→lt 2 _ tt)) in
    let twice : FullGrouping (on_branches (1 to 1 ∷ 1 to 1 ∷ [])) 2 ((0 ∷ 1 ∷ []) ∷ (1 ∷ 0 ∷ []) ∷ []) → ⊥ = λ o. omega (arith, o.once 0 (ltb→lt 0 _ tt)) in
    let f = two_pairs (table_in four_alike) (0 with 3) (1 with 2) (keeps (table_in four_alike) 0 3 tt tt tt tt tt tt tt) (keeps (table_in four_alike) 1 2 tt tt tt tt tt tt tt) tt tt tt tt in
    (refl, refl, (a, (b, (c, (d, (record { keep = tt; once = tt }, (e, (f, tt))))))), refl, refl, refl, (g, (h, tt)), refl, too_few, not_there, one-solo, two-windows, no-layout, left_out, twice, refl, refl, refl, refl, refl, λ line tb own ended t b. refl)
