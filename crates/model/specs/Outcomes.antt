-- The full outcome of each public operation (docs/RULES.md, 8 to 11 and 13 to 15): the answer, and each lent buffer as the call leaves it (marked ').
use Rattle.std.specs.Prelude.{ℕ, ◌≤◌, ◌≡◌, ◌≢◌, List, [], ◌∷◌, ◌++◌, length, take, drop, replicate, Result, Ok}
use Rattle.model.specs.Verdict.{Verdict, accepted, answer, lent}
use Rattle.model.specs.Tree.{FFFF, depth, first_leaf, last_leaf, settle_verdict, settled_cells}
use Rattle.model.specs.Jobs.{Table, jobs, table_of}
use Rattle.model.specs.Visits.{cell_count}
use Rattle.model.specs.Rival.{MaximumAtEveryCut, EarlierJobsPaired}
use Rattle.model.specs.Planning as Planning
use Rattle.model.specs.Grouping.{FullGrouping, groups_of}
use Rattle.model.specs.Table.{Reading, read, read_table, table_read, buffers_verdict, read_answer, read_cells}
use Rattle.model.specs.Output.{refusal_bytes, output_bytes, lanes_verdict, group_bytes, run_length, run_output, group_run_length, group_run_output}
use Rattle.model.specs.Answers.{settled_answer, table_answer, planned_answer}
use Rattle.model.specs.declared.Counts.{Counts}
use Rattle.model.specs.declared.Refusal.{Refusal}
use Rattle.model.specs.declared.Totals.{Totals}

-- *Settle layouts* under its verdict v: depth, first leaf and last leaf of each layout
pub record SettledAs (v : Verdict) (parents depths firsts lasts : List ℕ) (r : Result Unit Refusal) (depths' firsts' lasts' : List ℕ) : Type 0 where
  pub answered : settled_answer r ≡ answer v []
  pub depths_hold : depths' ≡ settled_cells v (depth parents) parents depths
  pub firsts_hold : firsts' ≡ settled_cells v (first_leaf parents) parents firsts
  pub lasts_hold : lasts' ≡ settled_cells v (last_leaf parents) parents lasts

abbrev pub SettleOutcome : List ℕ → List ℕ → List ℕ → List ℕ → Result Unit Refusal → List ℕ → List ℕ → List ℕ → Type 0
SettleOutcome parents depths firsts lasts =
    SettledAs (settle_verdict parents (length depths) (length firsts) (length lasts)) parents depths firsts lasts

-- *Read a table* under the verdict v on the buffers' sizes, for the reading t of the bytes: N and M, and the table in the buffers
pub record ReadAs (v : Verdict) (t : Reading) (parents tops bottoms marks windows : List ℕ) (r : Result Counts Refusal) (parents' tops' bottoms' marks' windows' : List ℕ) : Type 0 where
  pub answered : table_answer r ≡ read_answer v t
  pub parents_hold : parents' ≡ read_cells v FFFF parents (table_read t).parents
  pub tops_hold : tops' ≡ read_cells v FFFF tops (table_read t).tops
  pub bottoms_hold : bottoms' ≡ read_cells v FFFF bottoms (table_read t).bottoms
  pub marks_hold : marks' ≡ read_cells v 0 marks (table_read t).marks
  pub windows_hold : windows' ≡ read_cells v 0 windows (table_read t).windows

abbrev pub ReadOutcome : List ℕ → List ℕ → List ℕ → List ℕ → List ℕ → List ℕ → Result Counts Refusal → List ℕ → List ℕ → List ℕ → List ℕ → List ℕ → Type 0
ReadOutcome bytes parents tops bottoms marks windows =
    ReadAs (buffers_verdict (length parents) (length tops) (length bottoms) (length marks) (length windows)) (read_table bytes) parents tops bottoms marks windows

-- *Plan* under its verdict v: partners, upper and printed layouts, totals and work cells, and, where totals are given back, that no rival plan beats what was handed back at any
-- cut, and that beside any the first job that one has paired and the other single is paired in what was handed back
pub record PlannedAs (v : Verdict) (tb : Table) (partners uppers printed work : List ℕ) (r : Result Totals Refusal) (partners' uppers' printed' work' : List ℕ) : Type 0 where
  pub answered : planned_answer r ≡ answer v (Planning.pairs tb ∷ Planning.singles tb ∷ cell_count tb ∷ [])
  pub partners_hold : partners' ≡ lent v partners (Planning.partners tb ++ drop (jobs tb) partners)
  pub uppers_hold : uppers' ≡ lent v uppers (Planning.upper_layouts tb ++ drop (jobs tb) uppers)
  pub printed_hold : printed' ≡ lent v printed (Planning.printed_layouts tb ++ drop (jobs tb) printed)
  pub work_holds : work' ≡ lent v work (replicate Planning.work_cells 0 ++ drop Planning.work_cells work)
  pub maximum : (t : Totals) → r ≡ Ok t → MaximumAtEveryCut tb partners' t.pairs t.singles
  pub earlier_paired : (t : Totals) → r ≡ Ok t → EarlierJobsPaired tb partners'

abbrev pub PlanOutcome : List ℕ → List ℕ → List ℕ → List ℕ → List ℕ → List ℕ → List ℕ → List ℕ → List ℕ → Result Totals Refusal → List ℕ → List ℕ → List ℕ → List ℕ → Type 0
PlanOutcome parents tops bottoms marks windows partners uppers printed work =
    PlannedAs (Planning.plan_verdict (table_of parents tops bottoms marks windows) (length partners) (length uppers) (length printed) (length work)) (table_of parents tops bottoms marks windows) partners uppers printed work

-- *Whole run*: the length answered, and the output as it is left. That *Plan* accepts what was read, and that the lines are what it hands back, are laws of the crate
-- `run`: Sound `read-accepted`, OfPlan `run-prints-plan`
pub record RunOutcome (input output : List ℕ) (r : ℕ) (output' : List ℕ) : Type 0 where
  pub answered : r ≡ run_length input output
  pub written : output' ≡ run_output input output

-- what a press with g lanes prints for a table: 14 exactly if the table has no full grouping, however that might be made; else the groups of the rule, which are one
pub record FullOrNone (tb : Table) (g : ℕ) (printed : List ℕ) : Type 0 where
  pub refused_none : printed ≡ refusal_bytes 14 0 → (gs : List (List ℕ)) → FullGrouping tb g gs → ⊥
  pub none_refused : ((gs : List (List ℕ)) → FullGrouping tb g gs → ⊥) → printed ≡ refusal_bytes 14 0
  pub any_printed : (gs : List (List ℕ)) → FullGrouping tb g gs → FullGrouping tb g (groups_of tb g) × (printed ≡ group_bytes g tb)
  pub else_printed : printed ≢ refusal_bytes 14 0 → FullGrouping tb g (groups_of tb g) × (printed ≡ group_bytes g tb)

-- the second whole run, for a press with g lanes: the length answered, the output as it is left, and that 14 comes exactly if no full grouping exists, last: of a table that was
-- read, by a press that there is, into output that is long enough
pub record GroupRunOutcome (g : ℕ) (input output : List ℕ) (r : ℕ) (output' : List ℕ) : Type 0 where
  pub answered : r ≡ group_run_length g input output
  pub written : output' ≡ group_run_output g input output
  pub full_or_none : (tb : Table) → output_bytes ≤ length output → lanes_verdict g ≡ accepted → read_table input ≡ read tb → FullOrNone tb g (take r output')
