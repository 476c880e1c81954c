-- The plan's lines and the two whole runs (docs/RULES.md, 13 and 15, and docs/FORMAT.md; document 01, "The plan", and *Whole run* of "What each operation turns away"; document 02,
-- 2026-07).
use Rattle.std.specs.Prelude.{ℕ, zero, suc, ◌+◌, ◌/◌, ◌%◌, cond, not, ◌&&◌, length, leb, ltb}
use mathlib.Core.List.{List, [], ◌∷◌, ◌++◌, flat_map}
use Rattle.model.specs.Verdict.{Verdict, accepted, refused, refuse_if, lent, padded}
use Rattle.model.specs.Jobs.{Table}
use Rattle.model.specs.Greedy.{Pass, pair, single, passes}
use Rattle.model.specs.Grouping.{least_lanes, most_lanes, groups_of, all_full, deepest_common}
use Rattle.model.specs.Visits.{cell_count}
use Rattle.model.specs.Planning.{upper, printed, pairs, singles}
use Rattle.model.specs.Table.{Reading, read, stopped, read_table}

unfoldable pub digit : ℕ → ℕ
digit d = cond (ltb d 10) (48 + d) (55 + d)

-- n in k digits
unfoldable pub hex : ℕ → ℕ → List ℕ
hex zero n = []
hex (suc k) n = hex k (n / 16) ++ digit (n % 16) ∷ []

-- a line's digits and its 0A
abbrev pub line : List ℕ → List ℕ
line digits = digits ++ 10 ∷ []

-- 11 I J U L
unfoldable pub pair_line : ℕ → ℕ → ℕ → ℕ → List ℕ
pair_line i j upper lower = line (hex 2 0x11 ++ (hex 4 i ++ (hex 4 j ++ (hex 4 upper ++ hex 4 lower))))

-- 12 I
unfoldable pub single_line : ℕ → List ℕ
single_line i = line (hex 2 0x12 ++ hex 4 i)

-- 1F: pairs, singles, cell count
unfoldable pub totals_line : ℕ → ℕ → ℕ → List ℕ
totals_line pairs singles visits = line (hex 2 0x1F ++ (hex 4 pairs ++ (hex 4 singles ++ hex 8 visits)))

-- the line of a pass
unfoldable pub pass_line : Table → Pass → List ℕ
pass_line tb (pair i j) = pair_line i j (upper tb i) (printed tb i)
pass_line tb (single i) = single_line i

-- one line a pass, ordered by the earlier place in it, and the totals
unfoldable pub plan_bytes : Table → List ℕ
plan_bytes tb = flat_map (pass_line tb) (passes tb) ++ totals_line (pairs tb) (singles tb) (cell_count tb)

-- 1E, the number in two digits, the place in four
unfoldable pub refusal_bytes : ℕ → ℕ → List ℕ
refusal_bytes number place = line (hex 2 0x1E ++ (hex 2 number ++ hex 4 place))

-- what is printed for a reading
unfoldable pub reading_bytes : Reading → List ℕ
reading_bytes (read tb) = plan_bytes tb
reading_bytes (stopped number place) = refusal_bytes number place

-- what the whole run prints for a table's bytes
unfoldable pub run_bytes : List ℕ → List ℕ
run_bytes bytes = reading_bytes (read_table bytes)

-- ---- a press with more lanes

-- 13: g outside 2 to 8
unfoldable pub lanes_verdict : ℕ → Verdict
lanes_verdict g = refuse_if (not (leb least_lanes g && leb g most_lanes)) 13 0

-- 14: the rule leaves a group that is not full. Then there is no full grouping, however it may be made (Outcomes: `FullOrNone`)
unfoldable pub full_verdict : Table → ℕ → Verdict
full_verdict tb g = refuse_if (not (all_full g (groups_of tb g))) 14 0

-- 13, the jobs of a group in running order, their deepest common layout
unfoldable pub group_line : Table → List ℕ → List ℕ
group_line tb group = line (hex 2 0x13 ++ (flat_map (hex 4) group ++ hex 4 (deepest_common tb group)))

-- 1F: the number of groups
unfoldable pub group_count_line : ℕ → List ℕ
group_count_line n = line (hex 2 0x1F ++ hex 4 n)

-- one line a group, ordered by its first job, and their number
unfoldable pub group_bytes : ℕ → Table → List ℕ
group_bytes g tb = flat_map (group_line tb) (groups_of tb g) ++ group_count_line (length (groups_of tb g))

-- a refusal's line, or what is printed where nothing is refused
abbrev pub unless_refused_bytes : Verdict → List ℕ → List ℕ
unless_refused_bytes accepted bytes = bytes
unless_refused_bytes (refused number place) bytes = refusal_bytes number place

-- what is printed for a reading, 14 last
unfoldable pub group_reading_bytes : ℕ → Reading → List ℕ
group_reading_bytes g (read tb) = unless_refused_bytes (full_verdict tb g) (group_bytes g tb)
group_reading_bytes g (stopped number place) = refusal_bytes number place

-- what the second whole run prints for a table's bytes: 13, then what the reader turns away, then 14, then the groups
unfoldable pub group_run_bytes : ℕ → List ℕ → List ℕ
group_run_bytes g bytes = unless_refused_bytes (lanes_verdict g) (group_reading_bytes g (read_table bytes))

-- ---- the output

-- bytes of output that a whole run needs
abbrev pub output_bytes : ℕ
output_bytes = 40960

-- 8: output below 40,960 bytes
unfoldable pub output_verdict : ℕ → Verdict
output_verdict n = refuse_if (ltb n output_bytes) 8 0

abbrev pub length_under : Verdict → ℕ → ℕ
length_under accepted n = n
length_under (refused number place) n = 0

-- the length that a run answers which prints these bytes: 0 after refusal 8
abbrev pub length_printing : List ℕ → List ℕ → ℕ
length_printing printed output = length_under (output_verdict (length output)) (length printed)

-- the output afterwards: nothing changed after refusal 8, else bytes past the length are 0
abbrev pub output_printing : List ℕ → List ℕ → List ℕ
output_printing printed output = lent (output_verdict (length output)) output (padded (length output) 0 printed)

unfoldable pub run_length : List ℕ → List ℕ → ℕ
run_length bytes output = length_printing (run_bytes bytes) output

unfoldable pub run_output : List ℕ → List ℕ → List ℕ
run_output bytes output = output_printing (run_bytes bytes) output

unfoldable pub group_run_length : ℕ → List ℕ → List ℕ → ℕ
group_run_length g bytes output = length_printing (group_run_bytes g bytes) output

unfoldable pub group_run_output : ℕ → List ℕ → List ℕ → List ℕ
group_run_output g bytes output = output_printing (group_run_bytes g bytes) output
