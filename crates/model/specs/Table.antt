-- The table's meaning, line by line (docs/RULES.md, 10; docs/FORMAT.md; document 01, "The table", *Read a table* of "What each operation turns away", as 2026-04
-- and 2026-05 changed it).
use Rattle.std.specs.Prelude.{ℕ, suc, ◌+◌, ◌-◌, ◌*◌, Bool, true, false, cond, not, ◌||◌, ◌&&◌, List, [], ◌∷◌, ◌++◌, length, get_or, take, drop, eqb, ltb, leb}
use Rattle.std.proofs.Math.Option.{Option, none, some}
use Rattle.model.specs.Lists.{all_of}
use Rattle.model.specs.Verdict.{Verdict, accepted, refused, refuse_if, ◌then◌, Answer, gives, refuses, lent, padded}
use Rattle.model.specs.Tree.{layout_limit, right_parent}
use Rattle.model.specs.Jobs.{Table, jobs, job_limit, window_limit}
use Rattle.model.specs.Planning.{jobs_verdict}

-- ---- digits and numbers

-- upper-case hexadecimal
unfoldable pub is_digit : ℕ → Bool
is_digit b = leb 48 b && leb b 57 || leb 65 b && leb b 70

unfoldable pub digit_value : ℕ → ℕ
digit_value b = cond (leb b 57) (b - 48) (b - 55)

-- the number that digits spell after those that spelled n
unfoldable pub number_after : ℕ → List ℕ → ℕ
number_after n [] = n
number_after n (d ∷ ds) = number_after (n * 16 + digit_value d) ds

-- ---- lines

-- a line that ended in byte 0A, or one that the bytes stopped in
pub data Line : Type 0 where
  terminated : List ℕ → Line
  unterminated : List ℕ → Line

-- the lines with b in front of the first
unfoldable pub lead : ℕ → List Line → List Line
lead b [] = unterminated (b ∷ []) ∷ []
lead b (terminated l ∷ ls) = terminated (b ∷ l) ∷ ls
lead b (unterminated l ∷ ls) = unterminated (b ∷ l) ∷ ls

-- each line is ended by byte 0A
unfoldable pub lines : List ℕ → List Line
lines [] = []
lines (b ∷ bs) = cond (eqb b 10) (terminated [] ∷ lines bs) (lead b (lines bs))

-- the first of some lines; where there are none, a line without its 0A
abbrev pub first_of : List Line → Line
first_of [] = unterminated []
first_of (l ∷ ls) = l

-- the line that the bytes begin with
unfoldable pub first_line : List ℕ → Line
first_line bytes = first_of (lines bytes)

-- ---- frames

-- a line's content: its kind and fields
pub data Frame : Type 0 where
  layout_frame : ℕ → Frame
  job_frame : ℕ → ℕ → Frame
  solo_frame : ℕ → ℕ → Frame
  window_frame : ℕ → ℕ → ℕ → Frame
  end_frame : ℕ → ℕ → Frame

-- the first two digits are the kind
abbrev pub kind_of : List ℕ → ℕ
kind_of l = number_after 0 (take 2 l)

-- a layout or count has four digits: the field that begins at `at`
abbrev pub field_at : ℕ → List ℕ → ℕ
field_at at l = number_after 0 (take 4 (drop at l))

-- a window has two
abbrev pub window_at : ℕ → List ℕ → ℕ
window_at at l = number_after 0 (take 2 (drop at l))

-- 01 P, 02 T B, 04 T B, 05 T B V and 03 N M; none where the kind is unknown or the length is wrong
unfoldable pub frame_of_kind : List ℕ → Option Frame
frame_of_kind l =
    cond (eqb (kind_of l) 1 && eqb (length l) 6) (some (layout_frame (field_at 2 l)))
    (cond (eqb (kind_of l) 2 && eqb (length l) 10) (some (job_frame (field_at 2 l) (field_at 6 l)))
    (cond (eqb (kind_of l) 4 && eqb (length l) 10) (some (solo_frame (field_at 2 l) (field_at 6 l)))
    (cond (eqb (kind_of l) 5 && eqb (length l) 12) (some (window_frame (field_at 2 l) (field_at 6 l) (window_at 10 l)))
    (cond (eqb (kind_of l) 3 && eqb (length l) 10) (some (end_frame (field_at 2 l) (field_at 6 l))) none))))

-- the frame of a line; none for a line without its 0A, an unknown kind, a wrong length or a wrong digit
unfoldable pub frame_of : Line → Option Frame
frame_of (unterminated l) = none
frame_of (terminated l) = cond (all_of is_digit l) (frame_of_kind l) none

-- ---- reading, line by line. tb is the table so far, `own` the lines of its jobs by job number, `ended` whether the end was read

unfoldable pub is_end : Frame → Bool
is_end (layout_frame p) = false
is_end (job_frame t b) = false
is_end (solo_frame t b) = false
is_end (window_frame t b v) = false
is_end (end_frame n m) = true

-- a line with a window above 0F
unfoldable pub beyond_windows : Frame → Bool
beyond_windows (layout_frame p) = false
beyond_windows (job_frame t b) = false
beyond_windows (solo_frame t b) = false
beyond_windows (window_frame t b v) = leb window_limit v
beyond_windows (end_frame n m) = false

unfoldable pub end_without_layout : Table → Frame → Bool
end_without_layout tb f = is_end f && eqb (length tb.parents) 0

-- a job's refusal, with the job's own line as place instead of its number; each job that is judged was read, so the 0 is never used
unfoldable pub on_its_line : List ℕ → Verdict → Verdict
on_its_line own accepted = accepted
on_its_line own (refused number job) = refused number (get_or own job 0)

-- 3, a layout or job beyond the limit; 4, a wrong parent; at the end 7, wrong counts, then 5 or 6 of the first wrong job, as *Plan* finds it, on its own line: no job that was
-- read has a window above 15
unfoldable pub content_verdict : ℕ → Table → List ℕ → Frame → Verdict
content_verdict line tb own (layout_frame p) =
    refuse_if (leb layout_limit (length tb.parents)) 3 line
    then refuse_if (not (right_parent (length tb.parents) p)) 4 line
content_verdict line tb own (job_frame t b) = refuse_if (leb job_limit (jobs tb)) 3 line
content_verdict line tb own (solo_frame t b) = refuse_if (leb job_limit (jobs tb)) 3 line
content_verdict line tb own (window_frame t b v) = refuse_if (leb job_limit (jobs tb)) 3 line
content_verdict line tb own (end_frame n m) =
    refuse_if (not (eqb n (length tb.parents) && eqb m (jobs tb))) 7 line
    then on_its_line own (jobs_verdict tb)

-- 9, a window above 0F; 2, a line after the end, or an end without a layout; then the grounds of its kind
unfoldable pub frame_verdict : ℕ → Table → List ℕ → Bool → Frame → Verdict
frame_verdict line tb own ended f =
    refuse_if (beyond_windows f) 9 line
    then refuse_if (ended || end_without_layout tb f) 2 line
    then content_verdict line tb own f

-- the table with one job more
abbrev pub with_job : Table → ℕ → ℕ → ℕ → ℕ → Table
with_job tb t b mark v =
    record {
      parents = tb.parents;
      tops = tb.tops ++ t ∷ [];
      bottoms = tb.bottoms ++ b ∷ [];
      marks = tb.marks ++ mark ∷ [];
      windows = tb.windows ++ v ∷ [];
    }

-- the table with the frame's layout or job; a line without a window means window 0
unfoldable pub extended : Table → Frame → Table
extended tb (layout_frame p) =
    record { parents = tb.parents ++ p ∷ []; tops = tb.tops; bottoms = tb.bottoms; marks = tb.marks; windows = tb.windows }
extended tb (job_frame t b) = with_job tb t b 0 0
extended tb (solo_frame t b) = with_job tb t b 1 0
extended tb (window_frame t b v) = with_job tb t b 0 v
extended tb (end_frame n m) = tb

-- `own` with this line, if it holds a job
unfoldable pub with_own_line : List ℕ → ℕ → Frame → List ℕ
with_own_line own line (layout_frame p) = own
with_own_line own line (job_frame t b) = own ++ line ∷ []
with_own_line own line (solo_frame t b) = own ++ line ∷ []
with_own_line own line (window_frame t b v) = own ++ line ∷ []
with_own_line own line (end_frame n m) = own

-- a table read to its end, or a refusal's number and place
pub data Reading : Type 0 where
  read : Table → Reading
  stopped : ℕ → ℕ → Reading

-- what comes after a verdict
unfoldable pub unless_refused : Verdict → Reading → Reading
unless_refused accepted r = r
unless_refused (refused number place) r = stopped number place

-- a line that is no frame is refusal 1; `later` reads the lines after it. Every frame after the end is refused, so `isEnd` of the frame just accepted tells whether the end was read
unfoldable pub read_frame : (Table → List ℕ → Bool → Reading) → ℕ → Table → List ℕ → Bool → Option Frame → Reading
read_frame later line tb own ended none = stopped 1 line
read_frame later line tb own ended (some f) =
    unless_refused (frame_verdict line tb own ended f) (later (extended tb f) (with_own_line own line f) (is_end f))

-- the lines from number `line` on. Bytes that stop with no end line: 7, at the line after the last
unfoldable pub read_lines : List Line → ℕ → Table → List ℕ → Bool → Reading
read_lines [] line tb own ended = cond ended (read tb) (stopped 7 line)
read_lines (l ∷ ls) line tb own ended = read_frame (read_lines ls (suc line)) line tb own ended (frame_of l)

-- no layouts and no jobs
abbrev pub empty_table : Table
empty_table = record { parents = []; tops = []; bottoms = []; marks = []; windows = [] }

-- the table that the bytes spell; the place is the line counted from 1
unfoldable pub read_table : List ℕ → Reading
read_table bytes = read_lines (lines bytes) 1 empty_table [] false

-- ---- what *Read a table* does with the buffers

-- 8, place 0: parents below 1,024 cells, or another buffer below 4,096
unfoldable pub buffers_verdict : ℕ → ℕ → ℕ → ℕ → ℕ → Verdict
buffers_verdict parents tops bottoms marks windows =
    refuse_if (ltb parents layout_limit || ltb tops job_limit || ltb bottoms job_limit || ltb marks job_limit || ltb windows job_limit) 8 0

-- N and M are given back, or the refusal
unfoldable pub reading_answer : Reading → Answer
reading_answer (read tb) = gives (length tb.parents ∷ jobs tb ∷ [])
reading_answer (stopped number place) = refuses number place

-- what the buffers then hold: nothing after a refusal
unfoldable pub table_read : Reading → Table
table_read (read tb) = tb
table_read (stopped number place) = empty_table

-- a refusal of the buffers' sizes stands before any of the table
unfoldable pub read_answer : Verdict → Reading → Answer
read_answer accepted r = reading_answer r
read_answer (refused number place) r = refuses number place

-- untouched after refusal 8; else unused cells hold `unused`: FFFF, or 0 for marks and windows
abbrev pub read_cells : Verdict → ℕ → List ℕ → List ℕ → List ℕ
read_cells sizes unused old used = lent sizes old (padded (length old) unused used)
