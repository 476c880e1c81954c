-- The reading before 2026-04: layouts stand first, and a job is judged on its own line. Where 2026-05 moved what it calls, it says what that said then: a line 05 is of an
-- unknown kind, and every job is in window 0. Kept for AsBefore.
use Rattle.std.specs.Prelude.{ℕ, suc, Bool, false, cond, not, ◌||◌, ◌&&◌, List, [], ◌∷◌, length, eqb, ltb, leb}
use Rattle.std.proofs.Math.Option.{Option, none, some}
use Rattle.model.specs.Verdict.{Verdict, refused, refuse_if, ◌then◌}
use Rattle.model.specs.Tree.{layout_limit, right_parent}
use Rattle.model.specs.Jobs.{Table, jobs, job_limit, job_verdict}
use Rattle.model.specs.Table.{Line, lines, Frame, layout_frame, job_frame, solo_frame, window_frame, end_frame, frame_of, is_end, extended, Reading, read, stopped, unless_refused, empty_table}
use Rattle.model.specs.Output.{reading_bytes}

-- a job: 2, after the end or before any layout; 3, beyond the limit; 5 and 6, wrong
unfoldable pub new_job_verdict : ℕ → Table → Bool → ℕ → ℕ → Verdict
new_job_verdict line tb ended t b =
    refuse_if (ended || eqb (length tb.parents) 0) 2 line
    then refuse_if (leb job_limit (jobs tb)) 3 line
    then job_verdict tb.parents t b 0 line

-- a layout: 2, after the end or a job; 3, beyond the limit; 4, a wrong parent. A line 05: 1. An end: 2, after the end or before any layout; 7, wrong counts
unfoldable pub frame_verdict : ℕ → Table → Bool → Frame → Verdict
frame_verdict line tb ended (layout_frame p) =
    refuse_if (ended || ltb 0 (jobs tb)) 2 line
    then refuse_if (leb layout_limit (length tb.parents)) 3 line
    then refuse_if (not (right_parent (length tb.parents) p)) 4 line
frame_verdict line tb ended (job_frame t b) = new_job_verdict line tb ended t b
frame_verdict line tb ended (solo_frame t b) = new_job_verdict line tb ended t b
frame_verdict line tb ended (window_frame t b v) = refused 1 line
frame_verdict line tb ended (end_frame n m) =
    refuse_if (ended || eqb (length tb.parents) 0) 2 line
    then refuse_if (not (eqb n (length tb.parents) && eqb m (jobs tb))) 7 line

-- a line that is no frame is refusal 1; `later` reads the lines after it, of which there is none without a refusal once the end is read
unfoldable pub read_frame : (Table → Bool → Reading) → ℕ → Table → Bool → Option Frame → Reading
read_frame later line tb ended none = stopped 1 line
read_frame later line tb ended (some f) = unless_refused (frame_verdict line tb ended f) (later (extended tb f) (is_end f))

-- the lines from number `line` on. Bytes that stop with no end line: 7, at the line after the last
unfoldable pub read_lines : List Line → ℕ → Table → Bool → Reading
read_lines [] line tb ended = cond ended (read tb) (stopped 7 line)
read_lines (l ∷ ls) line tb ended = read_frame (read_lines ls (suc line)) line tb ended (frame_of l)

-- the table that the bytes spell; the place is the line counted from 1
unfoldable pub read_table : List ℕ → Reading
read_table bytes = read_lines (lines bytes) 1 empty_table false

-- what *Whole run* prints of what was so read
unfoldable pub run_bytes : List ℕ → List ℕ
run_bytes bytes = reading_bytes (read_table bytes)
