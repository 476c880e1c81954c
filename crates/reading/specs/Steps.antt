-- What each step of the reader promises. The table so far is tb, the lines of its jobs are own; the bytes from `at` on are still to be read, the first of their
-- lines having the number `line`.
use Rattle.std.specs.Prelude.{ℕ, zero, suc, ◌+◌, ◌-◌, ◌*◌, ◌≤◌, ◌<◌, ◌≡◌, Bool, true, false, List, [], ◌∷◌, ◌++◌, length, get_or, take, drop, replicate, Option, Some, None, Result, Ok, Err}
use Rattle.model.specs.Verdict.{Verdict, accepted, refused}
use Rattle.model.specs.Tree.{FFFF, layout_limit, right_parent, layouts_from}
use Rattle.model.specs.Jobs.{Table, table_of, jobs, job_limit}
use Rattle.model.specs.Planning.{jobs_verdict}
use Rattle.model.specs.Table.{lines, layout_frame, job_frame, solo_frame, window_frame, end_frame, on_its_line, frame_verdict, with_job, extended, Reading, read, stopped, unless_refused, read_lines, read_table}
use Rattle.model.specs.Table as Format
use Rattle.model.specs.Answers.{reason_number}
use Rattle.model.specs.declared.Refusal.{Refusal}
use Rattle.own_line.specs.OwnLine.{job_lines, own_lines_from}
use Rattle.reading.specs.declared.Step.{Step}
use Rattle.reading.specs.declared.Step.TheVariants as step
use Rattle.reading.specs.declared.Ended.{Ended}

-- what reading the bytes from `at` on comes to
abbrev pub read_from : List ℕ → ℕ → ℕ → Table → List ℕ → Bool → Reading
read_from bytes at line tb own ended = read_lines (lines (drop at bytes)) line tb own ended

-- so many layouts, jobs and ends can have been read
pub record Counted (layouts jobs ends : ℕ) : Type 0 where
  pub few_layouts : layouts ≤ layout_limit
  pub few_jobs_lem : jobs ≤ job_limit
  pub few_ends : ends ≤ 1

-- the end was read
abbrev pub ended_at : ℕ → Bool
ended_at zero = false
ended_at (suc ends) = true

-- a job, or a solo job
abbrev pub job_of : ℕ → ℕ → Bool → Format.Frame
job_of t b false = job_frame t b
job_of t b true = solo_frame t b

-- the mark of a job: 1 for a solo job
abbrev pub mark_of : Bool → ℕ
mark_of false = 0
mark_of true = 1

-- a job is what it was, or where no job more can be held, refusal 3
abbrev pub JobJudged : Bool → ℕ → Step → Result Step Refusal → Type 0
JobJudged full line job (Ok s) = (full ≡ false) × (s ≡ job)
JobJudged full line job (Err r) = (full ≡ true) × (reason_number r.reason ≡ 3) × (r.place ≡ line)

-- ---- a frame

module _ (line : ℕ) (tb : Table) (own : List ℕ) (ended : Bool) (f : Format.Frame) where
  -- it is accepted as a layout
  pub record LayoutFrame (p : ℕ) : Type 0 where
    pub not_ended : ended ≡ false
    pub accepts : frame_verdict line tb own ended f ≡ accepted
    pub is : f ≡ layout_frame p
    pub room : length tb.parents < layout_limit
    pub right : right_parent (length tb.parents) p ≡ true

  -- as the job g
  pub record JobFrame (g : Format.Frame) : Type 0 where
    pub not_ended : ended ≡ false
    pub accepts : frame_verdict line tb own ended f ≡ accepted
    pub is : f ≡ g
    pub room : jobs tb < job_limit

  -- it is an end with right counts, and the verdict is that on the jobs
  pub record EndFrame : Type 0 where
    pub not_ended : ended ≡ false
    pub n : ℕ
    pub m : ℕ
    pub is : f ≡ end_frame n m
    pub some_layout : 0 < length tb.parents
    pub judged : frame_verdict line tb own ended f ≡ on_its_line own (jobs_verdict tb)

  abbrev pub FrameOutcome : Result Step Refusal → Type 0
  FrameOutcome (Ok (step.Layout p)) = LayoutFrame p.0
  FrameOutcome (Ok (step.Job t b solo)) = JobFrame (job_of t.0 b.0 solo)
  FrameOutcome (Ok (step.Windowed t b v)) = JobFrame (window_frame t.0 b.0 v.0)
  FrameOutcome (Ok step.End) = EndFrame
  FrameOutcome (Err r) = frame_verdict line tb own ended f ≡ refused (reason_number r.reason) r.place

-- in every table with so many layouts and jobs
abbrev pub FrameJudged : ℕ → ℕ → ℕ → Bool → Format.Frame → Result Step Refusal → Type 0
FrameJudged layouts jobs ends ended f r = (tb : Table) (own : List ℕ) → length tb.parents ≡ layouts → length tb.tops ≡ jobs → FrameOutcome (layouts + jobs + ends + 1) tb own ended f r

-- ---- a line

module _ (bytes : List ℕ) (at line : ℕ) (tb : Table) (own : List ℕ) (ended : Bool) where
  -- it is a layout, and reading goes on after it
  pub record LayoutLine (p : ℕ) : Type 0 where
    pub not_ended : ended ≡ false
    pub within : at + 7 ≤ length bytes
    pub room : length tb.parents < layout_limit
    pub right : right_parent (length tb.parents) p ≡ true
    pub next : read_from bytes at line tb own ended ≡ read_from bytes (at + 7) (suc line) (extended tb (layout_frame p)) own false
    pub ahead : own_lines_from bytes at line ≡ own_lines_from bytes (at + 7) (suc line)

  -- a job, whose own line it is, w bytes wide
  pub record JobLine (t b mark v w : ℕ) : Type 0 where
    pub not_ended : ended ≡ false
    pub within : at + w ≤ length bytes
    pub room : jobs tb < job_limit
    pub next : read_from bytes at line tb own ended ≡ read_from bytes (at + w) (suc line) (with_job tb t b mark v) (own ++ line ∷ []) false
    pub ahead : own_lines_from bytes at line ≡ line ∷ own_lines_from bytes (at + w) (suc line)

  -- the end: the jobs are judged, and then comes what stands after it
  pub record EndLine : Type 0 where
    pub not_ended : ended ≡ false
    pub within : at + 11 ≤ length bytes
    pub some_layout : 0 < length tb.parents
    pub next : read_from bytes at line tb own ended ≡ unless_refused (on_its_line own (jobs_verdict tb)) (read_from bytes (at + 11) (suc line) tb own true)
    pub ahead : own_lines_from bytes at line ≡ []

  abbrev pub StepOutcome : Result Step Refusal → Type 0
  StepOutcome (Ok (step.Layout p)) = LayoutLine p.0
  StepOutcome (Ok (step.Job t b solo)) = JobLine t.0 b.0 (mark_of solo) 0 11
  StepOutcome (Ok (step.Windowed t b v)) = JobLine t.0 b.0 0 v.0 13
  StepOutcome (Ok step.End) = EndLine
  StepOutcome (Err r) = read_from bytes at line tb own ended ≡ stopped (reason_number r.reason) r.place

-- in every table with so many layouts and jobs
abbrev pub LineJudged : List ℕ → ℕ → ℕ → ℕ → ℕ → Result Step Refusal → Type 0
LineJudged bytes at layouts jobs ends r = (tb : Table) (own : List ℕ) → length tb.parents ≡ layouts → length tb.tops ≡ jobs → StepOutcome bytes at (layouts + jobs + ends + 1) tb own (ended_at ends) r

-- ---- the buffers

-- the cells from n on hold v
abbrev pub Unused : ℕ → ℕ → List ℕ → Type 0
Unused v n cells = drop n cells ≡ replicate (length cells - n) v

-- the cells of layouts from n on and those of jobs from m on are not used
pub record Spare (parents tops bottoms marks windows : List ℕ) (n m : ℕ) : Type 0 where
  pub parents_spare : Unused FFFF n parents
  pub tops_spare : Unused FFFF m tops
  pub bottoms_spare : Unused FFFF m bottoms
  pub marks_spare : Unused 0 m marks
  pub windows_spare : Unused 0 m windows

-- there is a cell for each job that the bytes can hold within the limit: no job's line is shorter than 11 bytes
abbrev pub Room : List ℕ → List ℕ → Type 0
Room bytes cells = (m : ℕ) → m < job_limit → 11 * m + 11 ≤ length bytes → m < length cells

-- room for the layouts and jobs of the bytes
pub record Roomy (bytes parents tops bottoms marks windows : List ℕ) : Type 0 where
  pub parents_room : layout_limit ≤ length parents
  pub tops_room : Room bytes tops
  pub bottoms_room : Room bytes bottoms
  pub marks_room : Room bytes marks
  pub windows_room : Room bytes windows

-- in clear buffers
pub record BuffersReady (bytes parents tops bottoms marks windows : List ℕ) : Type 0 where
  pub room : Roomy bytes parents tops bottoms marks windows
  pub clear : Spare parents tops bottoms marks windows 0 0

-- the first n layouts and m jobs of the cells
abbrev pub held : List ℕ → List ℕ → List ℕ → List ℕ → List ℕ → ℕ → ℕ → Table
held parents tops bottoms marks windows n m = table_of (take n parents) (take m tops) (take m bottoms) (take m marks) (take m windows)

-- the cells hold n layouts with right parents and m jobs, and nothing else
pub record Holds (parents tops bottoms marks windows : List ℕ) (n m : ℕ) : Type 0 where
  pub few_layouts : n ≤ layout_limit
  pub few_jobs_lem : m ≤ job_limit
  pub parents_hold : n ≤ length parents
  pub tops_hold : m ≤ length tops
  pub bottoms_hold : m ≤ length bottoms
  pub marks_hold : m ≤ length marks
  pub windows_hold : m ≤ length windows
  pub right : layouts_from 0 (take n parents) ≡ accepted
  pub spare : Spare parents tops bottoms marks windows n m

-- ---- so far

-- each of the first m jobs has its own line among the first k
abbrev pub Standing : List ℕ → ℕ → ℕ → Type 0
Standing own m k = (j : ℕ) → j < m → (0 < get_or own j 0) × (get_or own j 0 ≤ k)

-- the lines of the jobs that are still to be read; behind the end there is none
abbrev pub own_ahead : Bool → List ℕ → ℕ → ℕ → List ℕ
own_ahead false bytes at line = own_lines_from bytes at line
own_ahead true bytes at line = []

-- behind the end the jobs come first
abbrev pub judged_first : Bool → Table → List ℕ → Reading → Reading
judged_first false tb own r = r
judged_first true tb own r = unless_refused (on_its_line own (jobs_verdict tb)) r

-- before the line at `at`, of n layouts, m jobs and so many ends
pub record SoFar (bytes parents tops bottoms marks windows : List ℕ) (at n m ends : ℕ) : Type 0 where
  pub holds : Holds parents tops bottoms marks windows n m
  pub one_end : ends ≤ 1
  pub end_last : 0 < ends → 0 < n
  pub within : at ≤ length bytes
  pub passed : 7 * n + 11 * m ≤ at
  pub own : List ℕ
  pub counted : length own ≡ m
  pub standing : Standing own m (n + m)
  pub ahead : own ++ own_ahead (ended_at ends) bytes at (n + m + ends + 1) ≡ job_lines 1 (lines bytes)
  pub next : read_table bytes ≡ judged_first (ended_at ends) (held parents tops bottoms marks windows n m) own (read_from bytes at (n + m + ends + 1) (held parents tops bottoms marks windows n m) own (ended_at ends))

-- ---- what the lines come to

-- what stands after the end makes of the table that was read
abbrev pub read_after : Option Refusal → Table → Reading
read_after None tb = read tb
read_after (Some r) tb = stopped (reason_number r.reason) r.place

-- what a table with a right end comes to, its jobs having the verdict v
abbrev pub judged_at_end : List ℕ → Table → Option Refusal → Verdict → Reading
judged_at_end bytes tb a v = unless_refused (on_its_line (job_lines 1 (lines bytes)) v) (read_after a tb)

-- the end was read, after n layouts and m jobs
pub record EndRead (bytes parents tops bottoms marks windows : List ℕ) (n m : ℕ) (a : Option Refusal) : Type 0 where
  pub holds : Holds parents tops bottoms marks windows n m
  pub some_layout : 0 < n
  pub standing : Standing (job_lines 1 (lines bytes)) m (n + m)
  pub next : read_table bytes ≡ judged_at_end bytes (held parents tops bottoms marks windows n m) a (jobs_verdict (held parents tops bottoms marks windows n m))

-- what a refusal leaves in the cells is open
abbrev pub LinesRead : List ℕ → List ℕ → List ℕ → List ℕ → List ℕ → List ℕ → Result Ended Refusal → Type 0
LinesRead bytes parents tops bottoms marks windows (Ok e) = EndRead bytes parents tops bottoms marks windows e.counts.layouts e.counts.jobs e.after
LinesRead bytes parents tops bottoms marks windows (Err r) = read_table bytes ≡ stopped (reason_number r.reason) r.place

-- where the reading stops, after n layouts, m jobs and so many ends: before the end it is refused so, behind the end it tells what stands there
abbrev pub Stopped : ℕ → ℕ → ℕ → Option Refusal → ℕ → ℕ → Result Ended Refusal → Type 0
Stopped n m zero a number place (Ok e) = ⊥
Stopped n m zero a number place (Err x) = (reason_number x.reason ≡ number) × (x.place ≡ place)
Stopped n m (suc ends) a number place (Ok e) = e ≡ record { counts = record { layouts = n; jobs = m }; after = a }
Stopped n m (suc ends) a number place (Err x) = ⊥
