-- A job's own line, worked out from the lines alone, and what one line tells of those of the jobs behind it.
use Rattle.std.specs.Prelude.{ℕ, suc, ◌+◌, ◌-◌, ◌≤◌, ◌<◌, ◌≡◌, Bool, true, false, cond, length, get_or, drop}
use Rattle.std.proofs.Math.Path.{refl}
use Rattle.std.proofs.Common.{ap, ◌∙◌, add-one, arith, length-drop, drop_of_length-le}
use Rattle.std.proofs.Math.Option.{Option, none, some}
use mathlib.Core.List.{List, [], ◌∷◌}
use Rattle.std.proofs.Math.Seq.{drop-drop}
use Rattle.model.specs.Table.{Line, lines, first_of, first_line, layout_frame, job_frame, solo_frame, window_frame, end_frame, frame_of}
use Rattle.model.specs.Table as Format
use Rattle.frame.specs.Fields.{ends_after}
use Rattle.frame.specs.Lines.{width, width_some, next_line, job_width, width_by_end_lem}

-- the line with the number `line`, where it holds a job, and after it the lines of later jobs; no job is looked for behind the end, or behind a line that is no frame
unfoldable pub job_line : ℕ → List ℕ → Option Format.Frame → List ℕ
job_line line later none = []
job_line line later (some (layout_frame p)) = later
job_line line later (some (job_frame t b)) = line ∷ later
job_line line later (some (solo_frame t b)) = line ∷ later
job_line line later (some (window_frame t b v)) = line ∷ later
job_line line later (some (end_frame n m)) = []

-- the lines of the jobs up to the end, of lines that are counted from `line`
unfoldable pub job_lines : ℕ → List Line → List ℕ
job_lines line [] = []
job_lines line (l ∷ ls) = job_line line (job_lines (suc line) ls) (frame_of l)

-- the line of job j, counted from 1; 0 where there is no such job
abbrev pub own_line : List ℕ → ℕ → ℕ
own_line bytes j = get_or (job_lines 1 (lines bytes)) j 0

-- the frame of the line that begins at `at`
abbrev pub frame_at : List ℕ → ℕ → Option Format.Frame
frame_at bytes at = frame_of (first_line (drop at bytes))

-- the lines of the jobs from `at` on, where the line with the number `line` begins
abbrev pub own_lines_from : List ℕ → ℕ → ℕ → List ℕ
own_lines_from bytes at line = job_lines line (lines (drop at bytes))

-- ---- the lines from one on

module _ (bytes : List ℕ) (at line : ℕ) where
  -- no bytes are left
  pub no_lines : length bytes ≤ at → own_lines_from bytes at line ≡ []
  unfolding lines job_lines
  no_lines h = rw (drop_of_length-le bytes h)

  -- a frame
  pub frame_lines : (f : Format.Frame) → frame_at bytes at ≡ some f → own_lines_from bytes at line ≡ job_line line (own_lines_from bytes (at + width f) (suc line)) (some f)
  unfolding job_lines
  frame_lines f e = rw ((next_line (drop at bytes) f e).after, e, drop-drop (width f) at bytes)

  -- its line stands within the bytes
  pub frame_within : (f : Format.Frame) → frame_at bytes at ≡ some f → at + width f ≤ length bytes
  frame_within f e = omega (arith, simp length-drop at (next_line (drop at bytes) f e).within, width_some f)

  -- no frame
  no_frame_lines : frame_at bytes at ≡ none → own_lines_from bytes at line ≡ []
  unfolding first_line job_line job_lines
  no_frame_lines e = go (lines (drop at bytes)) e
    where
      go : (ls : List Line) → frame_of (first_of ls) ≡ none → job_lines line ls ≡ []
      go [] e = refl
      go (l ∷ ls) e = rw e

-- ---- the 0A of a line

pub job_wide : (s : List ℕ) → (11 ≤ job_width s) × (job_width s ≤ 13)
job_wide s = go (ends_after 10 s)
  where
    go : (t : Bool) → (11 ≤ cond t 11 13) × (cond t 11 13 ≤ 13)
    go true = omega arith
    go false = omega arith

-- the lines of the jobs from `at` on, by where the line there has its 0A: a layout's has it after 6 bytes
abbrev by_end : List ℕ → ℕ → ℕ → List ℕ
by_end bytes at line =
    cond (ends_after 6 (drop at bytes)) (own_lines_from bytes (at + 7) (suc line)) (line ∷ own_lines_from bytes (at + job_width (drop at bytes)) (suc line))

-- a frame that has a job in it or behind it is no end, so its width tells a layout from a job
by_width : (f : Format.Frame) (line k : ℕ) (later : ℕ → List ℕ) (t u : Bool) → 0 < get_or (job_line line (later (width f)) (some f)) k 0
    → width f ≡ cond t 7 (cond u 11 13) → job_line line (later (width f)) (some f) ≡ cond t (later 7) (line ∷ later (cond u 11 13))
unfolding job_line
by_width (layout_frame p) line k later true u h e = refl
by_width (layout_frame p) line k later false true h e = absurd (omega arith)
by_width (layout_frame p) line k later false false h e = absurd (omega arith)
by_width (job_frame t b) line k later true u h e = absurd (omega arith)
by_width (job_frame t b) line k later false u h e = ap (λ (w : ℕ). line ∷ later w) e
by_width (solo_frame t b) line k later true u h e = absurd (omega arith)
by_width (solo_frame t b) line k later false u h e = ap (λ (w : ℕ). line ∷ later w) e
by_width (window_frame t b v) line k later true u h e = absurd (omega arith)
by_width (window_frame t b v) line k later false u h e = ap (λ (w : ℕ). line ∷ later w) e
by_width (end_frame n m) line k later t u h e = absurd (omega arith)

-- as long as a job is left, the 0A tells
by_end_lem : (bytes : List ℕ) (at line k : ℕ) → 0 < get_or (own_lines_from bytes at line) k 0 → own_lines_from bytes at line ≡ by_end bytes at line
by_end_lem bytes at line k h = go (frame_at bytes at) refl
  where
    go : (o : Option Format.Frame) → frame_at bytes at ≡ o → own_lines_from bytes at line ≡ by_end bytes at line
    go none e = absurd (omega (arith, rw (no_frame_lines bytes at line e) at h))
    go (some f) e =
        let first = frame_lines bytes at line f e in
        first
        ∙ by_width f line k (λ (w : ℕ). own_lines_from bytes (at + w) (suc line)) (ends_after 6 (drop at bytes)) (ends_after 10 (drop at bytes)) (rw first at h) (width_by_end_lem (drop at bytes) f e)

-- ---- looking for a job

-- the job looked for is the one with so many jobs before it, from the line at `at` on
pub record Looking (bytes : List ℕ) (job at line before : ℕ) : Type 0 where
  pub few : line ≤ at + 1
  pub same : own_line bytes job ≡ get_or (own_lines_from bytes at line) before 0

pub from_start : (bytes : List ℕ) (job : ℕ) → Looking bytes job 0 1 job
from_start bytes job = record { few = omega arith; same = refl }

module _ (bytes : List ℕ) (job at line before : ℕ) (there : 0 < own_line bytes job) (l : Looking bytes job at line before) where
  left : own_lines_from bytes at line ≡ by_end bytes at line
  left = by_end_lem bytes at line before (omega (arith, l.same))

  -- it stands behind this layout
  pub past_layout : ends_after 6 (drop at bytes) ≡ true → Looking bytes job (at + 7) (line + 1) before
  past_layout e = record { few = omega (arith, l.few); same = l.same ∙ rw (left, e, add-one) refl }

  -- it is this job
  pub found : ends_after 6 (drop at bytes) ≡ false → before ≡ 0 → own_line bytes job ≡ line
  found e z = l.same ∙ rw (left, e, z) refl

  -- it stands behind this job
  pub past_job : ends_after 6 (drop at bytes) ≡ false → (before ≡ 0 → ⊥) → Looking bytes job (at + job_width (drop at bytes)) (line + 1) (before - 1)
  past_job e f =
      let more : before ≡ suc (before - 1) = omega arith in
      record {
        few = omega (arith, l.few, job_wide (drop at bytes));
        same = l.same ∙ rw (left, e, add-one) (ap (λ (k : ℕ). get_or (line ∷ own_lines_from bytes (at + job_width (drop at bytes)) (suc line)) k 0) more);
      }

  -- bytes are left until it is found
  pub bytes_left : length bytes ≤ at → ⊥
  bytes_left h = omega (arith, rw (no_lines bytes at line h) at l.same)
