-- Reading goes on line by line: what one line, by the frame that it holds, makes of the reading.
use Prim.Native.Nat.{ℕ, zero, suc, ◌+◌, ◌≤◌, ◌<◌}
use Rattle.std.proofs.Math.Path.{◌≡◌, refl}
use Rattle.std.proofs.Common.{◌∙◌, arith, drop_of_length-le}
use Rattle.std.specs.Prelude.{◌≢◌, Bool, List, [], ◌∷◌, ◌++◌, drop, leb, Result, Ok, Err}
use Rattle.std.proofs.Math.Bool.{true, false, cond}
use Rattle.std.proofs.Math.Option.{Option, none, some}
use Rattle.std.proofs.Math.ListN.{length, length-drop}
use Rattle.std.proofs.Math.Seq.{drop-drop}
use borrow.Author.Tests.{le-leb, lt-leb, leb-false, eq-eqb, ne_eqb}
use Rattle.model.specs.Verdict.{refused}
use Rattle.model.specs.Tree.{layout_limit, right_parent}
use Rattle.model.specs.Jobs.{Table, jobs, job_limit}
use Rattle.model.specs.Table.{lines, layout_frame, window_frame, end_frame, is_end, beyond_windows, end_without_layout, content_verdict, frame_verdict, with_job, extended, with_own_line, read, stopped, unless_refused, read_frame, read_lines}
use Rattle.model.specs.Table as Format
use Rattle.model.specs.Answers.{reason_number, found, refusal, line_answer}
use Rattle.model.specs.declared.Refusal.{Refusal}
use Rattle.model.specs.declared.LayoutNumber.{LayoutNumber}
use Rattle.model.specs.declared.WindowNumber.{WindowNumber}
use Rattle.frame.specs.Lines.{width, next_line, some_line}
use Rattle.own_line.specs.OwnLine.{job_line, frame_at, own_lines_from, frame_lines, frame_within}
use Rattle.reading.specs.Steps.{read_from, ended_at, job_of, mark_of, LayoutFrame, JobFrame, EndFrame, FrameOutcome, JobJudged, JobLine, StepOutcome}
use Rattle.reading.specs.declared.Step.{Step}
use Rattle.reading.specs.declared.Step.TheVariants as step

module _ (bytes : List ℕ) (at line : ℕ) (tb : Table) (own : List ℕ) (ended : Bool) where
  -- no bytes are left
  pub no_bytes : length bytes ≤ at → read_from bytes at line tb own ended ≡ cond ended (read tb) (stopped 7 line)
  unfolding lines read_lines
  no_bytes h = rw (drop_of_length-le bytes h)

  -- a line that is no frame
  no_frame_read : at < length bytes → frame_at bytes at ≡ none → read_from bytes at line tb own ended ≡ stopped 1 line
  unfolding read_lines read_frame
  no_frame_read h e =
      let left : 0 < length (drop at bytes) = rw length-drop (omega arith) in
      rw ((some_line (drop at bytes) left).1, e)

  -- a frame
  frame_read : (f : Format.Frame) → frame_at bytes at ≡ some f
      → read_from bytes at line tb own ended ≡ unless_refused (frame_verdict line tb own ended f) (read_from bytes (at + width f) (suc line) (extended tb f) (with_own_line own line f) (is_end f))
  unfolding read_lines read_frame
  frame_read f e = rw ((next_line (drop at bytes) f e).after, e, drop-drop (width f) at bytes)

  -- a line that is refused by itself: no frame, or one with a window above 0F
  pub refused_read : at < length bytes → (x : Refusal) → refusal (reason_number x.reason) x.place ≡ line_answer line (frame_at bytes at) → read_from bytes at line tb own ended ≡ stopped (reason_number x.reason) x.place
  unfolding frame_verdict unless_refused
  refused_read h x answer = go (frame_at bytes at) refl answer
    where
      beyond : (f : Format.Frame) → frame_at bytes at ≡ some f → (t : Bool) → beyond_windows f ≡ t → refusal (reason_number x.reason) x.place ≡ cond t (refusal 9 line) (found f) → read_from bytes at line tb own ended ≡ stopped (reason_number x.reason) x.place
      beyond f e true b z =
          let number : reason_number x.reason ≡ 9 = cc in
          let place : x.place ≡ line = cc in
          frame_read f e ∙ rw (b, number, place)
      beyond f e false b z = let apart : ◌≡◌ {A = ℕ} 0 1 = cc in absurd (omega arith)

      go : (o : Option Format.Frame) → frame_at bytes at ≡ o → refusal (reason_number x.reason) x.place ≡ line_answer line o → read_from bytes at line tb own ended ≡ stopped (reason_number x.reason) x.place
      go none e z =
          let number : reason_number x.reason ≡ 1 = cc in
          let place : x.place ≡ line = cc in
          no_frame_read h e ∙ rw (number, place)
      go (some f) e z = beyond f e (beyond_windows f) refl z

-- ---- a job, with a mark or a window

-- f is a job, and its line w bytes wide
record IsJob (f : Format.Frame) (t b mark v w : ℕ) : Type 0 where
  extends : (tb : Table) → extended tb f ≡ with_job tb t b mark v
  own_line : (own : List ℕ) (line : ℕ) → with_own_line own line f ≡ own ++ line ∷ []
  no_end : is_end f ≡ false
  wide : width f ≡ w
  counts : (line : ℕ) (later : List ℕ) → job_line line later (some f) ≡ line ∷ later

is_marked : (t b : ℕ) (solo : Bool) → IsJob (job_of t b solo) t b (mark_of solo) 0 11
unfolding extended with_own_line is_end job_line
is_marked t b false = record { extends = λ tb. refl; own_line = λ own line. refl; no_end = refl; wide = refl; counts = λ line later. refl }
is_marked t b true = record { extends = λ tb. refl; own_line = λ own line. refl; no_end = refl; wide = refl; counts = λ line later. refl }

is_windowed : (t b v : ℕ) → IsJob (window_frame t b v) t b 0 v 13
unfolding extended with_own_line is_end job_line
is_windowed t b v = record { extends = λ tb. refl; own_line = λ own line. refl; no_end = refl; wide = refl; counts = λ line later. refl }

-- ---- a frame's verdict makes the step

module _ (bytes : List ℕ) (at line : ℕ) (tb : Table) (own : List ℕ) (ended : Bool) (f : Format.Frame) (e : frame_at bytes at ≡ some f) where
  job_step : (g : Format.Frame) (t b mark v w : ℕ) → IsJob g t b mark v w → JobFrame line tb own ended f g → JobLine bytes at line tb own ended t b mark v w
  unfolding unless_refused
  job_step g t b mark v w j o =
      record {
        not_ended = o.not_ended;
        within = rw (o.is, j.wide) at (frame_within bytes at line f e);
        room = o.room;
        next = frame_read bytes at line tb own ended f e ∙ rw (o.accepts, o.is, j.extends tb, j.own_line own line, j.no_end, j.wide);
        ahead = frame_lines bytes at line f e ∙ rw (o.is, j.wide) (j.counts line (own_lines_from bytes (at + w) (suc line)));
      }

  pub step_by_frame : (r : Result Step Refusal) → FrameOutcome line tb own ended f r → StepOutcome bytes at line tb own ended r
  unfolding unless_refused extended with_own_line is_end job_line
  step_by_frame (Ok (step.Layout p)) o =
      record {
        not_ended = o.not_ended;
        within = rw o.is at (frame_within bytes at line f e);
        room = o.room;
        right = o.right;
        next = frame_read bytes at line tb own ended f e ∙ rw (o.accepts, o.is);
        ahead = frame_lines bytes at line f e ∙ rw (o.is, o.is);
      }
  step_by_frame (Ok (step.Job t b solo)) o = job_step (job_of t.0 b.0 solo) t.0 b.0 (mark_of solo) 0 11 (is_marked t.0 b.0 solo) o
  step_by_frame (Ok (step.Windowed t b v)) o = job_step (window_frame t.0 b.0 v.0) t.0 b.0 0 v.0 13 (is_windowed t.0 b.0 v.0) o
  step_by_frame (Ok step.End) o =
      record {
        not_ended = o.not_ended;
        within = rw o.is at (frame_within bytes at line f e);
        some_layout = o.some_layout;
        next = frame_read bytes at line tb own ended f e ∙ rw (o.judged, o.is);
        ahead = frame_lines bytes at line f e ∙ rw o.is;
      }
  step_by_frame (Err r) o = frame_read bytes at line tb own ended f e ∙ rw o

-- ---- which tests make which verdict

module _ (line : ℕ) (tb : Table) (own : List ℕ) where
  -- after the end nothing is accepted
  pub ended_late : (f : Format.Frame) (ends : ℕ) → beyond_windows f ≡ false → ends ≢ 0 → frame_verdict line tb own (ended_at ends) f ≡ refused 2 line
  unfolding frame_verdict
  ended_late f zero known h = absurd (h refl)
  ended_late f (suc ends) known h = rw known

  module _ (p : ℕ) where
    pub layout_beyond : layout_limit ≤ length tb.parents → frame_verdict line tb own false (layout_frame p) ≡ refused 3 line
    unfolding frame_verdict content_verdict end_without_layout is_end beyond_windows
    layout_beyond h = rw (le-leb layout_limit (length tb.parents) h)

    pub layout_wrong : length tb.parents < layout_limit → right_parent (length tb.parents) p ≡ false → frame_verdict line tb own false (layout_frame p) ≡ refused 4 line
    unfolding frame_verdict content_verdict end_without_layout is_end beyond_windows
    layout_wrong h wrong = rw (lt-leb layout_limit (length tb.parents) h, wrong)

    pub layout_right : length tb.parents < layout_limit → right_parent (length tb.parents) p ≡ true → LayoutFrame line tb own false (layout_frame p) p
    unfolding frame_verdict content_verdict end_without_layout is_end beyond_windows
    layout_right h right =
        record {
          not_ended = refl;
          accepts = rw (lt-leb layout_limit (length tb.parents) h, right);
          is = refl;
          room = h;
          right = right;
        }

  module _ (t b : LayoutNumber) where
    pub job_judged : (solo : Bool) (r : Result Step Refusal) → JobJudged (leb job_limit (jobs tb)) line (step.Job t b solo) r → FrameOutcome line tb own false (job_of t.0 b.0 solo) r
    unfolding frame_verdict content_verdict end_without_layout is_end beyond_windows
    job_judged false (Ok s) e = rw e.1 (record { not_ended = refl; accepts = rw e.0; is = refl; room = leb-false job_limit (jobs tb) e.0 })
    job_judged true (Ok s) e = rw e.1 (record { not_ended = refl; accepts = rw e.0; is = refl; room = leb-false job_limit (jobs tb) e.0 })
    job_judged false (Err x) e = rw (e.0, e.1, e.2)
    job_judged true (Err x) e = rw (e.0, e.1, e.2)

    pub windowed_judged : (v : WindowNumber) (r : Result Step Refusal) → beyond_windows (window_frame t.0 b.0 v.0) ≡ false → JobJudged (leb job_limit (jobs tb)) line (step.Windowed t b v) r
        → FrameOutcome line tb own false (window_frame t.0 b.0 v.0) r
    unfolding frame_verdict content_verdict end_without_layout is_end
    windowed_judged v (Ok s) known e = rw e.1 (record { not_ended = refl; accepts = rw (known, e.0); is = refl; room = leb-false job_limit (jobs tb) e.0 })
    windowed_judged v (Err x) known e = rw (known, e.0, e.1, e.2)

  module _ (n m : ℕ) where
    pub end_empty : length tb.parents ≡ 0 → frame_verdict line tb own false (end_frame n m) ≡ refused 2 line
    unfolding frame_verdict end_without_layout is_end beyond_windows
    end_empty e = rw (eq-eqb (length tb.parents) 0 e)

    module _ (e : length tb.parents ≢ 0) where
      pub end_layouts : n ≢ length tb.parents → frame_verdict line tb own false (end_frame n m) ≡ refused 7 line
      unfolding frame_verdict content_verdict end_without_layout is_end beyond_windows
      end_layouts h = rw (ne_eqb (length tb.parents) 0 e, ne_eqb n (length tb.parents) h)

      pub end_jobs : n ≡ length tb.parents → m ≢ jobs tb → frame_verdict line tb own false (end_frame n m) ≡ refused 7 line
      unfolding frame_verdict content_verdict end_without_layout is_end beyond_windows
      end_jobs g h = rw (ne_eqb (length tb.parents) 0 e, eq-eqb n (length tb.parents) g, ne_eqb m (jobs tb) h)

      pub end_right : n ≡ length tb.parents → m ≡ jobs tb → EndFrame line tb own false (end_frame n m)
      unfolding frame_verdict content_verdict end_without_layout is_end beyond_windows
      end_right g h =
          record {
            not_ended = refl;
            n = n;
            m = m;
            is = refl;
            some_layout = omega arith;
            judged = rw (ne_eqb (length tb.parents) 0 e, eq-eqb n (length tb.parents) g, eq-eqb m (jobs tb) h);
          }
