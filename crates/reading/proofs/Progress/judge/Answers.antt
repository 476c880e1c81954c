-- `reading::Progress::judge` meets its contract: after the end nothing is accepted, and before it each kind of frame has its own verdict.
use Prim.Native.Nat.{ℕ}
use mathlib.Core.Path.{◌≡◌, sym, ap, subst, ◌∙◌}
use mathlib.Core.Bool.{false, true}
use mathlib.Core.List.{List}
use Rattle.std.proofs.Common.{Result}
use Rattle.model.specs.Jobs.{Table}
use Rattle.model.specs.Table.{beyond_windows}
use Rattle.model.specs.Answers.{frame_case}
use Rattle.model.specs.declared.Frame.{Frame}
use Rattle.model.specs.declared.Refusal.{Refusal}
use Rattle.reading.specs.declared.Step.{Step}
use Rattle.reading.specs.Steps.{ended_at, FrameOutcome}
use Rattle.reading.specs.Lines.{ended_late, job_judged, windowed_judged}
use Rattle.reading.proofs.Progress.judge.Goals as goal

-- the outcome for the frame that was read before the end, from that for the frame that it is
as_read : (line : ℕ) (tb : Table) (own : List ℕ) (ends : ℕ) (r : Result Step Refusal) {f g : Frame} → ends ≡ 0 → f ≡ g
    → FrameOutcome line tb own false (frame_case g) r → FrameOutcome line tb own (ended_at ends) (frame_case f) r
as_read line tb own ends r still e o = rw still (subst (λ (h : Frame). FrameOutcome line tb own false (frame_case h) r) (sym e) o)

pub returns-then-self-ne0 : goal.returns-then-self-ne0
returns-then-self-ne0 c = λ tb own n m. rw c.refuse.ensures (ended_late _ tb own _ _ c.requires c.if-self-ne0.true)

pub returns-in-Job : goal.returns-in-Job
returns-in-Job c = λ tb own n m. as_read _ tb own _ c.judge_job.result c.if-self-ne0.false c.in-Job.is (job_judged _ tb own _ _ false c.judge_job.result (rw m c.judge_job.ensures))

pub returns-in-Solo : goal.returns-in-Solo
returns-in-Solo c = λ tb own n m. as_read _ tb own _ c.judge_job-in-Solo.result c.if-self-ne0.false c.in-Solo.is (job_judged _ tb own _ _ true c.judge_job-in-Solo.result (rw m c.judge_job-in-Solo.ensures))

pub returns-in-Windowed : goal.returns-in-Windowed
returns-in-Windowed c =
    λ tb own n m.
    let known = sym (ap (λ (f : Frame). beyond_windows (frame_case f)) c.in-Windowed.is) ∙ c.requires in
    as_read _ tb own _ c.judge_job-in-Windowed.result c.if-self-ne0.false c.in-Windowed.is
    (windowed_judged _ tb own _ _ c.in-Windowed.window c.judge_job-in-Windowed.result known (rw m c.judge_job-in-Windowed.ensures))

pub returns-in-Layout : goal.returns-in-Layout
returns-in-Layout c = λ tb own n m. as_read _ tb own _ c.judge_layout.result c.if-self-ne0.false c.in-Layout.is (c.judge_layout.ensures tb own n m)

pub returns-in-End : goal.returns-in-End
returns-in-End c = λ tb own n m. as_read _ tb own _ c.judge_end.result c.if-self-ne0.false c.in-End.is (c.judge_end.ensures tb own n m)
