-- `reading::Progress::next_step` meets its contract: the line's answer, and the verdict on its frame.
use Prim.Native.Nat.{◌+◌}
use mathlib.Core.Path.{◌≡◌, refl}
use Rattle.std.proofs.Common.{Result, Ok, Err}
use Rattle.std.specs.Result.{IsErrAnd}
use Rattle.model.specs.Answers.{frame_case}
use Rattle.model.specs.declared.Refusal.{Refusal}
use Rattle.frame.specs.Lines.{frame_answered}
use Rattle.own_line.specs.OwnLine.{frame_at}
use Rattle.reading.specs.Steps.{ended_at}
use Rattle.reading.specs.Lines.{refused_read, step_by_frame}
use Rattle.reading.specs.declared.Step.{Step}
use Rattle.reading.proofs.Progress.next_step.Goals as goal

-- the frame that was read is the line's, with a window that there is
pub judge-requires : goal.judge-requires
judge-requires c = (frame_answered _ _ _ c.in_ok-line_frame.ensures).known

-- the refusal is passed on
passed : (r : Result Step Refusal) (x : Refusal) → IsErrAnd r (λ y. y ≡ x) → r ≡ Err x
passed (Err y) x is = rw is refl
passed (Ok s) x is = absurd is

pub returns-in_err-line_frame : goal.returns-in_err-line_frame
returns-in_err-line_frame c =
    λ tb own n m.
    let p = c.args.self in
    rw (passed c.from_residual.result c.in_err-line_frame.field-0.0 c.from_residual.ensures.1)
    (refused_read c.args.bytes.now p.at (p.layouts + p.jobs + p.ends + 1) tb own (ended_at p.ends) c.requires _ (rw c.line_number.ensures at c.in_err-line_frame.ensures))

pub returns : goal.returns
returns c =
    λ tb own n m.
    let p = c.args.self in
    let line = p.layouts + p.jobs + p.ends + 1 in
    let f = c.in_ok-line_frame.line_frame in
    let there = frame_answered f line (frame_at c.args.bytes.now p.at) (rw c.line_number.ensures at c.in_ok-line_frame.ensures) in
    step_by_frame c.args.bytes.now p.at line tb own (ended_at p.ends) (frame_case f) there.there c.judge.result (c.judge.ensures tb own n m)
