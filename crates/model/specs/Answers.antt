-- Document 01's number and values for each case that an operation answers (docs/RULES.md, 8; for one line of the table, 10).
use Rattle.std.specs.Prelude.{ℕ, cond, [], ◌∷◌, Result, Ok, Err}
use Rattle.std.proofs.Math.Option.{Option, none, some}
use Rattle.model.specs.Verdict.{Answer, gives, refuses}
use Rattle.model.specs.Table as Table
use Rattle.model.specs.Table.{layout_frame, job_frame, solo_frame, window_frame, end_frame, beyond_windows}
use Rattle.model.specs.declared.Frame.{Frame}
use Rattle.model.specs.declared.Frame.TheVariants.{Layout, Job, Solo, Windowed, End}
use Rattle.model.specs.declared.Counts.{Counts}
use Rattle.model.specs.declared.Totals.{Totals}
use Rattle.model.specs.declared.Refusal.{Refusal}
use Rattle.model.specs.declared.Reason.{Reason}
use Rattle.model.specs.declared.Reason.TheVariants as reason

-- document 01's number of a reason
abbrev pub reason_number : Reason → ℕ
reason_number reason.NoFrame = 1
reason_number reason.Misplaced = 2
reason_number reason.TooMany = 3
reason_number reason.WrongParent = 4
reason_number reason.UnknownLayout = 5
reason_number reason.NotBelow = 6
reason_number reason.WrongEnd = 7
reason_number reason.WrongBuffers = 8
reason_number reason.UnknownWindow = 9
reason_number reason.UnknownPress = 13
reason_number reason.NoFullGrouping = 14

-- a frame read, as the table's line has it: 01 P, 02 T B, 04 T B, 05 T B V, 03 N M
abbrev pub frame_case : Frame → Table.Frame
frame_case (Layout p) = layout_frame p.0
frame_case (Job t b) = job_frame t.0 b.0
frame_case (Solo t b) = solo_frame t.0 b.0
frame_case (Windowed t b v) = window_frame t.0 b.0 v.0
frame_case (End n m) = end_frame n m

-- reading one line finds its frame, or refuses
pub data LineAnswer : Type 0 where
  found : Table.Frame → LineAnswer
  refusal : ℕ → ℕ → LineAnswer

abbrev pub frame_answer : Result Frame Refusal → LineAnswer
frame_answer (Ok f) = found (frame_case f)
frame_answer (Err r) = refusal (reason_number r.reason) r.place

-- what is due for the line with this number: a line that is no frame is refusal 1 there, and one with a window above 0F refusal 9
abbrev pub line_answer : ℕ → Option Table.Frame → LineAnswer
line_answer line none = refusal 1 line
line_answer line (some f) = cond (beyond_windows f) (refusal 9 line) (found f)

-- settling gives back nothing beside its buffers, or refuses
abbrev pub settled_answer : Result Unit Refusal → Answer
settled_answer (Ok done) = gives []
settled_answer (Err r) = refuses (reason_number r.reason) r.place

-- reading a table gives N and M, or refuses
abbrev pub table_answer : Result Counts Refusal → Answer
table_answer (Ok c) = gives (c.layouts ∷ c.jobs ∷ [])
table_answer (Err r) = refuses (reason_number r.reason) r.place

-- planning gives pairs, singles and cell count, or refuses
abbrev pub planned_answer : Result Totals Refusal → Answer
planned_answer (Ok t) = gives (t.pairs ∷ t.singles ∷ t.visits ∷ [])
planned_answer (Err r) = refuses (reason_number r.reason) r.place
