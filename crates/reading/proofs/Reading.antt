-- What the loop over the lines keeps, and what its next step promises.
use Rattle.std.specs.Prelude.{ℕ, List, ◌+◌, ◌≡◌, length, Result}
use Rattle.std.proofs.Common.{length-take-le}
use Rattle.model.specs.declared.Refusal.{Refusal}
use Rattle.reading.specs.Steps.{StepOutcome, LineJudged, Roomy, BuffersReady, held, ended_at, SoFar}
use Rattle.reading.specs.declared.Step.{Step}

-- the cells keep their lengths and hold what was read so far
pub record Reading (bytes parents₀ tops₀ bottoms₀ marks₀ windows₀ parents tops bottoms marks windows : List ℕ) (at layouts jobs ends : ℕ) : Type 0 where
  pub ready : BuffersReady bytes parents₀ tops₀ bottoms₀ marks₀ windows₀
  pub parents_same : length parents ≡ length parents₀
  pub tops_same : length tops ≡ length tops₀
  pub bottoms_same : length bottoms ≡ length bottoms₀
  pub marks_same : length marks ≡ length marks₀
  pub windows_same : length windows ≡ length windows₀
  pub so_far : SoFar bytes parents tops bottoms marks windows at layouts jobs ends

-- room is a matter of length
pub roomy : {bytes ps₀ ts₀ bs₀ ms₀ ws₀ ps ts bs ms ws : List ℕ} {at layouts jobs ends : ℕ} → Reading bytes ps₀ ts₀ bs₀ ms₀ ws₀ ps ts bs ms ws at layouts jobs ends → Roomy bytes ps ts bs ms ws
roomy i =
    let r = i.ready.room in
    record {
      parents_room = rw i.parents_same r.parents_room;
      tops_room = λ k l h. rw i.tops_same (r.tops_room k l h);
      bottoms_room = λ k l h. rw i.bottoms_same (r.bottoms_room k l h);
      marks_room = λ k l h. rw i.marks_same (r.marks_room k l h);
      windows_room = λ k l h. rw i.windows_same (r.windows_room k l h);
    }

-- what a step promises of the table in the cells
abbrev pub Outcome : {bytes parents tops bottoms marks windows : List ℕ} {at n m ends : ℕ} → SoFar bytes parents tops bottoms marks windows at n m ends → Result Step Refusal → Type 0
Outcome {bytes} {parents} {tops} {bottoms} {marks} {windows} {at} {n} {m} {ends} s = StepOutcome bytes at (n + m + ends + 1) (held parents tops bottoms marks windows n m) s.own (ended_at ends)

-- the step at hand
pub step_at : {bytes ps₀ ts₀ bs₀ ms₀ ws₀ ps ts bs ms ws : List ℕ} {at n m ends : ℕ} (i : Reading bytes ps₀ ts₀ bs₀ ms₀ ws₀ ps ts bs ms ws at n m ends) (r : Result Step Refusal)
    → LineJudged bytes at n m ends r → Outcome i.so_far r
step_at {ps = ps} {ts = ts} {bs = bs} {ms = ms} {ws = ws} {n = n} {m = m} i r outcome =
    let s = i.so_far in
    outcome (held ps ts bs ms ws n m) s.own (length-take-le n ps s.holds.parents_hold) (length-take-le m ts s.holds.tops_hold)
