-- A run put together: arrays with room for the jobs of the input, and what the run prints and answers.
use Rattle.std.specs.Prelude.{ℕ, ◌+◌, ◌-◌, ◌*◌, ◌^◌, ◌≤◌, ◌<◌, ◌≡◌, refl, Bool, true, ◌&&◌, Result, Ok, Err, List, [], length, take, replicate, leb}
use Rattle.std.proofs.Math.Nat.{sub-zero}
use Rattle.std.proofs.Common.{sym, ap, ◌∙◌, arith, take_at, length-take-le}
use Rattle.std.proofs.lemmas.List.{length-replicate}
use Rattle.model.specs.Answers.{reason_number}
use Rattle.model.specs.Tree.{FFFF, layout_limit}
use Rattle.model.specs.Jobs.{Table, job_limit}
use Rattle.model.specs.Grouping.{least_lanes, most_lanes}
use Rattle.model.specs.Table.{Reading, read, stopped}
use Rattle.model.specs.Output.{plan_bytes, refusal_bytes, reading_bytes, group_reading_bytes}
use Rattle.model.specs.declared.Refusal.{Refusal}
use Rattle.reading.specs.Steps.{Unused, Room, BuffersReady, held}
use Rattle.table.specs.Whole.{TableHeld}
use Rattle.sweep_laws.specs.Room.{sweep_room}
use Rattle.passes.specs.Making.{Roomy}
use Rattle.lines.specs.Writing.{Printed}
use Rattle.run.specs.declared.Press.{Press}
use Rattle.run.specs.declared.Press.TheVariants as press
use Rattle.settle.specs.declared.SettledTree.{SettledTree}

-- clear arrays with room for every job that the input can hold within the limit, and work cells for as many jobs as have room
pub record ArraysFor (input tops bottoms marks windows work : List ℕ) : Type 0 where
  pub tops_room : Room input tops
  pub bottoms_room : Room input bottoms
  pub marks_room : Room input marks
  pub windows_room : Room input windows
  pub tops_clear : Unused FFFF 0 tops
  pub bottoms_clear : Unused FFFF 0 bottoms
  pub marks_clear : Unused 0 0 marks
  pub windows_clear : Unused 0 0 windows
  pub work_room : (m : ℕ) → m ≤ length tops → m ≤ job_limit → Roomy m work

-- ---- arrays

clear_array : (n v : ℕ) → Unused v 0 (replicate n v)
clear_array n v = rw (sub-zero (length (replicate n v)), length-replicate n v) refl

-- arrays for 2 ^ l jobs, where no more fit into the input or none more are allowed
pub arrays : (input : List ℕ) (l : ℕ) → ((m : ℕ) → m < job_limit → 11 * m + 11 ≤ length input → m < 2 ^ l) → ArraysFor input (replicate (2 ^ l) FFFF) (replicate (2 ^ l) FFFF) (replicate (2 ^ l) 0) (replicate (2 ^ l) 0) (replicate (8 * 2 ^ l) 0)
arrays input l fits =
    record {
      tops_room = λ m h k. rw (length-replicate (2 ^ l) FFFF) (fits m h k);
      bottoms_room = λ m h k. rw (length-replicate (2 ^ l) FFFF) (fits m h k);
      marks_room = λ m h k. rw (length-replicate {A = ℕ} (2 ^ l) 0) (fits m h k);
      windows_room = λ m h k. rw (length-replicate {A = ℕ} (2 ^ l) 0) (fits m h k);
      tops_clear = clear_array (2 ^ l) FFFF;
      bottoms_clear = clear_array (2 ^ l) FFFF;
      marks_clear = clear_array (2 ^ l) 0;
      windows_clear = clear_array (2 ^ l) 0;
      work_room = λ m h k. rw (length-replicate {A = ℕ} (8 * 2 ^ l) 0) (sweep_room m l (rw (length-replicate (2 ^ l) FFFF) at h));
    }

-- and clear parents beside them
pub run_ready : (input parents tops bottoms marks windows work : List ℕ) → parents ≡ replicate layout_limit FFFF → ArraysFor input tops bottoms marks windows work → BuffersReady input parents tops bottoms marks windows
run_ready input parents tops bottoms marks windows work e a =
    record {
      room = record { parents_room = rw (e, length-replicate layout_limit FFFF) (omega arith); tops_room = a.tops_room; bottoms_room = a.bottoms_room; marks_room = a.marks_room; windows_room = a.windows_room };
      clear = record { parents_spare = rw e (clear_array layout_limit FFFF); tops_spare = a.tops_clear; bottoms_spare = a.bottoms_clear; marks_spare = a.marks_clear; windows_spare = a.windows_clear };
    }

-- ---- what is printed

-- for a press, of a reading
abbrev pub press_bytes : Press → Reading → List ℕ
press_bytes press.TwoLanes t = reading_bytes t
press_bytes (press.FullPasses lanes) t = group_reading_bytes lanes.0 t

-- whether there are such presses
abbrev pub press_known : Press → Bool
press_known press.TwoLanes = true
press_known (press.FullPasses lanes) = leb least_lanes lanes.0 && leb lanes.0 most_lanes

-- what a run has done: it has printed these bytes, or it has written nothing, and they are the line of the refusal
abbrev pub Told : List ℕ → List ℕ → List ℕ → Result ℕ Refusal → Type 0
Told bytes output output' (Ok n) = Printed bytes output n output'
Told bytes output output' (Err r) = (output' ≡ output) × (bytes ≡ refusal_bytes (reason_number r.reason) r.place)

-- once the refusal is printed
pub told_refused : (bytes output output₁ : List ℕ) (r : Refusal) (n : ℕ) (output₂ : List ℕ) → Told bytes output output₁ (Err r) → Printed (refusal_bytes (reason_number r.reason) r.place) output₁ n output₂ → Printed bytes output n output₂
told_refused bytes output output₁ r n output₂ t p = rw (t.1, ← t.0) p

-- what the reader turns away is printed for every press
pub refusal_printed : (x : Press) (t : Reading) (output : List ℕ) (r : Refusal) (n : ℕ) (output' : List ℕ) → t ≡ stopped (reason_number r.reason) r.place → Printed (refusal_bytes (reason_number r.reason) r.place) output n output' → Printed (press_bytes x t) output n output'
unfolding reading_bytes group_reading_bytes
refusal_printed press.TwoLanes t output r n output' e p = rw e p
refusal_printed (press.FullPasses lanes) t output r n output' e p = rw e p

-- what was printed stands in front of the zeros
pub printed_front : {bytes output : List ℕ} {r : ℕ} {output' : List ℕ} → Printed bytes output r output' → take r output' ≡ bytes
printed_front {bytes} {output} {r} p = ap (take r) p.holds ∙ take_at bytes (replicate (length output - length bytes) 0) r (sym p.counted)

-- and told as one: so printed, even to an output of no bytes, it is the line of the refusal
pub refusal_told : (x : Press) (t : Reading) (output : List ℕ) (r : Refusal) → t ≡ stopped (reason_number r.reason) r.place → Told (press_bytes x t) output output (Err r)
refusal_told x t output r e =
    let line : Printed (refusal_bytes (reason_number r.reason) r.place) [] _ _ = record { counted = refl; holds = refl } in
    (refl, sym (printed_front (refusal_printed x t [] r _ _ e line)) ∙ printed_front line)

-- the plan of a table is what is printed for two lanes
pub plan_printed : (tb : Table) (output : List ℕ) (r : ℕ) (output' : List ℕ) → Printed (plan_bytes tb) output r output' → Printed (press_bytes press.TwoLanes (read tb)) output r output'
unfolding reading_bytes
plan_printed tb output r output' p = p

-- the work cells have room for the jobs that were read
pub work_roomy : (t : Reading) (input tops bottoms marks windows work parents' tops' bottoms' marks' windows' : List ℕ) (tree : SettledTree) (n m : ℕ) → ArraysFor input tops bottoms marks windows work → length tops' ≡ length tops → TableHeld t parents' tops' bottoms' marks' windows' tree n m → Roomy (length (take m tops')) work
work_roomy t input tops bottoms marks windows work parents' tops' bottoms' marks' windows' tree n m a same h =
    rw (length-take-le m tops' h.holds.tops_hold) (a.work_room m (omega (arith, h.holds.tops_hold)) h.holds.few_jobs_lem)

-- what is printed of the table held is printed of the reading
pub printed_as : (x : Press) (t : Reading) (output : List ℕ) (r : ℕ) (output' parents tops bottoms marks windows : List ℕ) (tree : SettledTree) (n m : ℕ) → TableHeld t parents tops bottoms marks windows tree n m → Printed (press_bytes x (read (held parents tops bottoms marks windows n m))) output r output' → Printed (press_bytes x t) output r output'
printed_as x t output r output' parents tops bottoms marks windows tree n m h p = rw h.whole p
