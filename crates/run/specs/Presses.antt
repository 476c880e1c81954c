-- What the whole runs answer, by press: the second one's 13, and its 14 exactly if no full grouping exists (document 02, 2026-07).
use Rattle.std.specs.Prelude.{ℕ, ◌+◌, ◌-◌, ◌≤◌, ◌<◌, refl, true, false, ◌&&◌, List, ◌++◌, length, take, replicate, leb}
use Rattle.std.proofs.Math.Path.{◌≡◌}
use Rattle.std.proofs.Common.{sym, ap, ◌∙◌, true≢false, arith, lt-ltb, le-ltb, leb-true, append_assoc, length-append, length-take-le}
use Rattle.std.proofs.lemmas.List.{replicate-append-replicate}
use Rattle.std.proofs.Math.Bool.{and-eq-true_iff}
use Rattle.model.specs.Jobs.{Table}
use Rattle.model.specs.Grouping.{least_lanes, most_lanes, all_full, groups_of}
use Rattle.model.specs.Table.{read, read_table}
use Rattle.model.specs.Output.{hex, refusal_bytes, run_bytes, run_length, run_output, output_bytes, output_verdict, lanes_verdict, full_verdict, group_bytes, group_reading_bytes, group_run_bytes, group_run_length, group_run_output}
use Rattle.model.specs.Outcomes.{RunOutcome, GroupRunOutcome}
use Rattle.matching.specs.FullGroupings.{full_or_none}
use Rattle.lines.specs.Writing.{Printed}
use Rattle.run.specs.declared.Press.{Press}
use Rattle.run.specs.declared.Press.TheVariants as press
use Rattle.run.specs.Sound.{read_table_lem}
use Rattle.run.specs.Whole.{press_known, press_bytes, printed_front}

-- ---- what is printed for a table

-- its groups, where all are full
pub groups_printed_as : (tb : Table) (g : ℕ) (output : List ℕ) (r : ℕ) (output' : List ℕ) → all_full g (groups_of tb g) ≡ true → Printed (group_bytes g tb) output r output' → Printed (group_reading_bytes g (read tb)) output r output'
unfolding group_reading_bytes full_verdict
groups_printed_as tb g output r output' e p = rw e p

-- else 14
pub short_told : (tb : Table) (g : ℕ) → all_full g (groups_of tb g) ≡ false → group_reading_bytes g (read tb) ≡ refusal_bytes 14 0
unfolding group_reading_bytes full_verdict
short_told tb g e = rw e refl

-- ---- what is answered

-- a press that there is has two lanes and more
pub lanes_least : (g : ℕ) → (leb least_lanes g && leb g most_lanes) ≡ true → least_lanes ≤ g
lanes_least g e = leb-true least_lanes g ((and-eq-true_iff (leb least_lanes g) (leb g most_lanes)).0 e).0

pub lanes_most : (g : ℕ) → (leb least_lanes g && leb g most_lanes) ≡ true → g ≤ most_lanes
lanes_most g e = leb-true g most_lanes ((and-eq-true_iff (leb least_lanes g) (leb g most_lanes)).0 e).1

-- the line of a refusal has nine bytes
refusal_length : (number place : ℕ) → length (refusal_bytes number place) ≡ 9
unfolding refusal_bytes hex
refusal_length number place = refl

pub refusal_short : {bytes : List ℕ} (number place : ℕ) → bytes ≡ refusal_bytes number place → length bytes ≤ output_bytes
refusal_short number place e = omega (arith, ap length e, refusal_length number place)

-- what was printed fits
pub printed_fits : {bytes output : List ℕ} {r : ℕ} {output' : List ℕ} → Printed bytes output r output' → length output' ≡ output_bytes → length bytes ≤ output_bytes
printed_fits {bytes} {output} p long = omega (arith, long, ap length p.holds, length-append bytes (replicate (length output - length bytes) 0))

-- what is printed to the front of an output, with zeros to its rest, is printed to the whole
pub printed_whole : {bytes output front front' rest' : List ℕ} {r : ℕ} (rest : List ℕ) → output_bytes ≤ length output → front ≡ take output_bytes output → length rest + output_bytes ≡ length output → length bytes ≤ output_bytes → Printed bytes front r front' → rest' ≡ replicate (length rest) 0 → Printed bytes output r (front' ++ rest')
printed_whole {bytes} {output} {front} rest long is whole fits p z =
    let spare = length front - length bytes in
    let left : spare + length rest ≡ length output - length bytes = omega (arith, whole, fits, ap length is, length-take-le output_bytes output long) in
    record {
      counted = p.counted;
      holds = rw (p.holds, z, append_assoc bytes (replicate spare 0) (replicate (length rest) 0), replicate-append-replicate {A = ℕ} spare (length rest) 0, left) refl;
    }

module _ (input output : List ℕ) (r : ℕ) (output' : List ℕ) where
  -- for a press
  abbrev pub PressOutcome : Press → Type 0
  PressOutcome press.TwoLanes = RunOutcome input output r output'
  PressOutcome (press.FullPasses lanes) = GroupRunOutcome lanes.0 input output r output'

  pub press_outcome : (x : Press) → output_bytes ≤ length output → press_known x ≡ true → Printed (press_bytes x (read_table input)) output r output' → PressOutcome x
  unfolding run_bytes run_length run_output group_run_length group_run_output group_run_bytes output_verdict lanes_verdict
  press_outcome press.TwoLanes long known p = record { answered = rw (le-ltb (length output) output_bytes long) p.counted; written = rw (le-ltb (length output) output_bytes long) p.holds }
  press_outcome (press.FullPasses lanes) long known p =
      record {
        answered = rw (le-ltb (length output) output_bytes long, known) p.counted;
        written = rw (le-ltb (length output) output_bytes long, known) p.holds;
        full_or_none = λ tb long lanes-known is. let a = read_table_lem input tb is in rw (printed_front p, is) (full_or_none tb a.tree a.downward lanes.0 (lanes_least lanes.0 known));
      }

  -- no such press: 13
  pub press_unknown : (x : Press) → output_bytes ≤ length output → press_known x ≡ false → Printed (refusal_bytes 13 0) output r output' → PressOutcome x
  unfolding group_run_length group_run_output group_run_bytes output_verdict lanes_verdict
  press_unknown press.TwoLanes long e p = absurd (true≢false e)
  press_unknown (press.FullPasses lanes) long e p =
      record {
        answered = rw (le-ltb (length output) output_bytes long, e) p.counted;
        written = rw (le-ltb (length output) output_bytes long, e) p.holds;
        full_or_none = λ tb long known is. let apart : ◌≡◌ {A = ℕ} 0 1 = let k = rw e at known in cc in absurd (omega arith);
      }

-- output too short: 8
pub press_refused : (input output : List ℕ) (x : Press) → length output < output_bytes → PressOutcome input output 0 output x
unfolding run_length run_output group_run_length group_run_output output_verdict
press_refused input output press.TwoLanes h = record { answered = rw (lt-ltb (length output) output_bytes h) refl; written = rw (lt-ltb (length output) output_bytes h) refl }
press_refused input output (press.FullPasses lanes) h =
    record {
      answered = rw (lt-ltb (length output) output_bytes h) refl;
      written = rw (lt-ltb (length output) output_bytes h) refl;
      full_or_none = λ tb long known is. absurd (omega arith);
    }
