-- The length that a whole run answers lies within its output: what a program needs to know of it.
use Rattle.std.specs.Prelude.{ℕ, ◌-◌, ◌≤◌, ◌≡◌, List, length, replicate}
use Rattle.std.proofs.Common.{ap, arith, length-append, lt-ltb, le-ltb}
use Rattle.std.proofs.Math.Decide.{dec_lt}
use Rattle.model.specs.Output.{run_bytes, group_run_bytes, output_bytes, output_verdict, length_printing, output_printing, run_length, run_output, group_run_length, group_run_output}
use Rattle.model.specs.Outcomes.{RunOutcome, GroupRunOutcome}

-- whatever is printed
printing_within : (printed output : List ℕ) (r : ℕ) (output' : List ℕ) → r ≡ length_printing printed output → output' ≡ output_printing printed output → r ≤ length output'
unfolding output_verdict
printing_within printed output r output' a w = elim (dec_lt (length output) output_bytes) [
  | yes h ↦ let none : r ≡ 0 = rw (lt-ltb (length output) output_bytes h) at a in omega arith
  | no h ↦
      let counted : r ≡ length printed = rw (le-ltb (length output) output_bytes (omega arith)) at a in
      let written = rw (le-ltb (length output) output_bytes (omega arith)) at w in
      omega (arith, counted, ap length written, length-append printed (replicate (length output - length printed) 0))
]

pub run_within : (input output : List ℕ) (r : ℕ) (output' : List ℕ) → RunOutcome input output r output' → r ≤ length output'
unfolding run_length run_output
run_within input output r output' o = printing_within (run_bytes input) output r output' o.answered o.written

pub group_run_within : (g : ℕ) (input output : List ℕ) (r : ℕ) (output' : List ℕ) → GroupRunOutcome g input output r output' → r ≤ length output'
unfolding group_run_length group_run_output
group_run_within g input output r output' o = printing_within (group_run_bytes g input) output r output' o.answered o.written
