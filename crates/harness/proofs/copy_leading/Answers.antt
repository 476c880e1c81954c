-- `harness::copy_leading` meets its contract: the cells that the loop has passed are copied, and it passes all that there are and that there is room for.
use mathlib.Core.Path.{◌≡◌, refl, sym, ap, ◌∙◌}
use mathlib.Core.List.{List, [], ◌∷◌, ◌++◌}
use Prim.Native.Nat.{ℕ, zero, suc, ◌≤◌, ◌<◌}
use native.Mathlib.Nat.{le_of_suc-le-suc, not-suc-le-zero}
use native.Mathlib.Numerals.{add-one}
use native.Mathlib.Omega.{arith}
use lib.ListN.{length, take, drop, set, get_or, drop_of_length-le}
use lib.Seq.{take_all, take-length, drop-length}
use Rattle.std.proofs.Common.{length-set, min}
use Rattle.std.proofs.Math.Decide.{dec_lt}
use Rattle.harness.specs.Packed.{copied}
use Rattle.harness.proofs.copy_leading.Goals as goal

-- one number more
one_more : (from to : List ℕ) (i : ℕ) → i < length from → i < length to
    → set (take i from ++ drop i to) i (get_or from i 0) ≡ take (suc i) from ++ drop (suc i) to
one_more [] to i h k = absurd (not-suc-le-zero h)
one_more (x ∷ from) [] i h k = absurd (not-suc-le-zero k)
one_more (x ∷ from) (y ∷ to) zero h k = refl
one_more (x ∷ from) (y ∷ to) (suc i) h k =
    ap (λ (l : List ℕ). x ∷ l) (one_more from to i (le_of_suc-le-suc h) (le_of_suc-le-suc k))

-- all that there is room for
no_room : (from to : List ℕ) (i : ℕ) → i ≤ length from → i ≡ length to → take i from ++ drop i to ≡ copied from to
no_room from to i h e =
    let past : length to ≤ length from = omega arith in
    rw e
    (ap (λ (l : List ℕ). take (length to) from ++ l) (drop-length to ∙ sym (drop_of_length-le to past)))

-- all that there is
no_more : (from to : List ℕ) (i : ℕ) → i ≤ length to → i ≡ length from → take i from ++ drop i to ≡ copied from to
no_more from to i h e =
    let within : length from ≤ length to = omega arith in
    rw e
    (ap (λ (l : List ℕ). l ++ drop (length from) to) (take-length from ∙ sym (take_all (length to) from within)))

all_copied : (from to : List ℕ) (i : ℕ) → i ≡ min (length from) (length to) → take i from ++ drop i to ≡ copied from to
all_copied from to i e = elim (dec_lt (length from) (length to)) [
  | yes less ↦ no_more from to i (omega (arith, e)) (omega (arith, e))
  | no more ↦ no_room from to i (omega (arith, e)) (omega (arith, e))
]

pub loop-i-init : goal.loop-i-init
loop-i-init c = (refl, refl)

pub loop-i-preserved : goal.loop-i-preserved
loop-i-preserved c = (
  rw length-set c.loop-i.invariant.0,
  ap (λ (l : List ℕ). set l c.loop-i.i (get_or c.args.from.now c.loop-i.i 0)) c.loop-i.invariant.1
      ∙ one_more c.args.from.now c.args.to.now c.loop-i.i (omega (arith, c.loop-i-test.true, c.min-count.ensures)) (omega (arith, c.loop-i-test.true, c.min-count.ensures))
      ∙ ap (λ (n : ℕ). take n c.args.from.now ++ drop n c.args.to.now) (sym (add-one c.loop-i.i)),
)

pub returns : goal.returns
returns c = c.loop-i.invariant.1 ∙ all_copied c.args.from.now c.args.to.now c.loop-i.i (omega (arith, c.loop-i-test.false, c.loop-i.auto.i-end, c.min-count.ensures))
