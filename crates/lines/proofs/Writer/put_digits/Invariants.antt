-- The first k digits stand in front.
use Rattle.std.proofs.Common.{◌-◌, ◌*◌, ◌^◌, ◌/◌, ◌≡◌, length, take}
use Rattle.model.specs.Output.{hex}
use Rattle.lines.proofs.Writer.put_digits.Given as goal

abbrev pub invariant-loop-k : goal.invariant-loop-k
invariant-loop-k g l = record {
  sized : length l.digits ≡ g.row.N;
  front : take l.k l.digits ≡ hex l.k (l.value / 2 ^ (4 * (g.row.N - l.k)));
}
