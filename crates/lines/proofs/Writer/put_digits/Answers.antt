-- Digit by digit, from the first on.
use Rattle.std.proofs.Common.{◌≡◌, ◌+◌, ◌-◌, refl, add-one, arith, drop, length-set, length-drop, length-take-le}
use Rattle.model.specs.Output.{hex}
use Rattle.lines.proofs.DigitBytes.{digit_more}
use Rattle.lines.proofs.Writer.put_digits.Goals as goal

pub loop-k-init : goal.loop-k-init
unfolding hex
loop-k-init g c =
    let w = c.args.self.now in
    let lent : w.at + g.row.N - w.at ≡ g.row.N = omega arith in
    record { sized = rw lent (length-take-le g.row.N (drop w.at w.out.now) (omega (arith, c.requires.room, length-drop w.at w.out.now))); front = refl }

pub loop-k-preserved : goal.loop-k-preserved
loop-k-preserved g c =
    let i = c.loop-k.invariant in
    record {
      sized = simp length-set i.sized;
      front = rw (add-one c.loop-k.k) (digit_more c.args.value g.row.N c.loop-k.k c.loop-k.digits (omega arith) (omega arith) i.front);
    }
