-- `frame::DigitTable::count` meets its contract: the table holds it.
use mathlib.Core.Path.{refl}
use native.Mathlib.Omega.{arith}
use Rattle.frame.proofs.Digits.{read_small}
use Rattle.frame.proofs.DigitTable.count.Goals as goal

pub returns : goal.returns
returns c = rw (c.from.ensures, c.args.self.now.right.value_at c.args.byte (omega arith)) (refl, read_small c.args.byte)
