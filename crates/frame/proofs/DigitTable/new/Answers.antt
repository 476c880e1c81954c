-- `frame::DigitTable::new` meets its contract: the values of the digits passed are set.
use mathlib.Core.Path.{◌≡◌}
use native.Mathlib.Omega.{arith}
use Rattle.frame.proofs.Digits.{values_none, values_more, values_all}
use Rattle.frame.proofs.DigitTable.new.Goals as goal

pub loop-digit-init : goal.loop-digit-init
loop-digit-init c = values_none

pub loop-digit-preserved : goal.loop-digit-preserved
loop-digit-preserved c = rw (c.from.ensures, c.from-in-loop-digit.ensures) (values_more _ _ _ c.digit_byte.ensures c.loop-digit.invariant)

pub invariant_of-result : goal.invariant_of-result
invariant_of-result c = record { right = values_all _ (let end : c.loop-digit.digit ≡ 16 = omega arith in rw end at c.loop-digit.invariant) }
