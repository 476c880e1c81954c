-- `frame::DigitTable::new` meets its contract: the values of the digits passed are set.
use Rattle.frame.proofs.Digits.{ValuesBelow}
use Rattle.frame.proofs.DigitTable.new.Given as goal

abbrev pub invariant-loop-digit : goal.invariant-loop-digit
invariant-loop-digit l = ValuesBelow l.digit l.counts
