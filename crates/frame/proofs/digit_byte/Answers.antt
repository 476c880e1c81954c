-- `frame::digit_byte` meets its contract: the digits stand in two ranges of bytes.
use Rattle.frame.proofs.Digits.{low_byte, high_byte}
use Rattle.frame.proofs.digit_byte.Goals as goal

pub returns-then-digit-lt10 : goal.returns-then-digit-lt10
returns-then-digit-lt10 c = low_byte _ c.if-digit-lt10.true

pub returns-else-digit-lt10 : goal.returns-else-digit-lt10
returns-else-digit-lt10 c = high_byte _ c.if-digit-lt10.false c.requires
