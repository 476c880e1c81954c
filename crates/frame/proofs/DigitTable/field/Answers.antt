-- `frame::DigitTable::field` meets its contract: the four digits are added up by their places.
use Rattle.frame.proofs.Digits.{field_read, kept}
use Rattle.frame.proofs.DigitTable.field.Goals as goal

pub returns : goal.returns
returns c =
    let read = rw (← c.count.ensures.0, ← c.count-2.ensures.0, ← c.count-3.ensures.0, ← c.count-4.ensures.0) at (field_read c.args.s.now c.args.at c.requires) in
    rw c.ok.ensures.value (kept 4 _ _ _ read c.try_from.result c.try_from.ensures)
