-- `frame::DigitTable::window_field` meets its contract: the two digits are added up by their places.
use Rattle.frame.proofs.Digits.{window_read, kept}
use Rattle.frame.proofs.DigitTable.window_field.Goals as goal

pub returns : goal.returns
returns c =
    let read = rw (← c.count.ensures.0, ← c.count-2.ensures.0) at (window_read c.args.s.now c.args.at c.requires) in
    rw c.ok.ensures.value (kept 2 _ _ _ read c.try_from.result c.try_from.ensures)
