-- `frame::read_frame` meets its contract: a line that is no frame is refused, and so is a frame with a window above 0F.
use mathlib.Core.Path.{sym, ◌∙◌}
use native.Mathlib.Nat.{le_of_lt}
use Rattle.frame.specs.Lines.{rest}
use Rattle.frame.proofs.Frames.{none_past}
use Rattle.frame.proofs.read_frame.Goals as goal

pub returns-then-bytes-at : goal.returns-then-bytes-at
returns-then-bytes-at c = rw (none_past c.args.at c.args.bytes.now (le_of_lt c.if-bytes-at.true))

pub returns-in_default : goal.returns-in_default
returns-in_default c = rw (← rest c.args.bytes.now c.args.at, ← c.in_default.ensures)

pub returns-then-is_beyond_windows : goal.returns-then-is_beyond_windows
returns-then-is_beyond_windows c =
    rw (← rest c.args.bytes.now c.args.at, ← c.in-Some.ensures, sym c.is_beyond_windows.ensures ∙ c.if-is_beyond_windows.true)

pub returns : goal.returns
returns c = rw (← rest c.args.bytes.now c.args.at, ← c.in-Some.ensures, sym c.is_beyond_windows.ensures ∙ c.if-is_beyond_windows.false)
