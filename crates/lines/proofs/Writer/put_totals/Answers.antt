-- The kind, three numbers and the end of the line.
use Rattle.model.specs.Output.{totals_line, hex, digit}
use Rattle.lines.specs.Writers.{put_then}
use Rattle.lines.proofs.Writer.put_totals.Goals as goal

pub returns : goal.returns
unfolding totals_line hex digit
returns c = put_then (put_then c.put_bytes.ensures (put_then c.put_four.ensures (put_then c.put_four-2.ensures c.put_digits.ensures))) c.put_bytes-2.ensures
