-- The kind, four numbers and the end of the line.
use Rattle.model.specs.Output.{pair_line, hex, digit}
use Rattle.lines.specs.Writers.{put_then}
use Rattle.lines.proofs.Writer.put_pair.Goals as goal

pub returns : goal.returns
unfolding pair_line hex digit
returns c = put_then (put_then c.put_bytes.ensures (put_then c.put_four.ensures (put_then c.put_four-2.ensures (put_then c.put_four-3.ensures c.put_four-4.ensures)))) c.put_bytes-2.ensures
