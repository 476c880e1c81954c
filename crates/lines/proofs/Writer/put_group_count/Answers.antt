-- The kind, the number and the end of the line.
use Rattle.model.specs.Output.{group_count_line, hex, digit}
use Rattle.lines.specs.Writers.{put_then}
use Rattle.lines.proofs.Writer.put_group_count.Goals as goal

pub returns : goal.returns
unfolding group_count_line hex digit
returns c = put_then (put_then c.put_bytes.ensures c.put_four.ensures) c.put_bytes-2.ensures
