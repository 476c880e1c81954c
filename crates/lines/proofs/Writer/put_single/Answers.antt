-- The kind, the job and the end of the line.
use Rattle.model.specs.Output.{single_line, hex, digit}
use Rattle.lines.specs.Writers.{put_then}
use Rattle.lines.proofs.Writer.put_single.Goals as goal

pub returns : goal.returns
unfolding single_line hex digit
returns c = put_then (put_then c.put_bytes.ensures c.put_four.ensures) c.put_bytes-2.ensures
