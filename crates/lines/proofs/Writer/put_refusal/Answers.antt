-- The kind, the number, the place and the end of the line.
use Rattle.model.specs.Output.{refusal_bytes, hex, digit}
use Rattle.lines.specs.Writers.{put_then}
use Rattle.lines.proofs.Writer.put_refusal.Goals as goal

pub returns : goal.returns
unfolding refusal_bytes hex digit
returns c = put_then (put_then c.put_bytes.ensures (put_then (rw c.from.ensures at c.put_digits.ensures) c.put_four.ensures)) c.put_bytes-2.ensures
