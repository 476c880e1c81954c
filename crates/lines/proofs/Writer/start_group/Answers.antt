-- The kind is 13.
use Rattle.model.specs.Output.{hex, digit}
use Rattle.lines.proofs.Writer.start_group.Goals as goal

pub returns : goal.returns
unfolding hex digit
returns c = c.put_bytes.ensures
