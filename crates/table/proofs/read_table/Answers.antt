-- `table::read_table` meets its contract: refusal 8 by the sizes, or what is read into the buffers.
use mathlib.Core.Path.{refl, ◌∙◌}
use Rattle.model.specs.Table.{read_table}
use Rattle.table.specs.Whole.{sizes_accepted, sizes_refused}
use Rattle.table.proofs.read_table.Goals as goal

pub returns-then-not-long_enough : goal.returns-then-not-long_enough
returns-then-not-long_enough c = rw (c.long_enough.ensures, c.if-not-long_enough.true) (sizes_refused (read_table c.args.bytes.now) _ _ _ _ _ _ refl refl)

pub read_into-requires : goal.read_into-requires
read_into-requires c = sizes_accepted _ _ _ _ _ (c.long_enough.ensures ∙ rw c.if-not-long_enough.false)
