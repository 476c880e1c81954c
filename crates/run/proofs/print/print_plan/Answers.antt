-- The cells that are taken have room for the minima.
use Rattle.std.proofs.Common.{refl, arith}
use Rattle.ancestry.specs.Room.{roomy_all, roomy_few}
use Rattle.run.proofs.print.print_plan.Goals as goal

pub print_in_cells-requires-clause-roomy : goal.print_in_cells-requires-clause-roomy
print_in_cells-requires-clause-roomy c = roomy_few _ _ (omega (arith, c.if-stride_of-le-FEW.true, c.stride_of.ensures.value _ c.requires.plan.1.spanned)) refl

pub print_in_cells-requires-else-stride_of-le-FEW-clause-roomy : goal.print_in_cells-requires-else-stride_of-le-FEW-clause-roomy
print_in_cells-requires-else-stride_of-le-FEW-clause-roomy c = roomy_all _ _ c.requires.plan.1.spanned.tree refl
