-- `planner::copy_columns` meets its contract. The loop's invariant: the cells passed are copied.
use Rattle.std.proofs.Common.{refl}
use Rattle.planner.specs.Copies.{copied_none, copied_more, copied_all}
use Rattle.planner.proofs.copy_columns.Goals as goal

pub loop-j-init : goal.loop-j-init
loop-j-init c = copied_none _ _

pub loop-j-preserved : goal.loop-j-preserved
loop-j-preserved c = copied_more _ _ c.requires.uppers_room _ _ c.loop-j-test.true c.loop-j.invariant

pub returns-clause-uppers_after : goal.returns-clause-uppers_after
returns-clause-uppers_after c = copied_all _ _ c.requires.uppers_room _ _ _ refl c.loop-j-test.false c.loop-j.invariant
