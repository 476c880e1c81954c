-- `settle::check_layouts` meets its contract: one law of the verdict at each return.
use Rattle.settle.proofs.Outcome.{no_layouts, wrong_layout, all_right}
use Rattle.settle.proofs.check_layouts.Goals as goal

pub returns-then-count-eq0 : goal.returns-then-count-eq0
returns-then-count-eq0 c = no_layouts c.args.parents.now c.if-count-eq0.true

pub returns-in-Some : goal.returns-in-Some
returns-in-Some c = wrong_layout _ c.if-count-gt-LIMIT.false c.if-count-eq0.false _ c.first_wrong.ensures _ c.in-Some.is

pub returns : goal.returns
returns c = all_right _ c.if-count-gt-LIMIT.false c.if-count-eq0.false _ c.first_wrong.ensures c.in_default.is
