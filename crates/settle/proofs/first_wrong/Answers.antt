-- `settle::first_wrong` meets its contract: the layouts passed are right.
use Rattle.std.proofs.Common.{sym, ◌∙◌}
use Rattle.settle.proofs.Laws.{layouts_right, layouts_wrong, layouts_end}
use Rattle.settle.proofs.first_wrong.Goals as goal

pub returns-then-not-right_parent : goal.returns-then-not-right_parent
returns-then-not-right_parent c =
    record { verdict = c.loop-x.invariant ∙ layouts_wrong _ _ c.loop-x-test.true (sym c.right_parent.ensures ∙ c.if-not-right_parent.true) }

pub loop-x-preserved : goal.loop-x-preserved
loop-x-preserved c = c.loop-x.invariant ∙ layouts_right _ _ c.loop-x-test.true (sym c.right_parent.ensures ∙ c.if-not-right_parent.false)

pub returns : goal.returns
returns c = record { verdict = c.loop-x.invariant ∙ layouts_end _ _ c.loop-x-test.false }
