-- `reading::Progress::judge_layout` meets its contract: each test makes its verdict.
use mathlib.Core.Path.{sym, ◌∙◌}
use Rattle.reading.specs.Lines.{layout_beyond, layout_wrong, layout_right}
use Rattle.reading.proofs.Progress.judge_layout.Goals as goal

pub returns-then-self-ge-LIMIT : goal.returns-then-self-ge-LIMIT
returns-then-self-ge-LIMIT c = λ tb own n m. rw c.refuse.ensures (layout_beyond _ tb own _ (rw n c.if-self-ge-LIMIT.true))

pub returns-then-not-right_parent : goal.returns-then-not-right_parent
returns-then-not-right_parent c =
    λ tb own n m.
    rw c.refuse-then-not-right_parent.ensures (layout_wrong _ tb own _ (rw n c.if-self-ge-LIMIT.false) (rw n (sym c.right_parent.ensures ∙ c.if-not-right_parent.true)))

pub returns : goal.returns
returns c = λ tb own n m. layout_right _ tb own _ (rw n c.if-self-ge-LIMIT.false) (rw n (sym c.right_parent.ensures ∙ c.if-not-right_parent.false))
