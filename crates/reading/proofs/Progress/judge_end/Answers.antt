-- `reading::Progress::judge_end` meets its contract: each test makes its verdict.
use mathlib.Core.Path.{sym, ◌∙◌}
use Rattle.reading.specs.Lines.{end_empty, end_layouts, end_jobs, end_right}
use Rattle.reading.proofs.Progress.judge_end.Goals as goal

pub returns-then-self-eq0 : goal.returns-then-self-eq0
returns-then-self-eq0 c = λ tb own n m. rw c.refuse.ensures (end_empty _ tb own _ _ (n ∙ c.if-self-eq0.true))

pub returns-then-n-self : goal.returns-then-n-self
returns-then-n-self c = λ tb own n m. rw c.refuse-then-n-self.ensures (end_layouts _ tb own _ _ (λ e. c.if-self-eq0.false (sym n ∙ e)) (λ e. c.if-n-self.true (e ∙ n)))

pub returns-then-m-self : goal.returns-then-m-self
returns-then-m-self c = λ tb own n m. rw c.refuse-then-m-self.ensures (end_jobs _ tb own _ _ (λ e. c.if-self-eq0.false (sym n ∙ e)) (c.if-n-self.false ∙ sym n) (λ e. c.if-m-self.true (e ∙ m)))

pub returns : goal.returns
returns c = λ tb own n m. end_right _ tb own _ _ (λ e. c.if-self-eq0.false (sym n ∙ e)) (c.if-n-self.false ∙ sym n) (c.if-m-self.false ∙ sym m)
