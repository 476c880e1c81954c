-- `planner::is_enough` meets its contract: each way that the lengths do not fit is refusal 8.
use Rattle.planner.proofs.Lengths.{unequal, short}
use Rattle.planner.proofs.is_enough.Goals as goal

pub returns-then-bottoms-count-clause-short : goal.returns-then-bottoms-count-clause-short
returns-then-bottoms-count-clause-short c = λ e. unequal _ _ _ _ _ c.then-bottoms-count.either

pub returns-then-partners-count-clause-short : goal.returns-then-partners-count-clause-short
returns-then-partners-count-clause-short c = λ e. short _ _ _ _ _ c.if-bottoms-count.false c.if-marks-count.false c.if-windows-count.false c.then-partners-count.either
