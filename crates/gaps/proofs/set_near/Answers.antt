-- Both ways set gaps that lead no further than the next place of the window.
use Rattle.gaps.proofs.set_near.Goals as goal

pub returns-then-from-gaps : goal.returns-then-from-gaps
returns-then-from-gaps c = c.set_next.ensures _
