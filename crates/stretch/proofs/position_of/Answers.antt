-- `position_of` answers the first place: no place before the next one holds the layout.
use Rattle.std.proofs.Common.{arith, sym, ◌∙◌}
use Rattle.stretch.proofs.Laws.{place_found, place_passed, place_none}
use Rattle.stretch.proofs.position_of.Goals as goal

pub loop-position-init : goal.loop-position-init
loop-position-init c = λ j h. absurd (omega arith)

pub returns-then-eq : goal.returns-then-eq
returns-then-eq c = place_found _ _ _ _ (sym c.eq.ensures ∙ c.if-eq.true) (omega arith) c.loop-position-test.true c.loop-position.invariant

pub loop-position-preserved : goal.loop-position-preserved
loop-position-preserved c = place_passed _ _ _ _ (sym c.eq.ensures ∙ c.if-eq.false) (omega arith) c.loop-position.invariant

pub returns : goal.returns
returns c = place_none _ _ _ c.loop-position-test.false c.loop-position.invariant
