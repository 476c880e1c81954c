-- `dropped` answers its definition: the first number is read where there is one.
use Rattle.std.proofs.Common.{arith, sym, ◌∙◌}
use Rattle.stretch.proofs.Laws.{dropped_none, dropped_one, dropped_other}
use Rattle.stretch.proofs.dropped.Goals as goal

pub returns-in_default : goal.returns-in_default
returns-in_default c = dropped_none c.args.list.now (omega (arith, c.in_default.ensures.item))

pub returns-then-eq : goal.returns-then-eq
returns-then-eq c =
    let head = c.in-Some.ensures.item in
    dropped_one c.args.list.now (omega (arith, head.3.0)) (rw (← head.3.1 0) (sym c.eq.ensures ∙ c.if-eq.true))

pub returns : goal.returns
returns c =
    let head = c.in-Some.ensures.item in
    dropped_other c.args.list.now (omega (arith, head.3.0)) (rw (← head.3.1 0) (sym c.eq.ensures ∙ c.if-eq.false))
