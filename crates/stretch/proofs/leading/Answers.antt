-- `leading` answers its definition: the first number is read where there is one, and sought in the other list.
use Rattle.std.proofs.Common.{arith, sym, ap, ◌∙◌}
use borrow.Author.Rules.{part_to_end}
use Rattle.model.specs.Stretch.{agreement}
use Rattle.stretch.proofs.Laws.{leading_none, leading_from, leading_absent, agreement_zipped}
use Rattle.stretch.proofs.leading.Goals as goal

pub returns-in_default : goal.returns-in_default
returns-in_default c = leading_none c.args.list.now c.args.other.now (omega (arith, c.in_default.ensures.item))

pub returns-in-Some-position_of : goal.returns-in-Some-position_of
returns-in-Some-position_of c =
    let list = c.args.list.now in
    let other = c.args.other.now in
    let head = c.in-Some.ensures.item in
    c.agreement.ensures
    ∙ agreement_zipped _ _
    ∙ ap (agreement list) (part_to_end other c.in-Some-position_of.from)
    ∙ leading_from list other _ _ head.3.0 (head.3.1 0) (sym c.in-Some-position_of.ensures)

pub returns-in-None : goal.returns-in-None
returns-in-None c =
    let head = c.in-Some.ensures.item in
    leading_absent c.args.list.now c.args.other.now _ head.3.0 (head.3.1 0) (sym c.in-None.ensures)
