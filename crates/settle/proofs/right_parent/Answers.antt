-- `settle::right_parent` meets its contract: the two cases of a parent's rule.
use Rattle.std.proofs.Common.{◌≡◌, sym, ◌∙◌, ltb, rules}
use borrow.Author.Tests.{eqb-true, eqb-false}
use Rattle.settle.proofs.Laws.{right_root, right_later}
use Rattle.settle.proofs.right_parent.Goals as goal

pub returns-then-eq : goal.returns-then-eq
returns-then-eq c = c.is_none.ensures ∙ right_root _ _ (eqb-true _ _ (sym c.eq.ensures ∙ c.if-eq.true))

pub returns : goal.returns
returns c =
    let before : c.lt.result ≡ ltb c.args.p.0 c.args.x.0 = search rules in
    before ∙ right_later _ _ (eqb-false _ _ (sym c.eq.ensures ∙ c.if-eq.false))
