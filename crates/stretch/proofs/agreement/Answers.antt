-- `agreement` answers how many first pairs are of equal numbers: the pairs of the two parts are those of the lists.
use Rattle.std.proofs.Common.{ℕ, length, take, take_while, eqb, ap, arith, ◌∙◌, rules, tests}
use Rattle.std.proofs.lemmas.Iterator.{YieldsList-from_slice, YieldsList-from_zip}
use Rattle.std.proofs.lemmas.Iterator.Consumers.{count_from_yields_List}
use Rattle.std.proofs.lemmas.Iterator.Search.{YieldsList-from_take_while}
use Rattle.stretch.proofs.Laws.{zip_shorter}
use Rattle.stretch.proofs.agreement.Goals as goal

pub returns : goal.returns
returns c =
    let list = c.args.list.now in
    let other = c.args.other.now in
    let shorter = c.min-shorter.result in
    count_from_yields_List c.take_while.result _ c.count.ensures.ran
    (YieldsList-from_take_while _ (λ (p : ℕ × ℕ). eqb p.0 p.1) (YieldsList-from_zip (YieldsList-from_slice (take shorter list) cc) (YieldsList-from_slice (take shorter other) cc)) c.take_while.ensures.closure c.take_while.ensures.done (λ x b q k. search (rules, tests)))
    ∙ ap (λ l. length (take_while (λ (p : ℕ × ℕ). eqb p.0 p.1) l)) (zip_shorter shorter list other (omega (arith, c.min-shorter.ensures)))
