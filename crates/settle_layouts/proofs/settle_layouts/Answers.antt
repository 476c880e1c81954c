-- `settle_layouts::settle_layouts` meets its contract: one law of the verdict at each refusal, and else the three results copied out of the tree.
use Rattle.std.proofs.Common.{refl, ap, ◌∙◌}
use Rattle.std.proofs.lemmas.Result.{err_from_is_err_and}
use Rattle.model.specs.Answers.{settled_answer}
use Rattle.settle.specs.Checked.{checked_refused, checked_accepted, checked_tree}
use Rattle.settle_layouts.proofs.Outcome.{short, roomy, refused_as, settled_as}
use Rattle.settle_layouts.proofs.settle_layouts.Goals as goal

pub returns-then-depths-count : goal.returns-then-depths-count
returns-then-depths-count c = refused_as _ _ _ _ _ _ 8 0 (short _ _ _ _ c.then-depths-count.either) refl

pub returns-in_err-check_layouts : goal.returns-in_err-check_layouts
returns-in_err-check_layouts c =
    let wrong = checked_refused c.args.parents.now _ c.check_layouts.ensures _ _ (ap settled_answer c.in_err-check_layouts.was) in
    let same = err_from_is_err_and c.from_residual.result c.from_residual.ensures.1 in
    rw (same.1, same.2) (refused_as _ _ _ _ _ _ _ _ (roomy _ _ _ _ c.if-depths-count.false c.if-firsts-count.false c.if-lasts-count.false ∙ wrong) refl)

pub settle-requires : goal.settle-requires
settle-requires c = checked_tree _ _ c.check_layouts.ensures (ap settled_answer c.in_ok-check_layouts.was)

pub returns : goal.returns
returns c =
    let right = checked_accepted c.args.parents.now _ c.check_layouts.ensures (ap settled_answer c.in_ok-check_layouts.was) in
    let s = c.settle.ensures in
    settled_as _ _ _ _ _ _ (roomy _ _ _ _ c.if-depths-count.false c.if-firsts-count.false c.if-lasts-count.false ∙ right) refl _ _ _
    (c.copy_out.ensures _ s.depth_at) (c.copy_out-2.ensures _ s.first_at) (c.copy_out-3.ensures _ s.last_at)
