-- Each pass is read and written.
use Rattle.std.proofs.Common.{refl, ◌∙◌}
use Rattle.ancestry.specs.Room.{roomy_all}
use Rattle.passes.specs.PlanPass.{jobs_are, plan_cells}
use Rattle.hand_back.specs.HandBack.{handed_none, plan_inside, plan_more, plan_returned}
use Rattle.hand_back.proofs.hand_back.Goals as goal

pub new-common-requires-clause-roomy : goal.new-common-requires-clause-roomy
new-common-requires-clause-roomy c = roomy_all _ _ c.requires.plan.1.spanned.tree refl

pub loop-k-init : goal.loop-k-init
loop-k-init c = λ tb p.
    let all = jobs_are tb _ _ _ _ _ _ p in
    handed_none tb p.table _ _ _ (c.requires.partners_len ∙ all) p.high (c.requires.printed_len ∙ all)

pub pass_at-pass-requires : goal.pass_at-pass-requires
pass_at-pass-requires c = let q = c.requires.plan in (_, c.new-common.ensures.searchable, plan_cells q.0 _ _ _ _ _ _ q.1 _ c.loop-k-test.true)

pub write_pass-requires-clause-inside : goal.write_pass-requires-clause-inside
write_pass-requires-clause-inside c =
    let q = c.requires.plan in
    let turn = c.loop-k-test.true in
    let read = c.pass_at-pass.ensures _ c.new-common.ensures.searchable (plan_cells q.0 _ _ _ _ _ _ q.1 _ turn) in
    rw (c.loop-k.auto.partners ∙ c.requires.partners_len) (plan_inside q.0 _ _ _ _ _ _ q.1 _ turn _ read)

pub loop-k-preserved : goal.loop-k-preserved
loop-k-preserved c = λ tb p.
    let w = c.write_pass.ensures in
    let turn = c.loop-k-test.true in
    let read = c.pass_at-pass.ensures _ c.new-common.ensures.searchable (plan_cells tb _ _ _ _ _ _ p _ turn) in
    rw (w.partners_after, w.uppers_after, w.printed_after) (plan_more tb _ _ _ _ _ _ p _ turn _ read _ _ _ (c.loop-k.invariant tb p))

pub returns : goal.returns
returns c = λ tb p. plan_returned tb _ _ _ _ _ _ p _ c.loop-k-test.false _ _ _ (c.loop-k.invariant tb p)
