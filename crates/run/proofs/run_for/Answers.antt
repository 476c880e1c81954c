-- 8 and 13 first, and then what the run in arrays has done.
use Rattle.std.proofs.Common.{rules, ◌≡◌, refl, ◌≤◌, true, sym, ◌∙◌, arith, length}
use Rattle.model.specs.Output.{output_bytes}
use Rattle.run.specs.Whole.{press_known, told_refused}
use Rattle.run.specs.Presses.{press_outcome, press_unknown, press_refused, refusal_short, printed_fits, printed_whole}
use Rattle.run.proofs.run_for.Goals as goal

pub returns-in_default : goal.returns-in_default
returns-in_default c = press_refused _ _ c.args.press c.in_default.ensures.cases

pub returns-then-not-is_known : goal.returns-then-not-is_known
returns-then-not-is_known c =
    let parts = c.in-Some.ensures.cases in
    let long : output_bytes ≤ length c.args.output.now = omega (arith, parts.2) in
    press_unknown _ _ _ _ c.args.press long (sym c.is_known.ensures ∙ c.if-not-is_known.true) (printed_whole c.in-Some.rest.now long parts.0 parts.2 (refusal_short 13 0 refl) c.print_refusal.ensures (search rules))

pub returns-in-Ok : goal.returns-in-Ok
returns-in-Ok c =
    let parts = c.in-Some.ensures.cases in
    let long : output_bytes ≤ length c.args.output.now = omega (arith, parts.2) in
    let known : press_known c.args.press ≡ true = sym c.is_known.ensures ∙ c.if-not-is_known.false in
    press_outcome _ _ _ _ c.args.press long known (printed_whole c.in-Some.rest.now long parts.0 parts.2 (printed_fits c.in-Ok.ensures c.run_sized.array_long) c.in-Ok.ensures (search rules))

pub returns-in-Err : goal.returns-in-Err
returns-in-Err c =
    let parts = c.in-Some.ensures.cases in
    let long : output_bytes ≤ length c.args.output.now = omega (arith, parts.2) in
    let known : press_known c.args.press ≡ true = sym c.is_known.ensures ∙ c.if-not-is_known.false in
    let told = told_refused _ _ _ c.in-Err.refusal _ _ c.in-Err.ensures c.print_refusal-in-Err.ensures in
    press_outcome _ _ _ _ c.args.press long known (printed_whole c.in-Some.rest.now long parts.0 parts.2 (refusal_short _ _ c.in-Err.ensures.1) told (search rules))
