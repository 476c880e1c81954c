-- Each way that the step can end leaves the sweep at the next place, or tells that a group is not full.
use Prim.Native.Nat.{◌<◌}
use mathlib.Core.Path.{refl, sym, ap, ◌∙◌}
use native.Mathlib.Omega.{arith}
use Rattle.std.specs.Option.{is_some}
use Rattle.schedule.specs.Places.{held_none, held_one}
use Rattle.group_sweep.specs.Steps.{stepped_taken, stepped_alone, now_asking, stepped_full, stepped_short}
use Rattle.group_sweep.proofs.group_step.Goals as goal

pub take_group-requires : goal.take_group-requires
take_group-requires c =
    let asks : 0 < c.number_in-to.result = omega (arith, c.if-to-gt0.true) in
    now_asking _ _ _ _ _ _ _ _ _ _ _ _ c.requires.1 _ _ _ c.insert_reached-reached.ensures _ c.number_in-to.ensures asks _ c.near_to-first.ensures

pub returns-in_err-take_group : goal.returns-in_err-take_group
returns-in_err-take_group c =
    λ starts p.
    let asks : 0 < c.number_in-to.result = omega (arith, c.if-to-gt0.true) in
    rw c.from_residual.ensures
    (stepped_short _ _ _ _ _ _ _ _ _ _ _ _ p _ _ _ c.insert_reached-reached.ensures _ c.number_in-to.ensures asks _ c.near_to-first.ensures _ _ _ c.take_group.auto.members c.take_group.ensures (ap is_some c.in_err-take_group.was))

pub returns-then-to-gt0 : goal.returns-then-to-gt0
returns-then-to-gt0 c =
    λ starts p.
    let asks : 0 < c.number_in-to.result = omega (arith, c.if-to-gt0.true) in
    stepped_full _ _ _ _ _ _ _ _ _ _ _ _ p _ _ _ c.insert_reached-reached.ensures _ c.number_in-to.ensures asks _ c.near_to-first.ensures _ _ _ c.take_group.auto.members c.take_group.ensures (ap is_some c.in_ok-take_group.was)

pub returns-in_err-mate_at : goal.returns-in_err-mate_at
returns-in_err-mate_at c =
    λ starts p.
    rw c.from_residual-in_err-mate_at.ensures
    (stepped_alone _ _ _ _ _ _ _ _ _ _ _ _ p _ _ _ c.insert_reached-reached.ensures _ c.number_in-to.ensures (omega (arith, c.if-to-gt0.false)) _ refl (held_none _ (sym c.mate_at.ensures ∙ c.in_err-mate_at.was)))

pub returns : goal.returns
returns c =
    λ starts p.
    stepped_taken _ _ _ _ _ _ _ _ _ _ _ _ p _ _ _ c.insert_reached-reached.ensures _ c.number_in-to.ensures (omega (arith, c.if-to-gt0.false)) _ refl (held_one _ _ (sym c.mate_at.ensures ∙ c.in_ok-mate_at.was)).1
