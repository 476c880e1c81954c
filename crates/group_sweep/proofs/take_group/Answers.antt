-- The place leaves the tree, and takes mate after mate, until it has enough or finds no more.
use Prim.Native.Nat.{◌+◌, ◌<◌}
use mathlib.Core.Path.{refl, sym, ◌∙◌}
use native.Mathlib.Omega.{arith}
use lib.ListN.{length-set}
use Rattle.schedule.specs.Places.{held_none, held_one}
use Rattle.sweep_laws.specs.Asking.{turn_begins, turn_searchable, mate_takable, mate_taking}
use Rattle.sweep_laws.specs.Steps.{near_place}
use Rattle.group_sweep.specs.Taking.{at_inside, so_far_first, next_inside, so_far_more, group_full, group_short}
use Rattle.group_sweep.proofs.take_group.Goals as goal

pub bounds-members-at : goal.bounds-members-at
bounds-members-at c = let p = c.requires.4 in omega (arith, p.members_length, at_inside _ _ _ _ _ _ _ _ _ _ _ _ _ _ _ _ p)

-- what is taken so far, by any schedule that the place asks in
pub find_mate-requires : goal.find_mate-requires
find_mate-requires c =
    let p = c.requires in
    let f = c.loop-taken.invariant.2 p.0 p.1 p.2 p.3 _ _ p.4.near (so_far_first _ _ _ _ _ _ _ _ _ _ _ _ _ _ _ _ p.4 _ c.remove_place.ensures.front (turn_begins _ _ _ _ _ _ _ _ _ _ _ _ p.4.asking _ c.remove_place.ensures)) in
    turn_searchable _ _ _ _ _ _ _ _ _ _ _ _ f.turn

-- too few are found
pub returns-in_default : goal.returns-in_default
returns-in_default c =
    λ s next base size a.
    let f = c.loop-taken.invariant.2 s next base size _ _ a.near (so_far_first _ _ _ _ _ _ _ _ _ _ _ _ _ _ _ _ a _ c.remove_place.ensures.front (turn_begins _ _ _ _ _ _ _ _ _ _ _ _ a.asking _ c.remove_place.ensures)) in
    let none = held_none _ (sym c.find_mate.ensures ∙ c.in_default.is) in
    let t = mate_taking _ _ _ _ _ _ _ _ _ _ _ _ f.turn _ refl _ (record { none = λ _. refl; one = λ other. absurd (other none) }) in
    group_short _ _ _ _ _ _ _ _ _ _ _ _ _ _ _ _ _ _ f (omega arith) _ _ t none

pub take_mate-requires : goal.take_mate-requires
take_mate-requires c =
    let p = c.requires in
    let f = c.loop-taken.invariant.2 p.0 p.1 p.2 p.3 _ _ p.4.near (so_far_first _ _ _ _ _ _ _ _ _ _ _ _ _ _ _ _ p.4 _ c.remove_place.ensures.front (turn_begins _ _ _ _ _ _ _ _ _ _ _ _ p.4.asking _ c.remove_place.ensures)) in
    let held = held_one _ _ (sym c.find_mate.ensures ∙ c.in-Some.is) in
    rw held.0 (mate_takable _ _ _ _ _ _ _ _ _ _ _ _ f.turn _ refl)

pub bounds-members-at-in-loop-taken : goal.bounds-members-at-in-loop-taken
bounds-members-at-in-loop-taken c =
    let p = c.requires in
    let f = c.loop-taken.invariant.2 p.0 p.1 p.2 p.3 _ _ p.4.near (so_far_first _ _ _ _ _ _ _ _ _ _ _ _ _ _ _ _ p.4 _ c.remove_place.ensures.front (turn_begins _ _ _ _ _ _ _ _ _ _ _ _ p.4.asking _ c.remove_place.ensures)) in
    let held = held_one _ _ (sym c.find_mate.ensures ∙ c.in-Some.is) in
    let took = rw held.0 at c.take_mate.ensures in
    let t = mate_taking _ _ _ _ _ _ _ _ _ _ _ _ f.turn _ refl _ took in
    let below : c.args.at + c.loop-taken.taken < c.args.partition.count = next_inside _ _ _ _ _ _ _ _ _ _ _ _ _ _ _ _ _ _ f (omega arith) _ _ t held.1 in
    omega (arith, below, c.loop-taken.invariant.1)

pub near_to-first-requires-clause-place_in_bounds : goal.near_to-first-requires-clause-place_in_bounds
near_to-first-requires-clause-place_in_bounds c =
    let p = c.requires in
    let f = c.loop-taken.invariant.2 p.0 p.1 p.2 p.3 _ _ p.4.near (so_far_first _ _ _ _ _ _ _ _ _ _ _ _ _ _ _ _ p.4 _ c.remove_place.ensures.front (turn_begins _ _ _ _ _ _ _ _ _ _ _ _ p.4.asking _ c.remove_place.ensures)) in
    let held = held_one _ _ (sym c.find_mate.ensures ∙ c.in-Some.is) in
    let took = rw held.0 at c.take_mate.ensures in
    let t = mate_taking _ _ _ _ _ _ _ _ _ _ _ _ f.turn _ refl _ took in
    let inside = rw (← held.0) at (t.one_found held.1).0.inside in
    (near_place _ _ _ p.4.asking.sweeping.setting.places_are p.4.near _ inside).0

pub loop-taken-preserved : goal.loop-taken-preserved
loop-taken-preserved c =
    let held = held_one _ _ (sym c.find_mate.ensures ∙ c.in-Some.is) in (
      omega arith,
      rw length-set c.loop-taken.invariant.1,
      λ s next base size old before near f₀.
          let f = c.loop-taken.invariant.2 s next base size old before near f₀ in
          let took = rw held.0 at c.take_mate.ensures in
          let t = mate_taking _ _ _ _ _ _ _ _ _ _ _ _ f.turn _ refl _ took in
          let next_first = rw held.0 at c.near_to-first.ensures in
          rw held.0 (so_far_more _ _ _ _ _ _ _ _ _ _ _ _ _ _ _ _ _ _ f (omega arith) _ _ t held.1 c.loop-taken.invariant.1 _ near _ next_first),
    )

pub returns : goal.returns
returns c =
    λ s next base size a.
    group_full _ _ _ _ _ _ _ _ _ _ _ _ _ _ _ _ _ _ (omega (arith, a.least)) c.loop-taken.invariant.0 (omega arith) (c.loop-taken.invariant.2 s next base size _ _ a.near (so_far_first _ _ _ _ _ _ _ _ _ _ _ _ _ _ _ _ a _ c.remove_place.ensures.front (turn_begins _ _ _ _ _ _ _ _ _ _ _ _ a.asking _ c.remove_place.ensures)))
