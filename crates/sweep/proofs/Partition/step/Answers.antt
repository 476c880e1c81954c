-- Each way that the step can end leaves the sweep at the next place.
use mathlib.Core.Path.{refl, sym, ap, ◌∙◌}
use Prim.Native.Nat.{◌<◌}
use native.Mathlib.Omega.{arith}
use Rattle.model.specs.Cells.{cell_of}
use Rattle.schedule.specs.Places.{is_place, is_none}
use Rattle.sweep_laws.specs.Steps.{stepped_taken, stepped_alone, shelf_known, few_visits, stepped_unmatched, stepped_matched}
use Rattle.sweep.proofs.Partition.step.Goals.{in-Some, in-None}
use Rattle.sweep.proofs.Partition.step.Goals as goal

pub shelf_of-shelf-requires : goal.shelf_of-shelf-requires
shelf_of-shelf-requires c =
    let asks : 0 < c.number_in-to.result = omega (arith, c.if-to-gt0.true) in
    shelf_known _ _ _ _ _ _ _ _ _ _ _ _ c.requires _ _ _ c.insert_reached-reached.ensures _ c.number_in-to.ensures asks

pub overflow_add-result-then-to-gt0 : goal.overflow_add-result-then-to-gt0
overflow_add-result-then-to-gt0 c =
    let asks : 0 < c.number_in-to.result = omega (arith, c.if-to-gt0.true) in
    omega (arith, few_visits _ _ _ _ _ _ _ _ _ _ _ _ c.requires _ _ _ c.insert_reached-reached.ensures _ c.number_in-to.ensures asks _ _ c.shelf_of-shelf.ensures _ c.near_to-first.ensures _ _ _ c.match_place-found.ensures.chosen)

pub returns-then-to-gt0 : goal.returns-then-to-gt0
returns-then-to-gt0 c =
    let asks : 0 < c.number_in-to.result = omega (arith, c.if-to-gt0.true) in
    rw c.set_opener.ensures (elim c.match-found.branch [
      | in-Some w ↦
          let place = rw w.in-Some.is at c.match_place-found.ensures.mate_is_a_place in
          rw w.pairs-is (stepped_matched _ _ _ _ _ _ _ _ _ _ _ _ c.requires _ _ _ c.insert_reached-reached.ensures _ c.number_in-to.ensures asks _ _ c.shelf_of-shelf.ensures _ c.near_to-first.ensures _ _ _ c.match_place-found.ensures.chosen (λ e. place (rw w.in-Some.is at e)))
      | in-None w ↦ rw w.pairs-is (stepped_unmatched _ _ _ _ _ _ _ _ _ _ _ _ c.requires _ _ _ c.insert_reached-reached.ensures _ c.number_in-to.ensures asks _ _ c.shelf_of-shelf.ensures _ c.near_to-first.ensures _ _ _ c.match_place-found.ensures.chosen (ap cell_of w.in-None.is))
    ])

pub returns-then-is_some : goal.returns-then-is_some
returns-then-is_some c = stepped_taken _ _ _ _ _ _ _ _ _ _ _ _ c.requires _ _ _ c.insert_reached-reached.ensures _ c.number_in-to.ensures c.if-to-gt0.false _ refl (is_place _ (rw c.mate_at.ensures at (sym c.is_some.ensures ∙ c.if-is_some.true)))

pub returns : goal.returns
returns c =
    rw c.set_opener-2.ensures (stepped_alone _ _ _ _ _ _ _ _ _ _ _ _ c.requires _ _ _ c.insert_reached-reached.ensures _ c.number_in-to.ensures c.if-to-gt0.false _ refl (is_none _ (rw c.mate_at.ensures at (sym c.is_some.ensures ∙ c.if-is_some.false))))
