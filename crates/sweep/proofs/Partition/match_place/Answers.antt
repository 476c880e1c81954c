-- The place leaves the tree, and what it takes is its mate.
use mathlib.Core.Path.{refl}
use lib.ListN.{get_or}
use Prim.Native.Nat.{◌+◌, ◌*◌}
use Rattle.std.proofs.Math.Decide.{ℕ_discrete}
use Rattle.model.specs.Tree.{FFFF}
use Rattle.schedule.specs.InWork.{from_part}
use Rattle.schedule.specs.Places.{cell_back}
use Rattle.sweep_laws.specs.SegmentTree.{entries_in, smallest}
use Rattle.sweep_laws.specs.WorkCells.{tree_in}
use Rattle.sweep_laws.specs.Asking.{turn_begins, turn_span, turn_searchable, mate_takable, mate_taking}
use Rattle.sweep_laws.proofs.Chosen.{chosen_none, chosen_one}
use Rattle.sweep.proofs.Partition.match_place.Goals as goal

pub lookup_visits-visits-requires : goal.lookup_visits-visits-requires
lookup_visits-visits-requires c = rw c.number_in-from.ensures (turn_span _ _ _ _ _ _ _ _ _ _ _ _ (turn_begins _ _ _ _ _ _ _ _ _ _ _ _ c.requires.2 _ c.remove_place.ensures))

pub approach-first-requires : goal.approach-first-requires
approach-first-requires c = turn_searchable _ _ _ _ _ _ _ _ _ _ _ _ (turn_begins _ _ _ _ _ _ _ _ _ _ _ _ c.requires.2 _ c.remove_place.ensures)

pub take_mate-requires : goal.take_mate-requires
take_mate-requires c =
    rw (c.find_mate-mate.ensures, cell_back) (mate_takable _ _ _ _ _ _ _ _ _ _ _ _ (turn_begins _ _ _ _ _ _ _ _ _ _ _ _ c.requires.2 _ c.remove_place.ensures) _ refl)

pub returns-clause-chosen : goal.returns-clause-chosen
returns-clause-chosen c =
    λ s next a.
    let t = turn_begins _ _ _ _ _ _ _ _ _ _ _ _ a _ c.remove_place.ensures in
    let counted = rw c.number_in-from.ensures at c.lookup_visits-visits.ensures in
    let took = rw (c.find_mate-mate.ensures, cell_back) at c.take_mate.ensures in
    let g = mate_taking _ _ _ _ _ _ _ _ _ _ _ _ t _ refl _ took in
    let work = c.remove_place.new.work in
    let found = smallest (entries_in c.args.self.shape.width (tree_in c.args.self.count work)) (get_or work (from_part * c.args.self.count + c.args.place.0) 0) c.args.to in
    rw (c.set_mate.ensures, c.find_mate-mate.ensures, cell_back) (elim (ℕ_discrete found FFFF) [
      | yes none ↦ chosen_none _ _ _ _ _ _ _ _ _ _ _ _ _ c.remove_place.ensures.front t _ _ g _ counted none
      | no some ↦ chosen_one _ _ _ _ _ _ _ _ _ _ _ _ _ c.remove_place.ensures.front t _ _ g _ counted some
    ])
