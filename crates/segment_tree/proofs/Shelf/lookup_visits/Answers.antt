-- An empty span is told at the topmost node; any other is counted in the tree of the shelf alone.
use native.Mathlib.Omega.{arith}
use mathlib.Core.Path.{sym}
use Rattle.sweep_laws.specs.Levels.{shelf_countable}
use Rattle.sweep_laws.specs.VisitBound.{visits_empty}
use Rattle.segment_tree.proofs.Shelf.lookup_visits.Goals as goal

pub count_visits-requires : goal.count_visits-requires
count_visits-requires c =
    let some = c.if-from-to.true in
    rw c.levels.ensures (shelf_countable _ _ _ _ c.requires.few (c.requires.begins some) some c.requires.ends)

pub returns : goal.returns
returns c = sym (visits_empty _ _ _ (omega (arith, c.if-from-to.false)))
