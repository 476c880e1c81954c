-- On the way from `next` to `due` the places reached so far wait in the tree, none of them after the last.
use Prim.Native.Nat.{max}
use mathlib.Core.Path.{◌≡◌}
use borrow.Author.Rules.{rules}
use Rattle.sweep_laws.specs.Reaching.{reaching_ready, reaching_further}
use Rattle.sweep.proofs.Partition.insert_reached.Goals as goal

pub insert_place-requires : goal.insert_place-requires
insert_place-requires c = reaching_ready _ _ _ _ _ _ _ _ _ c.requires.1 c.requires.2 c.requires.3 c.number_in-due.ensures _ _ _ c.loop-at.invariant c.loop-at-test.true _ c.place_in-reached.ensures

pub loop-at-preserved : goal.loop-at-preserved
loop-at-preserved c =
    let later : c.max-last.result.0 ≡ max c.loop-at.last.0 c.place_in-reached.result.0 = search rules in
    reaching_further _ _ _ _ _ _ _ _ _ c.requires.1 c.requires.2 c.requires.3 c.number_in-due.ensures _ _ _ c.loop-at.invariant c.loop-at-test.true _ _ _ later c.place_in-reached.ensures c.insert_place.ensures
