-- On the way up every inner node is right but the one at hand, which is right once it takes the place.
use mathlib.Core.Path.{◌≡◌}
use Prim.Native.Nat.{min}
use lib.ListN.{get_or}
use borrow.Author.Rules.{rules}
use Rattle.sweep_laws.specs.Nodes.{inserting_slot, inserting_step, inserting_done}
use Rattle.segment_tree.proofs.Shape.insert.Goals as goal

pub loop-node-init : goal.loop-node-init
loop-node-init c = inserting_slot _ _ _ _ _ c.requires

pub loop-node-preserved : goal.loop-node-preserved
loop-node-preserved c =
    let lesser : c.min.result.0 ≡ min (get_or c.loop-node.nodes c.loop-node.node 0) c.args.place.0 = search rules in
    inserting_step _ _ _ _ _ _ _ c.loop-node-test.true lesser c.loop-node.invariant

pub returns : goal.returns
returns c = inserting_done _ _ _ _ _ _ _ c.loop-node-test.false c.requires c.loop-node.invariant
