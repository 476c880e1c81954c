-- On the way up each inner node is right but the parent of the node at hand.
use mathlib.Core.Path.{◌≡◌}
use Prim.Native.Nat.{min}
use lib.ListN.{get_or}
use borrow.Author.Rules.{rules}
use Rattle.sweep_laws.specs.Nodes.{removing_step, removing_done}
use Rattle.segment_tree.proofs.Shape.remove.Goals as goal

pub loop-node-preserved : goal.loop-node-preserved
loop-node-preserved c =
    let lesser : c.min-least.result.0 ≡ min c.loop-node.least.0 (get_or c.loop-node.nodes c.sibling.result 0) = search rules in
    removing_step _ _ _ _ _ _ _ _ c.loop-node-test.true c.sibling.ensures lesser c.loop-node.invariant

pub returns : goal.returns
returns c = removing_done _ _ _ _ c.requires.segment_tree c.requires.slot_lt_width _ _ _ c.loop-node-test.false c.loop-node.invariant
