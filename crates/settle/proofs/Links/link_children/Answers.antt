-- `settle::Links::link_children` meets its contract. The loop's invariant: the layouts from y on are linked.
use Rattle.std.proofs.Common.{◌-◌, arith}
use Rattle.settle.proofs.Linking.{linked_none, linked_more, linked_all}
use Rattle.settle.proofs.Links.link_children.Goals as goal

pub loop-y-init : goal.loop-y-init
loop-y-init c = linked_none _ _ c.requires.unlinked

pub loop-y-preserved : goal.loop-y-preserved
loop-y-preserved c =
    let known = c.requires.tree.smaller (c.loop-y.y - 1) (omega arith) in
    linked_more _ c.requires.tree _ _ (omega arith) (omega (arith, known, c.loop-y.invariant.within)) _ c.loop-y.invariant (omega arith) (omega arith)

pub returns : goal.returns
returns c = linked_all _ _ _ c.requires.tree c.loop-y-test.false c.loop-y.invariant
