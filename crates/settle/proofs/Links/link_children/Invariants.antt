-- `settle::Links::link_children` meets its contract. The loop's invariant: the layouts from y on are linked.
use Rattle.settle.proofs.Linking.{LinkedFrom}
use Rattle.settle.proofs.Links.link_children.Given as goal

abbrev pub invariant-loop-y : goal.invariant-loop-y
invariant-loop-y l = LinkedFrom l.parents l.y l.self
