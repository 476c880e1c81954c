-- On the way up the nodes that are left, with the places taken in so far, have the smallest place of the span.
use mathlib.Core.Path.{◌≡◌}
use Prim.Native.Nat.{◌-◌, min}
use lib.ListN.{get_or}
use borrow.Author.Rules.{rules}
use Rattle.sweep_laws.specs.NodeSpans.{narrowed_first, narrowed_parents}
use Rattle.segment_tree.proofs.Shape.narrow.Goals as goal

pub loop-left-init : goal.loop-left-init
loop-left-init c = narrowed_first _ _ _ _ _ c.requires.from_kept c.requires.order c.requires.within

pub loop-left-preserved : goal.loop-left-preserved
loop-left-preserved c =
    let two : c.min.result.0 ≡ min (get_or c.args.nodes.now c.loop-left.left 0) (get_or c.args.nodes.now (c.loop-left.right - 1) 0) = search rules in
    let three : c.min-least.result.0 ≡ min c.loop-left.least.0 c.min.result.0 = search rules in
    rw (three, two) (narrowed_parents _ _ _ c.requires.tree _ _ _ _ _ c.if-self-left.true c.loop-left-test.true c.loop-left.invariant)
