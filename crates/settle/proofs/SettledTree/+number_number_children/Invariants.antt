-- A call on x goes to greater layouts: twice what is left of the limit falls, and `number_children` stands one below `number`. The loop's invariant: the
-- children passed are numbered.
use Rattle.std.proofs.Common.{ℕ, ◌≡◌, ◌+◌, ◌-◌, List}
use Rattle.model.specs.Tree.{FFFF, layout_limit}
use Rattle.settle.specs.Numbering.{linked_layout, link_to, Numberable}
use Rattle.settle.proofs.Walk.{ChildrenDone}
use Rattle.settle.proofs.SettledTree.+number_number_children.Given as goal

abbrev pub decreases-number : goal.decreases-number
decreases-number l = (layout_limit - l.x.0) + (layout_limit - l.x.0)

abbrev pub decreases-number_children : goal.decreases-number_children
decreases-number_children l = (layout_limit - l.x.0) + (layout_limit - l.x.0) - 1

-- the link that the child at hand is read off, and what is numbered before it
abbrev pub invariant-number_children-loop-child : goal.invariant-number_children-loop-child
invariant-number_children-loop-child l =
    (link : ℕ) × (l.child ≡ linked_layout link) × ((ps : List ℕ) → Numberable ps l.links l.fn.x.0 l.next → ChildrenDone ps l.fn.x.0 l.initial.self l.self link l.after)

abbrev pub decreases-number_children-loop-child : goal.decreases-number_children-loop-child
decreases-number_children-loop-child l = FFFF - link_to l.child
