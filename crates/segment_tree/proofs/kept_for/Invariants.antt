-- No more than there are slots: what is doubled is at most half of them.
use Prim.Native.Nat.{◌-◌, ◌≤◌}
use Rattle.segment_tree.proofs.kept_for.Given as goal

abbrev pub invariant-loop-slots : goal.invariant-loop-slots
invariant-loop-slots l = (1 ≤ l.kept) × (l.kept ≤ l.width)

abbrev pub decreases-loop-slots : goal.decreases-loop-slots
decreases-loop-slots l = l.width - l.kept
