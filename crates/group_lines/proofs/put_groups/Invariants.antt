-- The lines of the groups so far stand there, whatever table they are of, and the members behind them are left.
use Rattle.std.proofs.Common.{List, ℕ, ◌≡◌, ◌*◌, ◌≤◌, length, drop}
use Rattle.std.specs.Slice.Iter.{chunks_exact_rest, chunks_exact_size}
use Rattle.model.specs.Jobs.{Table}
use Rattle.ancestry.specs.Searching.{SearchableBy}
use Rattle.lines.specs.Writers.{written, output, Same}
use Rattle.groups.specs.GroupPlan.{GroupPlan}
use Rattle.group_lines.specs.OfTable.{GroupsAppended}
use Rattle.group_lines.proofs.put_groups.Given as goal

abbrev pub invariant-loop-group : goal.invariant-loop-group
invariant-loop-group l = record {
  groups : ℕ;
  within : groups * l.fn.lanes.0 ≤ length l.members;
  rest : chunks_exact_rest l.group-iterator ≡ drop (groups * l.fn.lanes.0) l.members;
  size : chunks_exact_size l.group-iterator ≡ l.fn.lanes.0;
  same : Same l.fn.writer l.writer;
  appended : (tb : Table) (ps : List ℕ) (count : ℕ) → GroupPlan tb l.fn.lanes.0 ps l.common.tree.now l.members l.bottoms l.work count → SearchableBy ps l.common → GroupsAppended tb l.fn.lanes.0 groups (output l.fn.writer) (written l.writer) (output l.writer);
}
