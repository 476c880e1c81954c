-- The jobs up to the place stand there, and their bottoms are taken in.
use Rattle.std.proofs.Common.{List, ℕ, ◌+◌, ◌≤◌, length}
use Rattle.ancestry.specs.Searching.{SearchableBy}
use Rattle.lines.specs.Writers.{written, output, Same}
use Rattle.group_lines.specs.Lines.{GroupCells, JobsAppended, LowestSoFar}
use Rattle.group_lines.proofs.put_group.Given as goal

abbrev pub invariant-loop-place : goal.invariant-loop-place
invariant-loop-place l = record {
  within : l.place-index + 1 ≤ length l.group;
  same : Same l.fn.writer l.writer;
  appended : JobsAppended l.work l.group (l.place-index + 1) (written l.fn.writer) (output l.fn.writer) (written l.writer) (output l.writer);
  lowest : (ps : List ℕ) → SearchableBy ps l.common → GroupCells ps l.bottoms l.work l.group → LowestSoFar l.work l.group ps l.bottoms (l.place-index + 1) l.layout.0;
}
