-- The lines of the first k passes stand there, whatever table the plan is of.
use Rattle.std.proofs.Common.{List, ℕ}
use Rattle.model.specs.Jobs.{Table}
use Rattle.ancestry.specs.Searching.{SearchableBy}
use Rattle.lines.specs.Writers.{written, output, Same}
use Rattle.passes.specs.PlanPass.{Plan}
use Rattle.run.specs.Printing.{PassesAppended}
use Rattle.run.proofs.print.put_passes.Given as goal

abbrev pub invariant-loop-k : goal.invariant-loop-k
invariant-loop-k l = record {
  same : Same l.fn.writer l.writer;
  appended : (tb : Table) (ps : List ℕ) → Plan tb ps l.common.tree.now l.highests l.bottoms l.work l.fn.count → SearchableBy ps l.common → PassesAppended tb l.k (output l.fn.writer) (written l.writer) (output l.writer);
}
