-- Each turn sets one cell more, from the row before, which stays as it was.
use Rattle.ancestry.specs.SparseTable.{RowSet}
use Rattle.ancestry.proofs.set_row.Given as goal

abbrev pub invariant-loop-k : goal.invariant-loop-k
invariant-loop-k l = RowSet l.at l.stride l.half l.k l.initial.minima l.minima
