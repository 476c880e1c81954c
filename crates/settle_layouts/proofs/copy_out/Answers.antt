-- `settle_layouts::copy_out` meets its contract: the first cells of the column hold what f says there.
use Rattle.std.proofs.Common.{ap, List, ℕ, ◌++◌, drop, ◌∙◌, arith}
use Rattle.settle_layouts.proofs.Outcome.{column}
use Rattle.settle_layouts.proofs.copy_out.Goals as goal

pub returns : goal.returns
returns c = λ f holds. ap (λ (l : List ℕ). l ++ drop c.args.count c.args.results.now) (c.copy_from_slice.ensures.after ∙ column c.args.count f _ (omega arith) holds)
