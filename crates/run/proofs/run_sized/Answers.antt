-- The arrays have room for the jobs of the input.
use Rattle.std.proofs.Common.{arith}
use Rattle.run.specs.Whole.{arrays}
use Rattle.run.proofs.run_sized.Goals as goal

pub run_with-requires-clause-arrays_for : goal.run_with-requires-clause-arrays_for
run_with-requires-clause-arrays_for c = arrays c.args.input.now 7 (λ m h k. omega (arith, c.if-input-le-FEW_BYTES.true))

pub run_with-requires-then-input-le-SOME_BYTES-clause-arrays_for : goal.run_with-requires-then-input-le-SOME_BYTES-clause-arrays_for
run_with-requires-then-input-le-SOME_BYTES-clause-arrays_for c = arrays c.args.input.now 10 (λ m h k. omega (arith, c.if-input-le-SOME_BYTES.true))

pub run_with-requires-2-clause-arrays_for : goal.run_with-requires-2-clause-arrays_for
run_with-requires-2-clause-arrays_for c = arrays c.args.input.now 12 (λ m h k. omega arith)
