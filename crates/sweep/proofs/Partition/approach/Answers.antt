-- Each place that is passed by does not wait in the span, so none comes before the next.
use Prim.Native.Nat.{◌≤◌}
use native.Mathlib.Omega.{arith}
use Rattle.std.proofs.lemmas.Grind.{common_steps}
use Rattle.sweep_laws.specs.Approach.{approach_further}
use Rattle.sweep.proofs.Partition.approach.Goals as goal

pub loop-preserved : goal.loop-preserved
loop-preserved c =
    λ p e m.
    let not_past : c.loop.first.0 ≤ c.args.candidates.last.0 = grind (arith, common_steps) in
    approach_further _ _ _ _ _ _ _ _ (c.loop.invariant p e m) not_past (rw (← e) (c.waits.ensures c.if-waits.false))
