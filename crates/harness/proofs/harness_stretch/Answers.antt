-- `harness::harness_stretch` meets its contract: the numbers copied are those of the stretch.
use mathlib.Core.Path.{ap, ◌∙◌}
use mathlib.Core.List.{List}
use Prim.Native.Nat.{ℕ}
use lib.ListN.{length}
use Rattle.harness.specs.Packed.{copied}
use Rattle.harness.proofs.harness_stretch.Goals as goal

pub returns : goal.returns
returns c =
    let out = c.args.out.now in
    record {
      counted = ap length c.shared_stretch-shared.ensures.holds;
      out_holds = c.copy_leading.ensures ∙ ap (λ (l : List ℕ). copied l out) c.shared_stretch-shared.ensures.holds;
    }
