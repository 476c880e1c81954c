-- Our passes (document 01, "Rival plans and the cut"), of the plan in the partner buffer.
use Prim.Native.Nat.{◌+◌, ◌≤◌}
use Rattle.std.specs.Prelude.{◌≡◌}
use Rattle.std.proofs.Common.{arith}
use Rattle.model.specs.Jobs.{Table, jobs, job_limit}
use Rattle.model.specs.Rival.{pairs_of, passes_of}
use Rattle.model.specs.Planning.{partners, pairs, singles}
use Rattle.matching.specs.Partners.{our_pairs_length}
use Rattle.matching.proofs.OurSingles.{our_singles}

-- our passes are the pairs and singles given back
pub our_passes : (tb : Table) → jobs tb ≤ job_limit → passes_of tb (pairs_of (jobs tb) (partners tb)) ≡ pairs tb + singles tb
unfolding passes_of
our_passes tb small = omega (arith, our_pairs_length tb small, our_singles tb small)
