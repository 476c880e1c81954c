-- Our singles (document 01, "Rival plans and the cut"): what is left of M after two for each pair is the jobs in no pair of the partner buffer.
use Prim.Native.Nat.{◌≤◌}
use Rattle.std.specs.Prelude.{◌≡◌}
use Rattle.std.proofs.Common.{arith}
use Rattle.model.specs.Jobs.{Table, jobs, job_limit}
use Rattle.model.specs.Rival.{pairs_of, singles_of}
use Rattle.model.specs.Planning.{partners, singles}
use Rattle.matching.specs.Partners.{jobs_counted, our_pairs, our_pairs_length}
use Rattle.matching.specs.Singles.{singles_and_pairs}

-- our singles are the jobs that the partner buffer leaves in no pair
pub our_singles : (tb : Table) → jobs tb ≤ job_limit → singles tb ≡ singles_of tb (pairs_of (jobs tb) (partners tb))
our_singles tb small = omega (arith, jobs_counted tb, our_pairs_length tb small, singles_and_pairs tb (pairs_of (jobs tb) (partners tb)) (our_pairs tb small))
