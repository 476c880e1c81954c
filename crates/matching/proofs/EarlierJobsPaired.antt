-- The earlier job gets the partner (document 02, 2026-14), of the plan as it stands in the first M cells of a partner buffer.
use Prim.Native.Nat.{ℕ, ◌≤◌, ◌<◌}
use mathlib.Core.List.{List, ◌++◌}
use Rattle.model.specs.Jobs.{Table, jobs, job_limit}
use Rattle.model.specs.Rival.{EarlierJobsPaired}
use Rattle.model.specs.Planning.{partners}
use Rattle.tree_laws.specs.WellFormed.{Tree}
use Rattle.tree_laws.specs.Sharing.{Downward}
use Rattle.matching.specs.PartnersFront.{pairs_front}
use Rattle.matching.specs.EarlierJobs.{ours_earlier}
use Rattle.matching.proofs.EarlierFewest.{earlier_fewest}

module _ (tb : Table) (t : Tree tb.parents) (down : (j : ℕ) → j < jobs tb → Downward tb j) (small : jobs tb ≤ job_limit) where
  -- document 02: both, whatever stands behind the first M cells
  pub earlier_jobs_paired : (rest : List ℕ) → EarlierJobsPaired tb (partners tb ++ rest)
  earlier_jobs_paired rest = record { ours = rw (pairs_front tb rest) (ours_earlier tb t down small); fewest = earlier_fewest tb t down small }
