-- No rival takes fewer passes than ours (document 01, "Rival plans and the cut"): with all jobs in front of the cut it has no more pairs.
use Rattle.std.specs.Prelude.{ℕ, ◌+◌, ◌≤◌, ◌<◌, ◌≡◌, refl, true, List, length}
use Rattle.std.proofs.Common.{arith}
use borrow.Author.Tests.{lt-ltb}
use Rattle.model.specs.Jobs.{Table, jobs, job_limit}
use Rattle.model.specs.Order.{place}
use Rattle.model.specs.Rival.{Pair, Rules, Rival, in_front, pairs_in_front, passes_of}
use Rattle.model.specs.Planning.{pairs, singles}
use Rattle.laws.specs.Lists.{all_imply}
use Rattle.laws.specs.Counting.{count_all}
use Rattle.tree_laws.specs.WellFormed.{Tree}
use Rattle.tree_laws.specs.Sharing.{Downward}
use Rattle.matching.specs.RunningOrder.{place_lt}
use Rattle.matching.specs.Partners.{jobs_counted, our_pairs_all}
use Rattle.matching.specs.Demand.{maximum_at_every_cut}
use Rattle.matching.specs.Singles.{rival_passes}

module _ (tb : Table) (t : Tree tb.parents) (down : (j : ℕ) → j < jobs tb → Downward tb j) (small : jobs tb ≤ job_limit) where
  -- all jobs lie in front of the last cut
  all_in_front : (ps : List Pair) → Rival tb ps → pairs_in_front tb (jobs tb) ps ≡ length ps
  unfolding pairs_in_front in_front
  all_in_front ps rival = count_all (in_front tb (jobs tb)) ps
      (all_imply (Rules tb) (λ (p : Pair). in_front tb (jobs tb) p ≡ true) ps
      (λ p r. rw (lt-ltb (place tb p.one) (jobs tb) (place_lt tb p.one r.one_known), lt-ltb (place tb p.other) (jobs tb) (place_lt tb p.other r.other_known)) refl)
      rival.keep)

  -- document 01: no rival takes fewer passes than the pairs and singles given back
  pub fewest_passes : (ps : List Pair) → Rival tb ps → pairs tb + singles tb ≤ passes_of tb ps
  fewest_passes ps rival = omega (
    arith,
    all_in_front ps rival,
    maximum_at_every_cut tb t down small ps rival (jobs tb),
    our_pairs_all tb small,
    rival_passes tb ps rival,
    jobs_counted tb,
  )
