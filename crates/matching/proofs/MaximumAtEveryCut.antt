-- The plan that no rival beats at any cut (document 01, "Rival plans and the cut"), as it stands in the first M cells of a partner buffer.
use Rattle.std.specs.Prelude.{ℕ, ◌≤◌, ◌<◌, List, ◌++◌}
use Rattle.std.proofs.Common.{sym, ◌∙◌, arith}
use Rattle.model.specs.Jobs.{Table, jobs, job_limit}
use Rattle.model.specs.Rival.{MaximumAtEveryCut}
use Rattle.model.specs.Planning.{partners, pairs, singles}
use Rattle.tree_laws.specs.WellFormed.{Tree}
use Rattle.tree_laws.specs.Sharing.{Downward}
use Rattle.matching.specs.Partners.{jobs_counted, partner_apart, partners_symmetric, our_pairs, our_pairs_all}
use Rattle.matching.specs.Demand.{maximum_at_every_cut}
use Rattle.matching.specs.Singles.{rival_passes}
use Rattle.matching.specs.PartnersFront.{partners_front, pairs_front}
use Rattle.matching.proofs.OurSingles.{our_singles}
use Rattle.matching.proofs.OurPasses.{our_passes}
use Rattle.matching.proofs.FewestPasses.{fewest_passes}

module _ (tb : Table) (t : Tree tb.parents) (down : (j : ℕ) → j < jobs tb → Downward tb j) (small : jobs tb ≤ job_limit) where
  -- document 01: our plan keeps the rules, no rival has more pairs in front of any cut, and its singles and passes are as counted
  pub our_plan_maximum : (rest : List ℕ) → MaximumAtEveryCut tb (partners tb ++ rest) (pairs tb) (singles tb)
  our_plan_maximum rest = record {
    apart = λ i h e. partner_apart tb small i h (sym (partners_front tb rest i h) ∙ e);
    back = λ i j h k e. partners_front tb rest j k ∙ partners_symmetric tb small i j h k (sym (partners_front tb rest i h) ∙ e);
    keeps_rules = rw (pairs_front tb rest) (our_pairs tb small);
    every_cut = λ rival r m h. rw (pairs_front tb rest) (maximum_at_every_cut tb t down small rival r m);
    all_in_front = rw (pairs_front tb rest) (our_pairs_all tb small);
    singles_alone = rw (pairs_front tb rest) (our_singles tb small);
    singles_are = omega (arith, jobs_counted tb);
    passes_are = rival_passes tb;
    our_passes = rw (pairs_front tb rest) (our_passes tb small);
    fewest = fewest_passes tb t down small;
  }
