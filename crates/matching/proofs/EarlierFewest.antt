-- Any plan that gives the earlier job the partner as ours does (document 02, 2026-14) pairs the same jobs, and so makes as many passes.
use Prim.Native.Nat.{ℕ, ◌≤◌, ◌<◌}
use Rattle.std.specs.Prelude.{◌≡◌}
use Rattle.std.proofs.Common.{◌∙◌, arith}
use Rattle.std.proofs.Math.Path.{ap}
use Rattle.std.proofs.Math.Logic.{⊎_elim}
use Rattle.std.proofs.Math.Bool.{not}
use Rattle.std.proofs.Math.Option.{none, some}
use mathlib.Core.List.{List}
use Rattle.model.specs.Lists.{numbers}
use Rattle.model.specs.Jobs.{Table, jobs, job_limit}
use Rattle.model.specs.Order.{running_order}
use Rattle.model.specs.Rival.{Pair, Rival, pairs_of, in_pair, singles_of, passes_of, paired_in_one, first_difference, EarlierPaired}
use Rattle.model.specs.Planning.{partners}
use Rattle.laws.specs.Booleans.{one_answer, xor_true, xor_false}
use Rattle.laws.specs.Lists.{mem_all, found_or_none, find_some, find_none}
use Rattle.laws.specs.Numbers.{numbers_mem}
use Rattle.laws.specs.Counting.{count_agree}
use Rattle.tree_laws.specs.WellFormed.{Tree}
use Rattle.tree_laws.specs.Sharing.{Downward}
use Rattle.matching.specs.RunningOrder.{mem_running}
use Rattle.matching.specs.Partners.{our_pairs}
use Rattle.matching.specs.Singles.{singles_and_pairs, rival_passes}
use Rattle.matching.specs.EarlierJobs.{difference_symmetric, ours_earlier}
use Rattle.matching.proofs.OurPasses.{our_passes}
use Rattle.matching.proofs.FewestPasses.{fewest_passes}

module _ (tb : Table) (t : Tree tb.parents) (down : (j : ℕ) → j < jobs tb → Downward tb j) (small : jobs tb ≤ job_limit) where
  abbrev our : List Pair
  our = pairs_of (jobs tb) (partners tb)

  module _ (plan : List Pair) (r : Rival tb plan) (earlier_paired : EarlierPaired tb plan) where
    -- a plan of which the same holds pairs the same jobs
    pub same_paired : (j : ℕ) → j < jobs tb → in_pair our j ≡ in_pair plan j
    unfolding first_difference paired_in_one
    same_paired j h = ⊎_elim
        (λ (f : (d : ℕ) × (first_difference tb plan our ≡ some d)).
        let d : ℕ = f.0 in
        let differs = (find_some (paired_in_one plan our) (running_order tb) f.1).1 in
        absurd (one_answer (ours_earlier tb t down small plan r d (difference_symmetric tb our plan ∙ f.1))
        (xor_true (in_pair plan d) (in_pair our d) differs ∙ ap not (earlier_paired our (our_pairs tb small) d f.1))))
        (λ (e : first_difference tb plan our ≡ none). xor_false (in_pair plan j) (in_pair our j) (find_none (paired_in_one plan our) (mem_running tb j h) e))
        (found_or_none (first_difference tb plan our))

    -- so it has as many singles
    same_singles : singles_of tb our ≡ singles_of tb plan
    unfolding singles_of
    same_singles = count_agree (λ (j : ℕ). not (in_pair our j)) (λ (j : ℕ). not (in_pair plan j)) (numbers (jobs tb))
        (mem_all (λ (j : ℕ). not (in_pair our j) ≡ not (in_pair plan j)) (numbers (jobs tb)) (λ j m. ap not (same_paired j (numbers_mem (jobs tb) m))))

    -- document 02: and no rival makes fewer passes
    pub earlier_fewest : (rival : List Pair) → Rival tb rival → passes_of tb plan ≤ passes_of tb rival
    earlier_fewest rival s = omega (
      arith,
      same_singles,
      singles_and_pairs tb plan r,
      singles_and_pairs tb our (our_pairs tb small),
      rival_passes tb plan r,
      rival_passes tb our (our_pairs tb small),
      our_passes tb small,
      fewest_passes tb t down small rival s,
    )
