-- What a job and its partner share, and the layouts that are handed back for them (document 02, 2026-02).
use Rattle.std.specs.Prelude.{ℕ, ◌≤◌, ◌<◌, ◌≡◌, refl, true}
use Rattle.std.proofs.Common.{◌∙◌, arith, ne_eqb}
use Rattle.model.specs.Tree.{FFFF}
use Rattle.model.specs.Jobs.{Table, jobs, job_limit, highest, shares, highest_shared}
use Rattle.model.specs.Order.{place}
use Rattle.model.specs.Greedy.{passes}
use Rattle.model.specs.Planning.{partner_in, with_partner, upper}
use Rattle.tree_laws.specs.WellFormed.{Tree}
use Rattle.tree_laws.specs.Sharing.{Downward, shares_symmetric}
use Rattle.tree_laws.specs.Shared.{highest_same, highest_shared_lem}
use Rattle.matching.specs.Compatible.{compatible_true}
use Rattle.matching.specs.Partners.{partner_cell, cell_compatible}
use Rattle.matching.specs.RunningOrder.{earlier_depth, place_earlier}

module _ (tb : Table) (t : Tree tb.parents) (down : (j : ℕ) → j < jobs tb → Downward tb j) (few : jobs tb ≤ job_limit) (i j : ℕ) (hi : i < jobs tb) (hj : j < jobs tb) (partner : partner_in (passes tb) i ≡ j) where
  -- what is told of a job and its partner is told of the two
  pub told : (f : ℕ → ℕ → ℕ) → with_partner tb f i ≡ f i j
  told f = rw (partner, ne_eqb j FFFF (λ e. omega arith)) refl

  pub partners_share : shares tb i j ≡ true
  partners_share =
      let held = partner_cell tb i hi ∙ partner in
      (compatible_true tb i j (rw held at (cell_compatible tb few i hi (rw held hj)))).3

  -- the upper layout is the highest of the earlier
  pub upper_earlier : place tb i < place tb j → upper tb i ≡ highest tb i
  unfolding upper
  upper_earlier h = told (highest_shared tb) ∙ highest_shared_lem tb t i j (down i hi) (down j hj) (earlier_depth tb i j (place_earlier tb i j hi hj h)) partners_share

  pub upper_later : place tb j < place tb i → upper tb i ≡ highest tb j
  unfolding upper
  upper_later h =
      told (highest_shared tb)
      ∙ highest_same tb t i j (down i hi) (down j hj)
      ∙ highest_shared_lem tb t j i (down j hj) (down i hi) (earlier_depth tb j i (place_earlier tb j i hj hi h)) (shares_symmetric tb j i ∙ partners_share)
