-- The jobs in no pair of a rival plan, and its passes (document 01, "Rival plans and the cut"). Each pair takes two jobs that no other pair has, so the singles are what is
-- left of M after two for each pair.
use Prim.Native.Nat.{ℕ, suc, ◌+◌, ◌*◌, ◌<◌}
use Rattle.std.specs.Prelude.{◌≡◌, refl, ◌≢◌, Bool, true, false, not, ◌||◌, List, [], ◌∷◌, length, eqb}
use Rattle.std.proofs.Common.{sym, ◌∙◌, arith}
use Rattle.std.proofs.Math.Path.{ap}
use Rattle.std.proofs.Math.Bool.{cond, or-false}
use borrow.Author.Tests.{eq-eqb, ne_eqb}
use Rattle.model.specs.Lists.{numbers, count_where, any_of, All, AllPairs}
use Rattle.model.specs.Jobs.{Table, jobs}
use Rattle.model.specs.Rival.{Pair, NoCommonJob, Rules, Rival, in_pair, singles_of, passes_of}
use Rattle.laws.specs.Numbers.{mem_numbers, numbers_distinct, numbers_length}
use Rattle.laws.specs.Lists.{all_imply}
use Rattle.laws.specs.Counting.{count_at, count_length_all}
use Rattle.matching.specs.Matchings.{apart_paired}

-- the job is neither of the pair
abbrev Outside : ℕ → Pair → Type 0
Outside j p = (j ≢ p.one) × (j ≢ p.other)

-- a job that is in none of the pairs
abbrev alone : List Pair → ℕ → Bool
alone ps j = not (in_pair ps j)

-- and is not s either
abbrev spared : List Pair → ℕ → ℕ → Bool
spared ps s j = not (eqb j s || in_pair ps j)

-- a job outside every pair stands in none
pub outside_alone : (ps : List Pair) (j : ℕ) → All (Outside j) ps → in_pair ps j ≡ false
unfolding in_pair any_of
outside_alone [] j a = refl
outside_alone (p ∷ ps) j a = apart_paired p ps j a.0.0 a.0.1 ∙ outside_alone ps j a.1

module _ (p : Pair) (ps : List Pair) (apart : All (NoCommonJob p) ps) where
  -- the two of a pair stand in no pair that has no job in common with it
  one_alone : in_pair ps p.one ≡ false
  one_alone = outside_alone ps p.one (all_imply (NoCommonJob p) (Outside p.one) ps (λ q d. (d.one_one, d.one_other)) apart)

  other_alone : in_pair ps p.other ≡ false
  other_alone = outside_alone ps p.other (all_imply (NoCommonJob p) (Outside p.other) ps (λ q d. (d.other_one, d.other_other)) apart)

  module _ (n : ℕ) (one_known : p.one < n) (other_known : p.other < n) (differ : p.one ≢ p.other) where
    -- one of the pair is one less alone
    one_taken : count_where (alone ps) (numbers n) ≡ suc (count_where (spared ps p.one) (numbers n))
    one_taken =
        let left : ℕ = count_where (spared ps p.one) (numbers n) in
        count_at (alone ps) (spared ps p.one) (numbers_distinct n) (mem_numbers p.one n one_known)
        (rw (eq-eqb p.one p.one refl) refl)
        (λ i h. rw (ne_eqb i p.one h) refl)
        ∙ ap (λ (b : Bool). cond (not b) (suc left) left) one_alone

    -- the other is not the one, so it is still alone
    other_spared : spared ps p.one p.other ≡ true
    other_spared = rw (ne_eqb p.other p.one (λ e. differ (sym e)), other_alone) refl

    -- and is one less again
    other_taken : count_where (spared ps p.one) (numbers n) ≡ suc (count_where (alone (p ∷ ps)) (numbers n))
    unfolding in_pair any_of
    other_taken =
        let left : ℕ = count_where (alone (p ∷ ps)) (numbers n) in
        count_at (spared ps p.one) (alone (p ∷ ps)) (numbers_distinct n) (mem_numbers p.other n other_known)
        (rw (ne_eqb p.other p.one (λ e. differ (sym e)), eq-eqb p.other p.other refl) refl)
        (λ i h. rw (ne_eqb i p.other h, or-false) refl)
        ∙ ap (λ (b : Bool). cond b (suc left) left) other_spared

-- without pairs all are alone
none_taken : (n : ℕ) → count_where (alone []) (numbers n) ≡ n
unfolding in_pair any_of
none_taken n = count_length_all (numbers n) ∙ numbers_length n

-- two for each pair, and the jobs in no pair: all of them
pub singles_and_pairs : (tb : Table) (ps : List Pair) → Rival tb ps → singles_of tb ps + 2 * length ps ≡ jobs tb
unfolding singles_of
singles_and_pairs tb ps rival = counted ps rival.keep rival.once
  where
    counted : (ps : List Pair) → All (Rules tb) ps → AllPairs NoCommonJob ps → count_where (alone ps) (numbers (jobs tb)) + 2 * length ps ≡ jobs tb
    counted [] keep once = omega (arith, none_taken (jobs tb))
    counted (p ∷ ps) keep once =
        let r : Rules tb p = keep.0 in
        omega (
          arith,
          one_taken p ps once.0 (jobs tb) r.one_known r.other_known r.differ,
          other_taken p ps once.0 (jobs tb) r.one_known r.other_known r.differ,
          counted ps keep.1 once.1,
        )

-- document 01: the passes of a plan are M less its pairs
pub rival_passes : (tb : Table) (ps : List Pair) → Rival tb ps → passes_of tb ps + length ps ≡ jobs tb
unfolding passes_of
rival_passes tb ps rival = omega (arith, singles_and_pairs tb ps rival)
