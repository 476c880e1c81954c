-- Laws of the gaps: one place more.
use Rattle.std.specs.Prelude.{ℕ, ◌+◌, ◌-◌, ◌<◌, ◌≤◌, ◌≡◌, refl, List, length, get_or, set, replicate}
use Rattle.std.proofs.Common.{arith, length-set, get_or-set_same, get_or-set_other}
use Rattle.std.proofs.Math.Decide.{ℕ_discrete}
use Rattle.std.proofs.lemmas.List.{length-replicate, get_or-replicate}
use Rattle.model.specs.Jobs.{window_limit}
use Rattle.schedule.specs.InWork.{window_in}
use Rattle.gaps.specs.Gaps.{GapTo, GapsFrom}

-- the nearest place of each window, of those from p on: none of them comes before it
pub record NearestFrom (n : ℕ) (work : List ℕ) (p : ℕ) (nearest : List ℕ) : Type 0 where
  pub counted : length nearest ≡ window_limit
  pub inside : (v : ℕ) → v < window_limit → get_or nearest v 0 ≤ n - 1
  pub first : (q : ℕ) → p ≤ q → q < n → get_or nearest (window_in work q) 0 ≤ q

module _ (n : ℕ) (work : List ℕ) where
  pub gaps_none : (p : ℕ) (gaps : List ℕ) → n ≤ p → length gaps ≡ n → GapsFrom n work p gaps
  gaps_none p gaps h e = record { counted = e; inside = λ i l k. absurd (omega arith); first = λ i q l k m. absurd (omega arith) }

  pub nearest_none : (p : ℕ) → n ≤ p → NearestFrom n work p (replicate window_limit 0)
  nearest_none p h = record { counted = length-replicate {A = ℕ} window_limit 0; inside = λ v l. rw (get_or-replicate {A = ℕ} window_limit v 0 0 l) (omega arith); first = λ q l k. absurd (omega arith) }

  -- one place further up
  module _ (p : ℕ) (h : p < n) (known : window_in work p < window_limit) (nearest : List ℕ) (near : NearestFrom n work (p + 1) nearest) where
    pub nearest_more : NearestFrom n work p (set nearest (window_in work p) p)
    nearest_more =
        record {
          counted = rw length-set near.counted;
          inside = λ v l. elim (ℕ_discrete v (window_in work p)) [
            | yes own ↦ rw (own, get_or-set_same nearest (window_in work p) p 0 (omega (arith, near.counted))) (omega arith)
            | no other ↦ rw (get_or-set_other nearest (window_in work p) v p 0 other) (near.inside v l)
          ];
          first = λ q l k. elim (ℕ_discrete (window_in work q) (window_in work p)) [
            | yes own ↦ rw (own, get_or-set_same nearest (window_in work p) p 0 (omega (arith, near.counted))) l
            | no other ↦ rw (get_or-set_other nearest (window_in work p) (window_in work q) p 0 other) (near.first q (further q l other) k)
          ];
        }
      where
        further : (q : ℕ) → p ≤ q → (window_in work q ≡ window_in work p → ⊥) → p + 1 ≤ q
        further q l other = elim (ℕ_discrete q p) [
          | yes same ↦ absurd (other (rw same refl))
          | no apart ↦ omega arith
        ]

    module _ (gaps : List ℕ) (g : GapsFrom n work (p + 1) gaps) (gap : ℕ) (to : GapTo p (get_or nearest (window_in work p) 0) gap) where
      pub gaps_more : GapsFrom n work p (set gaps p gap)
      gaps_more =
          record {
            counted = rw length-set g.counted;
            inside = λ i l k. elim (ℕ_discrete i p) [
              | yes own ↦ rw (own, get_or-set_same gaps p gap 0 (omega (arith, g.counted))) (omega (arith, to.within (n - 1) (omega arith) (near.inside (window_in work p) known)))
              | no other ↦ rw (get_or-set_other gaps p i gap 0 other) (g.inside i (omega arith) k)
            ];
            first = λ i q l k m e. elim (ℕ_discrete i p) [
              | yes own ↦
                  let same : window_in work p ≡ window_in work q = rw own at e in
                  rw (own, get_or-set_same gaps p gap 0 (omega (arith, g.counted))) (to.within q (omega arith) (rw same (near.first q (omega arith) m)))
              | no other ↦ rw (get_or-set_other gaps p i gap 0 other) (g.first i q (omega arith) k m e)
            ];
          }
