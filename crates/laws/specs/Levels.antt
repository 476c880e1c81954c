-- The levels of the segment tree (document 01: W = 2 ^ k is the smallest power of two that is at least M and at least 1).
use Rattle.std.specs.Prelude.{ℕ, zero, suc, ◌+◌, ◌<◌, ◌≤◌, ◌^◌, ◌≡◌, refl}
use Rattle.std.proofs.Common.{pow-suc, arith, le-leb}
use Rattle.std.proofs.Math.Decide.{dec_le, ℕ_discrete}
use Rattle.std.proofs.lemmas.Bool.{lt-leb}
use Rattle.model.specs.Visits.{levels, levels_from}

-- a power of two is larger than its exponent
pub below_power : (k : ℕ) → k < 2 ^ k
below_power zero = omega arith
below_power (suc k) = rw (pow-suc 2 k) (omega (arith, below_power k))

-- enough levels: the search stops
pub levels_stop : (n k m : ℕ) → m ≤ 2 ^ k → levels_from n k m ≡ k
unfolding levels_from
levels_stop zero k m h = refl
levels_stop (suc n) k m h = rw (le-leb m (2 ^ k) h) refl

-- too few: it goes on with one more
pub levels_go : (n k m : ℕ) → 2 ^ k < m → levels_from (suc n) k m ≡ levels_from n (suc k) m
unfolding levels_from
levels_go n k m h = rw (lt-leb m (2 ^ k) h) refl

wide_from : (n k m : ℕ) → m ≤ n + k → m ≤ 2 ^ levels_from n k m
wide_from zero k m h = rw (levels_stop zero k m (omega (arith, below_power k))) (omega (arith, below_power k))
wide_from (suc n) k m h = elim (dec_le m (2 ^ k)) [
  | yes stop ↦ rw (levels_stop (suc n) k m stop) stop
  | no go ↦ rw (levels_go n k m (omega arith)) (wide_from n (suc k) m (omega arith))
]

-- the slots are at least as many as the jobs
pub levels_wide : (m : ℕ) → m ≤ 2 ^ levels m
unfolding levels
levels_wide m = wide_from m 0 m (omega arith)

least_from : (n k m l : ℕ) → k ≤ l → m ≤ 2 ^ l → levels_from n k m ≤ l
least_from zero k m l h p = unfold levels_from in h
least_from (suc n) k m l h p = elim (dec_le m (2 ^ k)) [
  | yes stop ↦ rw (levels_stop (suc n) k m stop) h
  | no go ↦ rw (levels_go n k m (omega arith)) (least_from n (suc k) m l (further go) p)
]
  where
    further : (m ≤ 2 ^ k → ⊥) → suc k ≤ l
    further go = elim (ℕ_discrete k l) [
      | yes same ↦ absurd (go (rw same p))
      | no other ↦ omega arith
    ]

-- and no power of two that has fewer is
pub levels_least : (m l : ℕ) → m ≤ 2 ^ l → levels m ≤ l
unfolding levels
levels_least m l p = least_from m 0 m l (omega arith) p
