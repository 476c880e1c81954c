-- The levels of a segment tree (document 01: W = 2 ^ k is the smallest power of two that is at least M and at least 1): of the row of all shelves, whose width is found by
-- doubling, and of one shelf, told by the digits of its last slot.
use Rattle.std.specs.Prelude.{ℕ, suc, ◌+◌, ◌-◌, ◌*◌, ◌<◌, ◌≤◌, ◌^◌, ◌≡◌, refl}
use Rattle.std.proofs.Common.{ap, ◌∙◌, ⊎_elim, pow-suc, eq-zero-or-pos, arith, pow_mono, pow_pos}
use Rattle.std.proofs.Math.Decide.{dec_lt}
use Rattle.std.specs.Int.Count.{count_leading_zeros, leading_of_zero}
use Rattle.std.proofs.lemmas.Nat.{leading_top}
use Rattle.model.specs.Jobs.{job_limit}
use Rattle.model.specs.Visits.{levels}
use Rattle.laws.specs.Levels.{levels_wide, levels_least}
use Rattle.sweep_laws.specs.VisitCount.{Countable}

-- enough levels, and none fewer
levels_are : (m k : ℕ) → m ≤ 2 ^ k → ((l : ℕ) → m ≤ 2 ^ l → k ≤ l) → k ≡ levels m
levels_are m k wide least = omega (arith, least (levels m) (levels_wide m), levels_least m k wide)

-- a lesser power of two has fewer levels
fewer : (k l : ℕ) → 2 ^ k < 2 ^ l → k < l
fewer k l h = elim (dec_lt k l) [
  | yes less ↦ less
  | no more ↦ absurd (omega (arith, pow_mono {i = l} {j = k} (omega arith)))
]

-- ---- the row

-- the shape of a tree for m places
pub record ShapeFor (m kept width : ℕ) : Type 0 where
  pub width_is : width ≡ 2 ^ levels m
  pub kept_some : 1 ≤ kept
  pub kept_within : kept ≤ width

-- on the way there: a power of two, no lesser one of which holds them
pub record Doubled (m width : ℕ) : Type 0 where
  pub level : ℕ
  pub width_is : width ≡ 2 ^ level
  pub least : (l : ℕ) → m ≤ 2 ^ l → level ≤ l

pub doubled_none : (m : ℕ) → Doubled m 1
doubled_none m = record { level = 0; width_is = refl; least = λ l h. omega arith }

module _ (m width : ℕ) (d : Doubled m width) where
  pub width_some : 1 ≤ width
  width_some = rw d.width_is (pow_pos d.level)

  pub doubled_more : width < m → Doubled m (width * 2)
  doubled_more h =
      record {
        level = suc d.level;
        width_is = rw (pow-suc 2 d.level) (ap (λ (w : ℕ). w * 2) d.width_is);
        least = λ l top. fewer d.level l (omega (arith, d.width_is));
      }

  pub doubled_enough : m ≤ width → width ≡ 2 ^ levels m
  doubled_enough h = d.width_is ∙ ap (λ (k : ℕ). 2 ^ k) (levels_are m d.level (rw (← d.width_is) h) d.least)

-- ---- a shelf

-- it has as many levels as its last slot has digits
pub levels_digits : (m : ℕ) → 1 ≤ m → m < 2 ^ 64 → 64 - count_leading_zeros 64 (m - 1) ≡ levels m
levels_digits m some fits = ⊎_elim
    (λ (one : m - 1 ≡ 0). rw (one, leading_of_zero 64) (levels_are m 0 (omega arith) (λ l h. omega arith)))
    (λ (more : 0 < m - 1).
    let t = leading_top 64 (m - 1) more (omega arith) in
    let digits : 64 - count_leading_zeros 64 (m - 1) ≡ suc t.0 = omega (arith, t.1) in
    rw digits (levels_are m (suc t.0) (omega (arith, t.3)) (λ l h. fewer t.0 l (omega (arith, t.2)))))
    (eq-zero-or-pos (m - 1))

-- the visits of a span of it, which is not empty, can be counted
pub shelf_countable : (base size from to : ℕ) → size ≤ job_limit → base ≤ from → from < to → to ≤ base + size → Countable (levels size) (from - base) (to - base)
shelf_countable base size from to few begins some ends =
    record {
      few = omega (arith, levels_least size 12 few);
      some = omega arith;
      inside = omega (arith, levels_wide size);
    }
