-- The levels on which both ends of a span lie strictly inside one cell, told by their digits.
use Prim.Native.Nat.{ℕ, zero, suc, ◌+◌, ◌-◌, ◌*◌, ◌/◌, ◌%◌, ◌^◌, ◌<◌, ◌≤◌, min, max}
use Rattle.std.specs.Prelude.{◌≡◌, refl, ◌⊎◌}
use Rattle.std.proofs.Common.{sym, ap, ◌∙◌, inl, inr, eq-zero-or-pos, arith, pow_mono, pow_pos}
use Rattle.std.proofs.Math.Logic.{⊎_elim}
use Rattle.std.proofs.Math.Nat.{two-pow-succ, sub-zero}
use Rattle.std.proofs.Math.Decide.{ℕ_discrete, dec_le, dec_lt}
use Rattle.std.proofs.Math.Arith.{bin_ind}
use Rattle.std.specs.Int.Bits.{bit_xor, xor_step, differ}
use Rattle.std.proofs.lemmas.Nat.{xor_lt}
use Rattle.std.specs.Int.Count.{count_leading_zeros, count_trailing_zeros, leading_top}
use Rattle.model.specs.Visits.{visits}
use Rattle.sweep_laws.specs.VisitCount.{levels_inside, levels_shared, levels_apart, Countable}
use Rattle.sweep_laws.specs.VisitLevels.{up, down, zeros_even, zeros_odd, zeros_within, visits_met}

-- ---- digits that differ

differ_zero : (x y : ℕ) → differ x y ≡ 0 → x ≡ y
differ_zero zero y e = sym e
differ_zero (suc x) zero e = absurd (omega arith)
differ_zero (suc x) (suc y) e = ap suc (differ_zero x y e)

differ_small : (x y : ℕ) → x < 2 → y < 2 → differ x y < 2
differ_small zero y a b = b
differ_small (suc x) zero a b = a
differ_small (suc zero) (suc zero) a b = omega arith
differ_small (suc zero) (suc (suc y)) a b = absurd (omega arith)
differ_small (suc (suc x)) (suc y) a b = absurd (omega arith)

xor_zero : (x y : ℕ) → bit_xor x y ≡ 0 → x ≡ y
xor_zero = bin_ind (λ (x : ℕ). (y : ℕ) → bit_xor x y ≡ 0 → x ≡ y) (λ y e. sym e)
    (λ x ih y e.
    let s : bit_xor (x / 2) (y / 2) * 2 + differ (x % 2) (y % 2) ≡ 0 = sym (xor_step x y) ∙ e in
    let high : x / 2 ≡ y / 2 = ih (y / 2) (omega arith) in
    let low : x % 2 ≡ y % 2 = differ_zero (x % 2) (y % 2) (omega arith) in
    omega arith)

down_inner : (j x : ℕ) → down (suc j) x ≡ down j (x / 2)
unfolding down
down_inner zero x = refl
down_inner (suc j) x = ap (λ (n : ℕ). n / 2) (down_inner j x)

-- in cells of the level of the highest digit in which they differ, x lies in one with an even number and y in the next
highest_digit : (d x y : ℕ) → x ≤ y → 2 ^ d ≤ bit_xor x y → bit_xor x y < 2 ^ suc d → (down d y ≡ down d x + 1) × (down d x % 2 ≡ 0)
unfolding down
highest_digit zero x y order some less =
    let s : bit_xor x y ≡ bit_xor (x / 2) (y / 2) * 2 + differ (x % 2) (y % 2) = xor_step x y in
    let same : x / 2 ≡ y / 2 = xor_zero (x / 2) (y / 2) (omega arith) in
    let apart : (x % 2 ≡ y % 2 → ⊥) = λ e. let z : x ≡ y = omega arith in omega (arith, s, xor_self_zero (x % 2) (y % 2) e) in
    (omega arith, omega arith)
  where
    xor_self_zero : (a b : ℕ) → a ≡ b → differ a b ≡ 0
    xor_self_zero zero b e = sym e
    xor_self_zero (suc a) zero e = absurd (omega arith)
    xor_self_zero (suc a) (suc b) e = xor_self_zero a b (omega arith)
highest_digit (suc d) x y order some less =
    let s : bit_xor x y ≡ bit_xor (x / 2) (y / 2) * 2 + differ (x % 2) (y % 2) = xor_step x y in
    let small : differ (x % 2) (y % 2) < 2 = differ_small (x % 2) (y % 2) (omega arith) (omega arith) in
    let one : 2 ^ suc d ≡ 2 ^ d + 2 ^ d = two-pow-succ d in
    let two : 2 ^ suc (suc d) ≡ 2 ^ suc d + 2 ^ suc d = two-pow-succ (suc d) in
    let half = highest_digit d (x / 2) (y / 2) (omega arith) (omega arith) (omega arith) in
    rw (down_inner d x, down_inner d y) half

-- ---- trailing zeros and rounding

-- x is a border of the cells of level j, and the trailing zeros of their number are left; or it lies strictly inside one, and its trailing zeros are fewer
abbrev Border : ℕ → ℕ → ℕ → Type 0
Border i j x = (up j x ≡ down j x) × (count_trailing_zeros (j + i) x ≡ j + count_trailing_zeros i (down j x))

abbrev Inside : ℕ → ℕ → ℕ → Type 0
Inside i j x = (up j x ≡ down j x + 1) × (count_trailing_zeros (j + i) x < j)

border_or_inside : (i j x : ℕ) → Border i j x ⊎ Inside i j x
unfolding up down
border_or_inside i zero x = inl (refl, let z : 0 + i ≡ i = omega arith in rw z (omega arith))
border_or_inside i (suc j) x =
    let later : suc j + i ≡ j + suc i = omega arith in
    rw later (⊎_elim
    (λ (b : Border (suc i) j x). elim (ℕ_discrete (down j x % 2) 0) [
      | yes even ↦ inl (omega (arith, b.0), omega (arith, b.1, zeros_even i (down j x) even))
      | no odd ↦ inr (omega (arith, b.0), omega (arith, b.1, zeros_odd i (down j x) (omega arith)))
    ])
    (λ (b : Inside (suc i) j x). inr (omega (arith, b.0), omega (arith, b.1)))
    (border_or_inside (suc i) j x))

one_more : (d n : ℕ) → d + suc n ≡ suc d + n
one_more d n = omega arith

-- the levels past all of z zeros, d + 1 of which lie below
past_zeros : (k d e y z : ℕ) → k ≤ 64 → d + e ≡ 63 → z ≡ suc d + min e y → k - suc d - y ≡ k - max d z
past_zeros k d e y z few all is =
    let later : max d z ≡ z = omega arith in
    rw later (omega arith)

-- ---- where the ends meet

pub record Met (k left right : ℕ) : Type 0 where
  pub level : ℕ
  pub node : ℕ
  pub left_up : node ≡ up level left
  pub right_down : node ≡ down level right
  pub shared : levels_inside level k node ≡ levels_shared k left right

module _ (k left right : ℕ) (order : left < right) (fits : right < 2 ^ 64) (few : k ≤ 64) where
  some : 0 < bit_xor left right
  some = ⊎_elim
      (λ (e : bit_xor left right ≡ 0). absurd (let same : left ≡ right = xor_zero left right e in omega arith))
      (λ (h : 0 < bit_xor left right). h)
      (eq-zero-or-pos (bit_xor left right))

  -- the highest of 64 digits is digit 63
  pub digit_known : count_leading_zeros 64 (bit_xor left right) ≤ 63
  digit_known = let t = leading_top 64 (bit_xor left right) some (xor_lt 64 left right (omega arith) fits) in omega (arith, t.1)

  pub met : Met k left right
  unfolding levels_inside levels_shared up down
  met =
      let t = leading_top 64 (bit_xor left right) some (xor_lt 64 left right (omega arith) fits) in
      let d : ℕ = t.0 in
      let digit : 63 - count_leading_zeros 64 (bit_xor left right) ≡ d = omega (arith, t.1) in
      let high = highest_digit d left right (omega arith) t.2 t.3 in
      let all : d + suc (63 - d) ≡ 64 = omega (arith, t.1) in
      ⊎_elim
      (λ (b : Border (suc (63 - d)) d left).
      let zeros : count_trailing_zeros 64 left ≡ d + count_trailing_zeros (suc (63 - d)) (down d left) = rw all at b.1 in
      record {
        level = suc d;
        node = down (suc d) right;
        left_up = omega (arith, b.0, high.0, high.1);
        right_down = refl;
        shared =
            let half : down (suc d) right ≡ down d left / 2 = omega (arith, high.0, high.1) in
            let more : count_trailing_zeros 64 left ≡ suc d + min (63 - d) (count_trailing_zeros 64 (down d left / 2)) = zeros ∙ rw (zeros_even (63 - d) (down d left) high.1, zeros_within (63 - d) 64 (down d left / 2) (omega arith)) (one_more d (min (63 - d) (count_trailing_zeros 64 (down d left / 2)))) in
            rw (digit, half) (past_zeros k d (63 - d) (count_trailing_zeros 64 (down d left / 2)) (count_trailing_zeros 64 left) few (omega (arith, all)) more);
      })
      (λ (b : Inside (suc (63 - d)) d left).
      let zeros : count_trailing_zeros 64 left < d = rw all at b.1 in
      record {
        level = d;
        node = down d right;
        left_up = omega (arith, b.0, high.0);
        right_down = refl;
        shared = rw digit (omega (arith, zeros, zeros_odd 63 (down d right) (omega (arith, high.0, high.1))));
      })
      (border_or_inside (suc (63 - d)) d left)

-- ---- the visits

-- a number up to 2 ^ k, not 0, has at most k trailing zeros
zeros_small : (i k x : ℕ) → 0 < x → x ≤ 2 ^ k → count_trailing_zeros i x ≤ k
unfolding count_trailing_zeros
zeros_small zero k x some top = omega arith
zeros_small (suc i) zero x some top = let one : x % 2 ≡ 1 = omega arith in rw (zeros_odd i x one) (omega arith)
zeros_small (suc i) (suc k) x some top = elim (ℕ_discrete (x % 2) 0) [
  | yes even ↦ omega (arith, zeros_even i x even, zeros_small i k (x / 2) (omega arith) (omega (arith, two-pow-succ k)))
  | no odd ↦ let one : x % 2 ≡ 1 = omega arith in rw (zeros_odd i x one) (omega arith)
]

-- of the levels above z those above d as well, and the others
levels_parted : (k z d : ℕ) → d ≤ k → k - z ≡ (k - max d z) + (max d (min k z) - min k z)
levels_parted k z d h = elim (dec_le k z) [
  | yes none ↦ let least : min k z ≡ k = omega arith in let most : max d k ≡ k = omega arith in rw (least, most) (omega arith)
  | no some ↦ let least : min k z ≡ z = omega arith in rw least (omega arith)
]

-- the levels with the left end strictly inside a cell: with the right one in the same, and in another
left_levels : (k from to : ℕ) → 63 - count_leading_zeros 64 (bit_xor from to) ≤ k → levels_inside 0 k from ≡ levels_shared k from to + levels_apart k from to
unfolding levels_inside levels_shared levels_apart
left_levels k from to h = rw (sub-zero k) (levels_parted k (count_trailing_zeros 64 from) (63 - count_leading_zeros 64 (bit_xor from to)) h)

pub inside_few : (k x : ℕ) → levels_inside 0 k x ≤ k
unfolding levels_inside
inside_few k x = omega arith

-- the visits of a lookup for a span that is not empty: two for each cell with its right end strictly inside, and two for each with its left one inside and the right
-- one in another cell
pub record VisitsCounted (k from to : ℕ) : Type 0 where
  pub right_zeros : count_trailing_zeros 64 to ≤ k
  pub left_few : levels_apart k from to ≤ k
  pub visits_are : 1 + 2 * (levels_inside 0 k to + levels_apart k from to) ≡ visits k from to

pub visits_counted : (k from to : ℕ) → Countable k from to → VisitsCounted k from to
visits_counted k from to c =
    let one : 2 ^ suc k ≡ 2 ^ k + 2 ^ k = two-pow-succ k in
    let fits : 2 ^ suc k ≤ 2 ^ 64 = pow_mono {i = suc k} {j = 64} (omega (arith, c.few)) in
    let small : to < 2 ^ suc k = omega (arith, c.inside, pow_pos k) in
    let m = met k from to c.some (omega arith) (omega (arith, c.few)) in
    let v = visits_met k from to m.level m.node (omega (arith, c.few)) c.some c.inside m.left_up m.right_down in
    let t = leading_top 64 (bit_xor from to) (some k from to c.some (omega arith) (omega (arith, c.few))) (xor_lt 64 from to (omega (arith, c.some)) (omega arith)) in
    let within : t.0 ≤ k = elim (dec_lt k t.0) [
      | yes more ↦ absurd (omega (arith, pow_mono {i = suc k} {j = t.0} (omega arith), t.2, xor_lt (suc k) from to (omega (arith, c.some)) small))
      | no less ↦ omega arith
    ] in
    let left = left_levels k from to (omega (arith, t.1)) in
    record {
      right_zeros = zeros_small 64 k to (omega (arith, c.some)) c.inside;
      left_few = omega (arith, left, inside_few k from);
      visits_are = omega (arith, left, m.shared, v);
    }
