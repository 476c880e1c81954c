-- The digits that the bytes stand for, one after the other.
use Rattle.std.specs.Prelude.{ℕ, suc, ◌+◌, ◌-◌, ◌*◌, ◌^◌, ◌/◌, ◌%◌, ◌<◌, ◌≡◌, refl, List, map, length, take, set, get_or}
use Rattle.std.proofs.Common.{ap, sym, ◌∙◌, take-suc-set, pow-add, arith}
use Rattle.std.proofs.Math.Nat.{div-div-eq-div-mul}
use Rattle.model.specs.Lists.{numbers, numbers_from}
use Rattle.model.specs.Output.{digit, hex}
use Rattle.laws.specs.Numbers.{numbers_at}
use Rattle.lines.specs.Writing.{digit_bytes}

-- they are the digits, one by one
digits_are : digit_bytes ≡ map digit (numbers 16)
unfolding digit numbers numbers_from
digits_are = refl

digit_at : (d : ℕ) → d < 16 → get_or digit_bytes d 0 ≡ digit d
digit_at d h = ap (λ (l : List ℕ). get_or l d 0) digits_are ∙ numbers_at digit 16 d 0 h

-- four bits less are shifted out for each digit that stands behind
shifted : (v j k : ℕ) → j + 1 ≡ k → v / 2 ^ (4 * k) ≡ v / 2 ^ (4 * j) / 16
shifted v j k e =
    let exponent : 4 * k ≡ 4 * j + 4 = omega arith in
    rw (exponent, pow-add 2 (4 * j) 4) (sym (div-div-eq-div-mul v (2 ^ (4 * j)) 16))

-- one digit more
pub digit_more : (v n k : ℕ) (ds : List ℕ) → k < n → k < length ds → take k ds ≡ hex k (v / 2 ^ (4 * (n - k))) → take (suc k) (set ds k (get_or digit_bytes (v / 2 ^ (4 * (n - 1 - k)) % 16) 0)) ≡ hex (suc k) (v / 2 ^ (4 * (n - suc k)))
unfolding hex
digit_more v n k ds h l e =
    let here : n - 1 - k ≡ n - suc k = omega arith in
    let one : n - suc k + 1 ≡ n - k = omega arith in
    let last : get_or digit_bytes (v / 2 ^ (4 * (n - suc k)) % 16) 0 ≡ digit (v / 2 ^ (4 * (n - suc k)) % 16) = digit_at (v / 2 ^ (4 * (n - suc k)) % 16) (omega arith) in
    rw (here, take-suc-set ds k (get_or digit_bytes (v / 2 ^ (4 * (n - suc k)) % 16) 0) l, e, last, shifted v (n - suc k) (n - k) one) refl
