-- Laws of digits in the shapes that the code asks: one byte, the four digits of a field, the two of a kind.
use Prim.Native.Nat.{ℕ, suc, ◌+◌, ◌-◌, ◌*◌, ◌^◌, ◌<◌, ◌≤◌}
use mathlib.Core.Path.{◌≡◌, refl, sym, ◌∙◌}
use mathlib.Core.Logic.{◌⊎◌, inl, inr, ⊎_elim, ◌≢◌}
use mathlib.Core.Bool.{Bool, true, false, cond, ◌&&◌, true≢false, and-true, and-false, or-false, and-eq-true_iff}
use mathlib.Core.List.{List, [], ◌∷◌}
use native.Mathlib.Omega.{arith}
use native.Mathlib.Nat.{add_assoc}
use native.Mathlib.Numerals.{add-one}
use lib.ListN.{length, get_or, set, take, drop, replicate, length-set, length-replicate, get_or-replicate}
use lib.Seq.{drop-cons, get_or-set_same, get_or-set_other}
use lib.Dec.{eqb, ltb, leb}
use Rattle.std.proofs.Common.{Some, None, Result, Ok, Err}
use Rattle.std.specs.Result.{OkIff, result_ok}
use borrow.Author.Tests.{eqb-true, eqb-false, eq-eqb, ltb-true, leb-true, leb-false, le-leb, lt-leb, lt-ltb, le-ltb}
use Rattle.model.specs.Lists.{all_of}
use Rattle.model.specs.Table.{is_digit, digit_value, number_after, kind_of}
use Rattle.laws.specs.Booleans.{answers, same_test}
use Rattle.frame.specs.Fields.{digit_read, DigitByte, DigitValues, FieldRead, number_at, begins_kind}

-- ---- one byte

-- of the bytes to 57 those from 48 on are digits
digit_to_57 : (b : ℕ) → b ≤ 57 → leb 48 b ≡ is_digit b
unfolding is_digit
digit_to_57 b h = rw (le-leb b 57 h, lt-leb 65 b (omega arith), and-true (leb 48 b), or-false (leb 48 b))

-- of those to 70 those from 65 on
digit_to_70 : (b : ℕ) → 57 < b → b ≤ 70 → leb 65 b ≡ is_digit b
unfolding is_digit
digit_to_70 b g h = rw (lt-leb b 57 g, and-false (leb 48 b), le-leb b 70 h, and-true (leb 65 b))

no_digit_past_70 : (b : ℕ) → 70 < b → false ≡ is_digit b
unfolding is_digit
no_digit_past_70 b h = rw (lt-leb b 57 (omega arith), and-false (leb 48 b), lt-leb b 70 h, and-false (leb 65 b))

-- a digit lies in one of two ranges
data Digit (b : ℕ) : Type 0 where
  low : 48 ≤ b → b ≤ 57 → digit_value b ≡ b - 48 → Digit b
  high : 65 ≤ b → b ≤ 70 → digit_value b ≡ b - 55 → Digit b

digit : (b : ℕ) → is_digit b ≡ true → Digit b
unfolding digit_value
digit b d = go (leb b 57) refl
  where
    past_57 : 57 < b → (t : Bool) → leb b 70 ≡ t → Digit b
    past_57 h true e =
        let to = leb-true b 70 e in
        high (leb-true 65 b (digit_to_70 b h to ∙ d)) to (rw (lt-leb b 57 h))
    past_57 h false e = absurd (true≢false (sym d ∙ sym (no_digit_past_70 b (leb-false b 70 e))))

    go : (t : Bool) → leb b 57 ≡ t → Digit b
    go true e = let to = leb-true b 57 e in low (leb-true 48 b (digit_to_57 b to ∙ d)) to (rw e)
    go false e = past_57 (leb-false b 57 e) (leb b 70) refl

below_16 : (b : ℕ) → is_digit b ≡ true → digit_value b < 16
below_16 b d = go (digit b d)
  where
    go : Digit b → digit_value b < 16
    go (low from to v) = omega arith
    go (high from to v) = omega arith

low_digit : (b : ℕ) → 48 ≤ b → b ≤ 57 → (is_digit b ≡ true) × (digit_value b ≡ b - 48)
unfolding digit_value
low_digit b from to = (sym (digit_to_57 b to) ∙ le-leb 48 b from, rw (le-leb b 57 to))

high_digit : (b : ℕ) → 65 ≤ b → b ≤ 70 → (is_digit b ≡ true) × (digit_value b ≡ b - 55)
unfolding digit_value
high_digit b from to = (sym (digit_to_70 b (omega arith) to) ∙ le-leb 65 b from, rw (lt-leb b 57 (omega arith)))

-- no two digits have one value
digit_once : (a b : ℕ) → is_digit a ≡ true → is_digit b ≡ true → digit_value a ≡ digit_value b → a ≡ b
digit_once a b p q e = go (digit a p) (digit b q)
  where
    go : Digit a → Digit b → a ≡ b
    go (low f t v) (low f' t' v') = omega arith
    go (low f t v) (high f' t' v') = absurd (omega arith)
    go (high f t v) (low f' t' v') = absurd (omega arith)
    go (high f t v) (high f' t' v') = omega arith

-- ---- the table of values

pub low_byte : (d : ℕ) → d < 10 → DigitByte d (48 + d)
low_byte d h =
    let b = low_digit (48 + d) (omega arith) (omega arith) in
    record { inside = omega arith; right = b.0; value = b.1 ∙ omega arith }

pub high_byte : (d : ℕ) → 10 ≤ d → d < 16 → DigitByte d (55 + d)
high_byte d g h =
    let b = high_digit (55 + d) (omega arith) (omega arith) in
    record { inside = omega arith; right = b.0; value = b.1 ∙ omega arith }

-- a byte reads as its value where that is one of the digits below d
abbrev read_below : ℕ → ℕ → ℕ
read_below d b = cond (is_digit b && ltb (digit_value b) d) (digit_value b) 65536

-- the values of the digits below d are set
pub record ValuesBelow (d : ℕ) (values : List ℕ) : Type 0 where
  pub room : length values ≡ 256
  pub value_at : (b : ℕ) → b < 256 → get_or values b 0 ≡ read_below d b

pub values_none : ValuesBelow 0 (replicate 256 65536)
values_none = record { room = length-replicate {A = ℕ} 256 65536; value_at = λ b h. get_or-replicate 256 b 65536 0 h ∙ none b (is_digit b) refl }
  where
    none : (b : ℕ) (t : Bool) → is_digit b ≡ t → 65536 ≡ read_below 0 b
    none b false e = rw e refl
    none b true e = rw (e, le-ltb (digit_value b) 0 (omega arith)) refl

-- a digit other than d is below d exactly where it is below the next
other_digit : (d b : ℕ) (t : Bool) → is_digit b ≡ t → (t ≡ true → digit_value b ≢ d) → read_below d b ≡ read_below (d + 1) b
other_digit d b false e h = rw e refl
other_digit d b true e h = rw (e, same_test (ltb (digit_value b) d) (ltb (digit_value b) (d + 1)) (λ l. lt-ltb (digit_value b) (d + 1) (omega (arith, ltb-true (digit_value b) d l))) (λ l. lt-ltb (digit_value b) d (let apart = h refl in let below = ltb-true (digit_value b) (d + 1) l in omega arith))) refl

pub values_more : (d a : ℕ) (values : List ℕ) → DigitByte d a → ValuesBelow d values → ValuesBelow (d + 1) (set values a d)
values_more d a values by so_far =
    record {
      room = length-set values a d ∙ so_far.room;
      value_at = λ b h. go b h (decide b);
    }
  where
    decide : (b : ℕ) → (a ≡ b) ⊎ (a ≢ b)
    decide b = ⊎_elim (λ e. inl (eqb-true a b e)) (λ e. inr (eqb-false a b e)) (answers (eqb a b))

    go : (b : ℕ) → b < 256 → (a ≡ b) ⊎ (a ≢ b) → get_or (set values a d) b 0 ≡ read_below (d + 1) b
    go b h (inl e) = rw (← e, get_or-set_same values a d 0 (omega (arith, so_far.room, by.inside)), by.right, by.value, lt-ltb d (d + 1) (omega arith)) refl
    go b h (inr n) = get_or-set_other values a b d 0 (λ e. n (sym e)) ∙ so_far.value_at b h ∙ other_digit d b (is_digit b) refl (λ e v. n (digit_once a b by.right e (by.value ∙ sym v)))

pub values_all : (values : List ℕ) → ValuesBelow 16 values → DigitValues values
values_all values so_far = record { room = so_far.room; value_at = λ b h. so_far.value_at b h ∙ go b (is_digit b) refl }
  where
    go : (b : ℕ) (t : Bool) → is_digit b ≡ t → read_below 16 b ≡ digit_read b
    go b false e = rw e refl
    go b true e = rw (e, lt-ltb (digit_value b) 16 (below_16 b e)) refl

-- what a value reads as is small
pub read_small : (b : ℕ) → digit_read b ≤ 65536
read_small b = go (is_digit b) refl
  where
    go : (t : Bool) → is_digit b ≡ t → digit_read b ≤ 65536
    go false e = rw e (omega arith)
    go true e = rw e (omega (arith, below_16 b e))

-- ---- a field

-- the n digits at `at` begin with the byte there
digits_at : (s : List ℕ) (at n : ℕ) → at < length s → take (suc n) (drop at s) ≡ get_or s at 0 ∷ take n (drop (at + 1) s)
digits_at s at n h = rw (drop-cons s at 0, add-one)

two_at : (s : List ℕ) (at : ℕ) → at + 2 ≤ length s → take 2 (drop at s) ≡ get_or s at 0 ∷ get_or s (at + 1) 0 ∷ []
two_at s at h = rw (digits_at s at 1 (omega arith), digits_at s (at + 1) 0 (omega arith))

four_at : (s : List ℕ) (at : ℕ) → at + 4 ≤ length s
    → take 4 (drop at s) ≡ get_or s at 0 ∷ get_or s (at + 1) 0 ∷ get_or s (at + 2) 0 ∷ get_or s (at + 3) 0 ∷ []
four_at s at h =
    rw (digits_at s at 3 (omega arith), digits_at s (at + 1) 2 (omega arith), add_assoc, two_at s (at + 2) (omega arith), add_assoc)

-- four numbers, added up by their places
abbrev pub places : ℕ → ℕ → ℕ → ℕ → ℕ
places a b c d = a * 4096 + b * 256 + c * 16 + d

-- what each byte counts, by whether it is a digit
module _ (a b c d : ℕ) (p q r s : Bool) where
  abbrev counted : ℕ
  counted = places (cond p (digit_value a) 65536) (cond q (digit_value b) 65536) (cond r (digit_value c) 65536) (cond s (digit_value d) 65536)

  abbrev Tells : Type 0
  Tells = (ltb counted 65536 ≡ (p && (q && (r && (s && true))))) × (counted < 65536 → counted ≡ number_after 0 (a ∷ b ∷ c ∷ d ∷ []))

tells : (a b c d : ℕ) (p q r s : Bool) → is_digit a ≡ p → is_digit b ≡ q → is_digit c ≡ r → is_digit d ≡ s → Tells a b c d p q r s
unfolding number_after
tells a b c d false q r s e f g h = omega (arith, le-ltb)
tells a b c d true false r s e f g h = omega (arith, le-ltb)
tells a b c d true true false s e f g h = omega (arith, le-ltb)
tells a b c d true true true false e f g h = omega (arith, le-ltb)
tells a b c d true true true true e f g h =
    omega (arith, lt-ltb, below_16 a e, below_16 b f, below_16 c g, below_16 d h)

pub field_read : (s : List ℕ) (at : ℕ) → at + 4 ≤ length s
    → FieldRead 4 s at
    (places (digit_read (get_or s at 0)) (digit_read (get_or s (at + 1) 0)) (digit_read (get_or s (at + 2) 0)) (digit_read (get_or s (at + 3) 0)))
unfolding all_of
field_read s at h =
    let t = tells (get_or s at 0) (get_or s (at + 1) 0) (get_or s (at + 2) 0) (get_or s (at + 3) 0) _ _ _ _ refl refl refl refl in
    record { tells = rw (four_at s at h) t.0; value = rw (four_at s at h) t.1 }

-- the same of two bytes
module _ (a b : ℕ) (p q : Bool) where
  abbrev counted_two : ℕ
  counted_two = cond p (digit_value a) 65536 * 16 + cond q (digit_value b) 65536

  abbrev TellsTwo : Type 0
  TellsTwo = (ltb counted_two 256 ≡ (p && (q && true))) × (counted_two < 256 → counted_two ≡ number_after 0 (a ∷ b ∷ []))

tells_two : (a b : ℕ) (p q : Bool) → is_digit a ≡ p → is_digit b ≡ q → TellsTwo a b p q
unfolding number_after
tells_two a b false q e f = omega (arith, le-ltb)
tells_two a b true false e f = omega (arith, le-ltb)
tells_two a b true true e f = omega (arith, lt-ltb, below_16 a e, below_16 b f)

pub window_read : (s : List ℕ) (at : ℕ) → at + 2 ≤ length s → FieldRead 2 s at (digit_read (get_or s at 0) * 16 + digit_read (get_or s (at + 1) 0))
unfolding all_of
window_read s at h =
    let t = tells_two (get_or s at 0) (get_or s (at + 1) 0) _ _ refl refl in
    record { tells = rw (two_at s at h) t.0; value = rw (two_at s at h) t.1 }

-- ---- what is made of the sum

-- right digits make a number, wrong ones none
module _ (n : ℕ) (s : List ℕ) (at r : ℕ) (f : FieldRead n s at r) where
  fitting : r < 16 ^ n → Some r ≡ number_at n at s
  fitting h = rw (sym f.tells ∙ lt-ltb r (16 ^ n) h, f.value h)

  too_large : 16 ^ n ≤ r → None ≡ number_at n at s
  too_large h = rw (sym f.tells ∙ le-ltb r (16 ^ n) h)

  -- a sum that is kept exactly where it fits
  pub kept : {E : Type 0} (k : Result ℕ E) → OkIff k (r < 16 ^ n) r → result_ok k ≡ number_at n at s
  kept (Ok x) h = rw h.1 (fitting h.0)
  kept (Err e) h = too_large (omega arith)

-- ---- the kind

spelled : (a b k : ℕ) → k < 10 → Digit a → Digit b → digit_value a * 16 + digit_value b ≡ k → (a ≡ 48) × (b ≡ 48 + k)
spelled a b k h (low f t v) (low f' t' v') e = omega arith
spelled a b k h (low f t v) (high f' t' v') e = absurd (omega arith)
spelled a b k h (high f t v) y e = absurd (omega arith)

-- a kind below 10 is spelled by '0' and one other byte
pub kind_bytes : (s : List ℕ) (k : ℕ) → 2 ≤ length s → k < 10 → (all_of is_digit (take 2 s) && eqb (kind_of s) k) ≡ begins_kind s k
unfolding all_of number_after
kind_bytes [] k h u = absurd (omega arith)
kind_bytes (a ∷ []) k h u = absurd (omega arith)
kind_bytes (a ∷ b ∷ s) k h u = same_test _ _ to_bytes of_bytes
  where
    to_bytes : (all_of is_digit (a ∷ b ∷ []) && eqb (kind_of (a ∷ b ∷ s)) k) ≡ true → (eqb a 48 && eqb b (48 + k)) ≡ true
    to_bytes e =
        let p = (and-eq-true_iff (all_of is_digit (a ∷ b ∷ [])) (eqb (kind_of (a ∷ b ∷ s)) k)).0 e in
        let d = (and-eq-true_iff (is_digit a) (is_digit b && true)).0 p.0 in
        let f = (and-eq-true_iff (is_digit b) true).0 d.1 in
        let n = eqb-true (kind_of (a ∷ b ∷ s)) k p.1 in
        let q = spelled a b k u (digit a d.0) (digit b f.0) (omega arith) in
        rw (eq-eqb a 48 q.0, eq-eqb b (48 + k) q.1)

    of_bytes : (eqb a 48 && eqb b (48 + k)) ≡ true → (all_of is_digit (a ∷ b ∷ []) && eqb (kind_of (a ∷ b ∷ s)) k) ≡ true
    of_bytes e =
        let p = (and-eq-true_iff (eqb a 48) (eqb b (48 + k))).0 e in
        let first = eqb-true a 48 p.0 in
        let second = eqb-true b (48 + k) p.1 in
        let x = low_digit a (omega arith) (omega arith) in
        let y = low_digit b (omega arith) (omega arith) in
        rw (x.0, y.0, eq-eqb (kind_of (a ∷ b ∷ s)) k (omega arith))
