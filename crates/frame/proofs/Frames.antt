-- What the fields and the kind that were read tell of a line's frame, by the number of bytes before its 0A.
use Prim.Native.Nat.{ℕ, zero, suc, ◌+◌, ◌<◌, ◌≤◌}
use mathlib.Core.Path.{◌≡◌, refl, ◌∙◌}
use mathlib.Core.Bool.{Bool, true, false, cond, ◌&&◌, and-true, and-false, and_assoc}
use mathlib.Core.Option.{none, some}
use mathlib.Core.List.{List, [], ◌∷◌}
use native.Mathlib.Omega.{arith}
use native.Mathlib.Nat.{zero-add, suc-add}
use lib.ListN.{length, get_or, take, drop, drop_of_length-le}
use lib.Seq.{take-nil}
use lib.Dec.{eqb}
use borrow.Author.Tests.{eqb-true}
use Rattle.model.specs.Lists.{all_of}
use Rattle.model.specs.Table.{is_digit, number_after, kind_of, field_at, window_at, layout_frame, job_frame, solo_frame, window_frame, end_frame, first_line, frame_of}
use Rattle.laws.specs.Booleans.{one_answer}
use Rattle.std.proofs.Common.{Some, None}
use Rattle.frame.specs.Fields.{number_at, begins_kind, ends_after}
use Rattle.frame.proofs.Digits.{kind_bytes}
use Rattle.frame.specs.Lines.{digit_line, end_within, digit_line_no_end, short_line, long_frame, long_line, windowed_line_lem, no_frame}

-- ---- the digits of a line

-- the n digits of the field at k are right
abbrev pub right_field : ℕ → ℕ → List ℕ → Bool
right_field n k s = all_of is_digit (take n (drop k s))

digits_of : (k m : ℕ) (s : List ℕ) → all_of is_digit (take (k + m) s) ≡ (all_of is_digit (take k s) && all_of is_digit (take m (drop k s)))
unfolding all_of
digits_of zero m s = rw zero-add
digits_of (suc k) m [] = rw (suc-add, take-nil m)
digits_of (suc k) m (b ∷ s) = rw (suc-add, digits_of k m s, and_assoc)

pub ends_within : (n : ℕ) (s : List ℕ) → ends_after n s ≡ true → n < length s
ends_within n s e = end_within s n (eqb-true (get_or s n 0) 10 e)

-- a line of n digits ends after them
no_end : (n : ℕ) (s : List ℕ) → ends_after n s ≡ false → digit_line n s ≡ false
unfolding digit_line
no_end n s e = rw (e, and-false (all_of is_digit (take n s)))

-- and has no 0A before, which is no digit
no_later : (n m : ℕ) (s : List ℕ) → n < m → ends_after n s ≡ true → digit_line m s ≡ false
no_later n m s h e = go (digit_line m s) refl
  where
    go : (t : Bool) → digit_line m s ≡ t → t ≡ false
    go true d = absurd (one_answer e (digit_line_no_end m s d n h))
    go false d = refl

-- two digits tell the kind; the others are in the fields
short_digits : (s : List ℕ) → ends_after 6 s ≡ true → digit_line 6 s ≡ (all_of is_digit (take 2 s) && right_field 4 2 s)
unfolding digit_line
short_digits s e = rw (e, and-true, digits_of 2 4 s)

long_digits : (s : List ℕ) → ends_after 10 s ≡ true → digit_line 10 s ≡ (all_of is_digit (take 2 s) && (right_field 4 2 s && right_field 4 6 s))
unfolding digit_line
long_digits s e = rw (e, and-true, digits_of 6 4 s, digits_of 2 4 s, and_assoc)

windowed_digits : (s : List ℕ) → ends_after 12 s ≡ true → digit_line 12 s ≡ (all_of is_digit (take 2 s) && (right_field 4 2 s && (right_field 4 6 s && right_field 2 10 s)))
unfolding digit_line
windowed_digits s e = rw (e, and-true, digits_of 10 2 s, digits_of 6 4 s, digits_of 2 4 s) (simp and_assoc)

-- ---- what a field tells

module _ (n : ℕ) (s : List ℕ) (at : ℕ) where
  wrong : None ≡ number_at n at s → right_field n at s ≡ false
  wrong e = go (right_field n at s) refl e
    where
      go : (t : Bool) → right_field n at s ≡ t → None ≡ cond t (Some (number_after 0 (take n (drop at s)))) None → t ≡ false
      go false w z = refl
      go true w z = let apart : ◌≡◌ {A = ℕ} 0 1 = cc in absurd (omega arith)

  -- it is right, and its number is r
  record Right (r : ℕ) : Type 0 where
    digits : right_field n at s ≡ true
    number : r ≡ number_after 0 (take n (drop at s))

  right : {r : ℕ} → Some r ≡ number_at n at s → Right r
  right {r} e = go (right_field n at s) refl e
    where
      go : (t : Bool) → right_field n at s ≡ t → Some r ≡ cond t (Some (number_after 0 (take n (drop at s)))) None → Right r
      go true d z = record { digits = d; number = cc }
      go false d z = let apart : ◌≡◌ {A = ℕ} 0 1 = cc in absurd (omega arith)

-- ---- a line that ends after 6 bytes

module _ (s : List ℕ) (e : ends_after 6 s ≡ true) where
  short_none : (all_of is_digit (take 2 s) && right_field 4 2 s) ≡ false → frame_of (first_line s) ≡ none
  short_none w = no_frame s (short_digits s e ∙ w) (no_later 6 10 s (omega arith) e) (no_later 6 12 s (omega arith) e)

  pub short_wrong : None ≡ number_at 4 2 s → frame_of (first_line s) ≡ none
  short_wrong w = short_none (rw (wrong 4 s 2 w, and-false))

  pub short_right : {p : ℕ} → Some p ≡ number_at 4 2 s → frame_of (first_line s) ≡ cond (begins_kind s 1) (some (layout_frame p)) none
  short_right {p} parent =
      let first = right 4 s 2 parent in
      rw (← kind_bytes s 1 (omega (arith, ends_within 6 s e)) (omega arith), first.number) (go first.digits (all_of is_digit (take 2 s)) refl)
    where
      go : right_field 4 2 s ≡ true → (t : Bool) → all_of is_digit (take 2 s) ≡ t → frame_of (first_line s) ≡ cond (t && eqb (kind_of s) 1) (some (layout_frame (field_at 2 s))) none
      go f true d = short_line s (short_digits s e ∙ rw (d, f))
      go f false d = short_none (rw d)

-- ---- a line that ends after 10 bytes

module _ (s : List ℕ) (a : ends_after 6 s ≡ false) (e : ends_after 10 s ≡ true) where
  long_none : (all_of is_digit (take 2 s) && (right_field 4 2 s && right_field 4 6 s)) ≡ false → frame_of (first_line s) ≡ none
  long_none w = no_frame s (no_end 6 s a) (long_digits s e ∙ w) (no_later 10 12 s (omega arith) e)

  pub first_wrong : None ≡ number_at 4 2 s → frame_of (first_line s) ≡ none
  first_wrong w = long_none (rw (wrong 4 s 2 w, and-false))

  pub second_wrong : None ≡ number_at 4 6 s → frame_of (first_line s) ≡ none
  second_wrong w = long_none (rw (wrong 4 s 6 w) (simp and-false))

  pub long_right : {p q : ℕ} → Some p ≡ number_at 4 2 s → Some q ≡ number_at 4 6 s → frame_of (first_line s) ≡ long_frame (begins_kind s) p q
  long_right {p} {q} one two =
      let long : 2 ≤ length s = omega (arith, ends_within 10 s e) in
      let first = right 4 s 2 one in
      let second = right 4 s 6 two in
      rw (← kind_bytes s 2 long (omega arith), ← kind_bytes s 3 long (omega arith), ← kind_bytes s 4 long (omega arith), first.number, second.number)
      (go first.digits second.digits (all_of is_digit (take 2 s)) refl)
    where
      go : right_field 4 2 s ≡ true → right_field 4 6 s ≡ true → (t : Bool) → all_of is_digit (take 2 s) ≡ t
          → frame_of (first_line s)
          ≡ cond (t && eqb (kind_of s) 2) (some (job_frame (field_at 2 s) (field_at 6 s)))
          (cond (t && eqb (kind_of s) 4) (some (solo_frame (field_at 2 s) (field_at 6 s)))
          (cond (t && eqb (kind_of s) 3) (some (end_frame (field_at 2 s) (field_at 6 s))) none))
      go f g true d = long_line s (long_digits s e ∙ rw (d, f, g))
      go f g false d = long_none (rw d)

-- ---- a line that ends after neither

module _ (s : List ℕ) (a : ends_after 6 s ≡ false) (b : ends_after 10 s ≡ false) where
  pub no_ends : ends_after 12 s ≡ false → frame_of (first_line s) ≡ none
  no_ends e = no_frame s (no_end 6 s a) (no_end 10 s b) (no_end 12 s e)

  -- with a window its digits are right, and its kind is 05
  module _ (e : ends_after 12 s ≡ true) where
    windowed_none : (all_of is_digit (take 2 s) && (right_field 4 2 s && (right_field 4 6 s && right_field 2 10 s))) ≡ false → frame_of (first_line s) ≡ none
    windowed_none w = no_frame s (no_end 6 s a) (no_end 10 s b) (windowed_digits s e ∙ w)

    pub top_wrong : None ≡ number_at 4 2 s → frame_of (first_line s) ≡ none
    top_wrong w = windowed_none (rw (wrong 4 s 2 w, and-false))

    pub bottom_wrong : None ≡ number_at 4 6 s → frame_of (first_line s) ≡ none
    bottom_wrong w = windowed_none (rw (wrong 4 s 6 w) (simp and-false))

    pub window_wrong : None ≡ number_at 2 10 s → frame_of (first_line s) ≡ none
    window_wrong w = windowed_none (rw (wrong 2 s 10 w) (simp and-false))

    pub windowed_right : {p q v : ℕ} → Some p ≡ number_at 4 2 s → Some q ≡ number_at 4 6 s → Some v ≡ number_at 2 10 s
        → frame_of (first_line s) ≡ cond (begins_kind s 5) (some (window_frame p q v)) none
    windowed_right {p} {q} {v} one two three =
        let first = right 4 s 2 one in
        let second = right 4 s 6 two in
        let third = right 2 s 10 three in
        rw (← kind_bytes s 5 (omega (arith, ends_within 12 s e)) (omega arith), first.number, second.number, third.number)
        (go first.digits second.digits third.digits (all_of is_digit (take 2 s)) refl)
      where
        go : right_field 4 2 s ≡ true → right_field 4 6 s ≡ true → right_field 2 10 s ≡ true → (t : Bool) → all_of is_digit (take 2 s) ≡ t
            → frame_of (first_line s) ≡ cond (t && eqb (kind_of s) 5) (some (window_frame (field_at 2 s) (field_at 6 s) (window_at 10 s))) none
        go f g h true d = windowed_line_lem s (windowed_digits s e ∙ rw (d, f, g, h))
        go f g h false d = windowed_none (rw d)

-- ---- bytes past the end

pub none_past : (at : ℕ) (s : List ℕ) → length s ≤ at → frame_of (first_line (drop at s)) ≡ none
none_past at s h = rw (drop_of_length-le s h) (no_ends [] refl refl refl)
