-- What is read at fixed positions of a line: a digit, a field, the kind, the line's end.
use Rattle.std.specs.Prelude.{ℕ, ◌+◌, ◌^◌, ◌<◌, ◌≡◌, Bool, true, cond, ◌&&◌, List, length, get_or, take, drop, eqb, ltb, Option, Some, None}
use Rattle.model.specs.Lists.{all_of}
use Rattle.std.proofs.Math.Option as Math
use Rattle.model.specs.Table as Table
use Rattle.model.specs.Table.{is_digit, digit_value, number_after}
use Rattle.model.specs.Answers.{frame_case}
use Rattle.model.specs.declared.Frame.{Frame}

-- a digit's value; a wrong digit has 65,536, which no field of right digits reaches
abbrev pub digit_read : ℕ → ℕ
digit_read b = cond (is_digit b) (digit_value b) 65536

-- the byte b spells the digit d
pub record DigitByte (d b : ℕ) : Type 0 where
  pub inside : b < 256
  pub right : is_digit b ≡ true
  pub value : digit_value b ≡ d

-- a table of what each byte reads as
pub record DigitValues (values : List ℕ) : Type 0 where
  pub room : length values ≡ 256
  pub value_at : (b : ℕ) → b < 256 → get_or values b 0 ≡ digit_read b

-- r is the field of n digits at `at`, or where one of them is wrong no less than 16 ^ n
pub record FieldRead (n : ℕ) (s : List ℕ) (at r : ℕ) : Type 0 where
  pub tells : ltb r (16 ^ n) ≡ all_of is_digit (take n (drop at s))
  pub value : r < 16 ^ n → r ≡ number_after 0 (take n (drop at s))

-- the n digits at `at`; none where one of them is wrong
abbrev pub number_at : ℕ → ℕ → List ℕ → Option ℕ
number_at n at s = cond (all_of is_digit (take n (drop at s))) (Some (number_after 0 (take n (drop at s)))) None

-- a frame that was found, as the table's line has it
abbrev pub frame_found : Option Frame → Math.Option Table.Frame
frame_found (Some f) = Math.some (frame_case f)
frame_found None = Math.none

-- a line of kind k, which is below 10, begins with byte '0' and the one that spells k
abbrev pub begins_kind : List ℕ → ℕ → Bool
begins_kind s k = eqb (get_or s 0 0) 48 && eqb (get_or s 1 0) (48 + k)

-- byte 0A stands after n bytes
abbrev pub ends_after : ℕ → List ℕ → Bool
ends_after n s = eqb (get_or s n 0) 10
