-- Laws in the shape that the functions' proofs ask for. The passes of the two loops: what has been walked, and the definition of what
-- remains, make the definition of the whole. Then the cases of `leading`, and the outcome from its case.
use Prim.Native.Nat.{ℕ, zero, suc, ◌+◌, ◌*◌, ◌≤◌, ◌<◌, min}
use mathlib.Core.Path.{◌≡◌, refl, sym, ap}
use mathlib.Core.Logic.{⊎_elim}
use mathlib.Core.Bool.{true, false}
use mathlib.Core.List.{List, [], ◌∷◌}
use native.Mathlib.Nat.{suc-ne-zero}
use native.Mathlib.Omega.{arith}
use lib.ListN.{length, get_or, take, drop, drop_of_length-le}
use lib.Seq.{length-take-le}
use lib.Dec.{eqb}
use denote.Ref.{Bor}
use Rattle.std.specs.Prelude.{Some, None, position, take_while, zip}
use Rattle.std.specs.List.{position_or_len}
use Rattle.std.proofs.Common.{◌∙◌, one-add, inl, inr, lt-ltb, le-ltb}
use Rattle.std.proofs.Math.Decide.{dec_lt}
use Rattle.std.proofs.lemmas.List.Sums.{position_or_len_is}
use Rattle.std.proofs.lemmas.List.Recursion.{is_position_or_len}
use Rattle.std.proofs.lemmas.List.Quantifiers.{position-Some}
use Rattle.model.specs.Stretch.{agreement, leading, Stretch, stretch_of, begun, numbers_of, dropped, StretchOutcome}
use Rattle.model.specs.Lists.{index_of}
use Rattle.laws.specs.Booleans.{answers}
use Rattle.stretch.specs.StretchLaws.{agreement_nil, leading_le, StretchGiven}

-- the place of a number is the first at which the test for it passes
index_is : (x : ℕ) (ys : List ℕ) → index_of x ys ≡ position_or_len (eqb x) ys
unfolding index_of
index_is x = is_position_or_len (index_of x) (eqb x) refl (λ y ys. rw (one-add (index_of x ys)))

index_found : (x : ℕ) (ys : List ℕ) (n : ℕ) → position (eqb x) ys ≡ Some n → n ≡ index_of x ys
index_found x ys n e =
    let first = position-Some (eqb x) ys n 0 e in
    sym (index_is x ys ∙ position_or_len_is (eqb x) ys n 0 (omega (arith, first.0)) first.2 (λ h. first.1))

index_none : (x : ℕ) (ys : List ℕ) → position (eqb x) ys ≡ None → length ys ≤ index_of x ys
index_none x ys e = rw (index_is x ys) (elim (dec_lt (position_or_len (eqb x) ys) (length ys)) [
  | yes less ↦ let found : position (eqb x) ys ≡ Some (position_or_len (eqb x) ys) = rw (lt-ltb _ _ less) in cc
  | no more ↦ omega arith
])

-- no number before a place is the one that is sought
abbrev pub PassedBy : ℕ → List ℕ → ℕ → Type 0
PassedBy x xs n = (j : ℕ) → j < n → eqb x (get_or xs j 0) ≡ false

-- the place that was looked at, k, is the next one, n: it holds the number, or is passed by too
pub place_found : (x : ℕ) (xs : List ℕ) (n k : ℕ) → eqb x (get_or xs k 0) ≡ true → n ≡ k → n < length xs → PassedBy x xs n → Some n ≡ position (eqb x) xs
place_found x xs n k here e less before =
    let first : position_or_len (eqb x) xs ≡ n = position_or_len_is (eqb x) xs n 0 (omega arith) before (λ h. rw e here) in
    rw (first, lt-ltb n (length xs) less) refl

pub place_passed : (x : ℕ) (xs : List ℕ) (n k : ℕ) → eqb x (get_or xs k 0) ≡ false → n ≡ k → PassedBy x xs n → PassedBy x xs (n + 1)
place_passed x xs n k here e before j h = elim (dec_lt j n) [
  | yes less ↦ before j less
  | no more ↦ let is : j ≡ k = omega arith in rw is here
]

pub place_none : (x : ℕ) (xs : List ℕ) (n : ℕ) → length xs ≤ n → PassedBy x xs n → None ≡ position (eqb x) xs
place_none x xs n past before =
    let none : position_or_len (eqb x) xs ≡ length xs = position_or_len_is (eqb x) xs (length xs) 0 (omega arith) (λ j h. before j (omega arith)) (λ h. absurd (omega arith)) in
    rw (none, le-ltb (length xs) (length xs) (omega arith)) refl

-- the agreement of two lists is how many of their first pairs are of equal numbers
pub agreement_zipped : (xs ys : List ℕ) → length (take_while (λ (p : ℕ × ℕ). eqb p.0 p.1) (zip xs ys)) ≡ agreement xs ys
unfolding agreement
agreement_zipped [] ys = refl
agreement_zipped (x ∷ xs) [] = refl
agreement_zipped (x ∷ xs) (y ∷ ys) = elim (answers (eqb x y)) [
  | inl same ↦ rw (same, one-add, agreement_zipped xs ys)
  | inr other ↦ rw other
]

-- the pairs of two lists are those of their parts of the shorter one's length
pub zip_shorter : (n : ℕ) (xs ys : List ℕ) → min (length xs) (length ys) ≤ n → zip (take n xs) (take n ys) ≡ zip xs ys
zip_shorter zero [] ys h = refl
zip_shorter (suc n) [] ys h = refl
zip_shorter zero (x ∷ xs) [] h = refl
zip_shorter (suc n) (x ∷ xs) [] h = refl
zip_shorter zero (x ∷ xs) (y ∷ ys) h = absurd (omega (arith, h))
zip_shorter (suc n) (x ∷ xs) (y ∷ ys) h = ap (λ l. (x, y) ∷ l) (zip_shorter n xs ys (omega (arith, h)))

-- a list with no number has no leading part
pub leading_none : (xs ys : List ℕ) → length xs ≡ 0 → 0 ≡ leading xs ys
unfolding leading
leading_none [] ys h = refl
leading_none (x ∷ xs) ys h = absurd (suc-ne-zero _ h)

-- of any other list the first number is read, and sought in the other list
pub leading_from : (xs ys : List ℕ) (x n : ℕ) → 0 < length xs → x ≡ get_or xs 0 0 → position (eqb x) ys ≡ Some n → agreement xs (drop n ys) ≡ leading xs ys
unfolding leading
leading_from [] ys x n h e found = absurd (omega arith)
leading_from (w ∷ xs) ys x n h e found = let is : n ≡ index_of x ys = index_found x ys n found in rw (is, e) refl

pub leading_absent : (xs ys : List ℕ) (x : ℕ) → 0 < length xs → x ≡ get_or xs 0 0 → position (eqb x) ys ≡ None → 0 ≡ leading xs ys
unfolding leading
leading_absent [] ys x h e none = absurd (omega arith)
leading_absent (w ∷ xs) ys x h e none = let beyond : length ys ≤ index_of w ys = index_none w ys (rw e at none) in rw (drop_of_length-le ys beyond) (sym (agreement_nil (w ∷ xs)))

-- a count that is a leading count fits its list
pub leading_part : (xs ys : List ℕ) (n : ℕ) → n ≡ leading xs ys → n ≡ length (take n xs)
leading_part xs ys n e = sym (length-take-le n xs (rw e (leading_le xs ys)))

-- ---- what is dropped

-- nothing of a list with no number
pub dropped_none : (xs : List ℕ) → length xs ≡ 0 → 0 ≡ dropped xs
unfolding dropped
dropped_none [] h = refl
dropped_none (x ∷ xs) h = absurd (suc-ne-zero _ h)

-- of any other, one where its first number is 0
pub dropped_one : (xs : List ℕ) → (length xs ≡ 0 → ⊥) → eqb (get_or xs 0 0) 0 ≡ true → 1 ≡ dropped xs
unfolding dropped
dropped_one [] h e = absurd (h refl)
dropped_one (x ∷ xs) h e = rw e refl

pub dropped_other : (xs : List ℕ) → (length xs ≡ 0 → ⊥) → eqb (get_or xs 0 0) 0 ≡ false → 0 ≡ dropped xs
unfolding dropped
dropped_other [] h e = absurd (h refl)
dropped_other (x ∷ xs) h e = rw e refl

-- it is a part of the list
pub dropped_le : (xs : List ℕ) → dropped xs ≤ length xs
unfolding dropped
dropped_le [] = omega arith
dropped_le (x ∷ xs) = ⊎_elim (λ (e : eqb x 0 ≡ true). rw e (omega arith)) (λ (e : eqb x 0 ≡ false). rw e (omega arith)) (answers (eqb x 0))

-- an answer is right that is the right part of the right list
pub outcome : (first second answer : Bor (List ℕ)) (s : Stretch) → stretch_of first.now second.now ≡ s
    → answer.now ≡ numbers_of s first.now second.now → answer.ref_ptr ≡ begun s first.ref_ptr second.ref_ptr → StretchGiven first second answer
outcome first second answer s e numbers borrowed = record { holds = rw e numbers; borrowed = rw e borrowed }

-- and so is the answer for two lists, each from the cell on that is not dropped
pub outcome_dropped : (first second one other answer : Bor (List ℕ)) (n m : ℕ) → n ≡ dropped first.now → m ≡ dropped second.now
    → one.now ≡ drop n first.now → one.ref_ptr ≡ (first.ref_ptr.0, first.ref_ptr.1 + 2 * n) → other.now ≡ drop m second.now → other.ref_ptr ≡ (second.ref_ptr.0, second.ref_ptr.1 + 2 * m)
    → StretchGiven one other answer → StretchOutcome first second answer
outcome_dropped first second one other answer n m n-is m-is one-Holds one_from other-holds other_from b =
    record {
      holds = rw (← n-is, ← m-is, ← one-Holds, ← other-holds) b.holds;
      borrowed = rw (← n-is, ← m-is, ← one-Holds, ← other-holds, ← one_from, ← other_from) b.borrowed;
    }
