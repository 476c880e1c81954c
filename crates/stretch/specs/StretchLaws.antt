-- Laws of the shared stretch: a place is the first, an agreement the longest, and the stretch fits the list that it begins and agrees with
-- the other; and the stretch of two lists as they are.
use Rattle.std.specs.Prelude.{ℕ, zero, suc, ◌+◌, ◌≤◌, ◌<◌, min, ◌≡◌, refl, ◌⊎◌, List, [], ◌∷◌, Bool, true, false, cond, length, get_or, take, drop, ltb, eqb}
use Rattle.std.proofs.Common.{zero-le, suc-le-suc, sym, ap, ◌∙◌, subst, inl, inr, ⊎_elim, le_of_suc-le-suc, not-suc-le-zero, arith, drop_of_length-le, length-take, length-drop, get_or-drop, get_or-take, drop-cons, length-take-le, eqb-true, eq-eqb, ne_eqb, lt-ltb, ltb-true, ltb-false}
use Rattle.std.proofs.Math.Nat.{min-le_right}
use Rattle.std.proofs.lemmas.Bool.{eqb-false}
use Rattle.std.specs.Borrow.{Bor}
use Rattle.model.specs.Stretch.{agreement, starts_in, leading, Stretch, of_first, of_second, stretch_of, begun, numbers_of}
use Rattle.model.specs.Lists.{index_of}
use Rattle.laws.specs.Places.{index_le, index_stands}

-- two numbers are the same or not
same_or_not : (x y : ℕ) → (x ≡ y) ⊎ (x ≡ y → ⊥)
same_or_not x y = by (eqb x y) refl
  where
    by : (b : Bool) → eqb x y ≡ b → (x ≡ y) ⊎ (x ≡ y → ⊥)
    by true e = inl (eqb-true x y e)
    by false e = inr (eqb-false x y e)

-- ---- an agreement

pub agreement_same : (x y : ℕ) (xs ys : List ℕ) → x ≡ y → agreement (x ∷ xs) (y ∷ ys) ≡ suc (agreement xs ys)
unfolding agreement
agreement_same x y xs ys e = rw (eq-eqb x y e)

pub agreement_differs : (x y : ℕ) (xs ys : List ℕ) → (x ≡ y → ⊥) → agreement (x ∷ xs) (y ∷ ys) ≡ 0
unfolding agreement
agreement_differs x y xs ys e = rw (ne_eqb x y e)

pub agreement_nil : (xs : List ℕ) → agreement xs [] ≡ 0
unfolding agreement
agreement_nil [] = refl
agreement_nil (x ∷ xs) = refl

-- an agreement fits the first list
pub agreement_le : (xs ys : List ℕ) → agreement xs ys ≤ length xs
unfolding agreement
agreement_le [] ys = zero-le
agreement_le (x ∷ xs) [] = zero-le
agreement_le (x ∷ xs) (y ∷ ys) =
    ⊎_elim (λ e. rw (agreement_same x y xs ys e) (suc-le-suc (agreement_le xs ys))) (λ n. rw (agreement_differs x y xs ys n) zero-le)
    (same_or_not x y)

-- the leading part of its length is the same in both
pub agreement_shared : (xs ys : List ℕ) → take (agreement xs ys) xs ≡ take (agreement xs ys) ys
unfolding agreement
agreement_shared [] ys = refl
agreement_shared (x ∷ xs) [] = refl
agreement_shared (x ∷ xs) (y ∷ ys) =
    ⊎_elim (λ e. rw (agreement_same x y xs ys e) (cc (e, agreement_shared xs ys))) (λ n. rw (agreement_differs x y xs ys n)) (same_or_not x y)

-- an agreement fits the second list
pub agreement_le_second : (xs ys : List ℕ) → agreement xs ys ≤ length ys
agreement_le_second xs ys =
    let count : agreement xs ys ≡ min (agreement xs ys) (length ys) =
    sym (length-take-le (agreement xs ys) xs (agreement_le xs ys)) ∙ ap length (agreement_shared xs ys) ∙ length-take (agreement xs ys) ys in
    subst (λ (n : ℕ). n ≤ length ys) (sym count) (min-le_right (agreement xs ys) (length ys))

-- no longer leading part is the same in both
pub agreement_longest : (xs ys : List ℕ) (k : ℕ) → k ≤ length xs → take k xs ≡ take k ys → k ≤ agreement xs ys
unfolding agreement
agreement_longest xs ys zero h e = zero-le
agreement_longest [] ys (suc k) h e = absurd (not-suc-le-zero h)
agreement_longest (x ∷ xs) [] (suc k) h e = let z : ◌≡◌ {A = ℕ} 0 1 = cc in absurd (omega arith)
agreement_longest (x ∷ xs) (y ∷ ys) (suc k) h e =
    let head : x ≡ y = cc in
    let tail : take k xs ≡ take k ys = cc in
    rw (agreement_same x y xs ys head) (suc-le-suc (agreement_longest xs ys k (le_of_suc-le-suc h) tail))

-- both have the same number at each place of it
pub agreement_agrees : (xs ys : List ℕ) (k : ℕ) → k < agreement xs ys → get_or xs k 0 ≡ get_or ys k 0
agreement_agrees xs ys k h =
    sym (get_or-take (agreement xs ys) xs k 0 h)
    ∙ ap (λ (l : List ℕ). get_or l k 0) (agreement_shared xs ys)
    ∙ get_or-take (agreement xs ys) ys k 0 h

-- ---- a leading part that agrees with the other list from where it first stands there

-- it fits its list
pub leading_le : (xs ys : List ℕ) → leading xs ys ≤ length xs
unfolding leading
leading_le [] ys = zero-le
leading_le (x ∷ xs) ys = agreement_le (x ∷ xs) (drop (index_of x ys) ys)

-- its numbers are those of the other list from that place on
pub leading_agrees : (xs ys : List ℕ) (k : ℕ) → k < leading xs ys → get_or xs k 0 ≡ get_or ys (index_of (get_or xs 0 0) ys + k) 0
unfolding leading
leading_agrees [] ys k h = absurd (not-suc-le-zero h)
leading_agrees (x ∷ xs) ys k h =
    agreement_agrees (x ∷ xs) (drop (index_of x ys) ys) k h ∙ get_or-drop (index_of x ys) ys k 0

-- all of them stand there
pub leading_within : (xs ys : List ℕ) (k : ℕ) → k < leading xs ys → index_of (get_or xs 0 0) ys + k < length ys
unfolding leading
leading_within [] ys k h = absurd (not-suc-le-zero h)
leading_within (x ∷ xs) ys k h =
    omega (arith, agreement_le_second (x ∷ xs) (drop (index_of x ys) ys), length-drop (index_of x ys) ys, index_le x ys)

-- it has a number where the first number stands in the other list, and there only
pub leading_some : (xs ys : List ℕ) → starts_in xs ys ≡ ltb 0 (leading xs ys)
unfolding starts_in leading
leading_some [] ys = refl
leading_some (x ∷ xs) ys = by (ltb (index_of x ys) (length ys)) refl
  where
    by : (b : Bool) → ltb (index_of x ys) (length ys) ≡ b → ltb (index_of x ys) (length ys) ≡ ltb 0 (agreement (x ∷ xs) (drop (index_of x ys) ys))
    by true e =
        let stands : index_of x ys < length ys = ltb-true _ _ e in
        rw (e, drop-cons ys (index_of x ys) 0 stands, agreement_same x _ xs _ (sym (index_stands x ys stands)))
        (sym (lt-ltb 0 (suc (agreement xs (drop (suc (index_of x ys)) ys))) (suc-le-suc zero-le)))
    by false e = rw (e, drop_of_length-le ys (ltb-false _ _ e), agreement_nil)

-- ---- the stretch

-- the three cases, by the counts
pub stretch_first : (xs ys : List ℕ) → 0 < leading xs ys → stretch_of xs ys ≡ of_first (leading xs ys)
unfolding stretch_of
stretch_first xs ys h = rw (leading_some xs ys, lt-ltb 0 (leading xs ys) h)

pub stretch_second : (xs ys : List ℕ) → leading xs ys ≡ 0 → 0 < leading ys xs → stretch_of xs ys ≡ of_second (leading ys xs)
unfolding stretch_of
stretch_second xs ys n h = rw (leading_some xs ys, n, leading_some ys xs, lt-ltb 0 (leading ys xs) h)

pub stretch_none : (xs ys : List ℕ) → leading xs ys ≡ 0 → leading ys xs ≡ 0 → stretch_of xs ys ≡ of_first 0
unfolding stretch_of
stretch_none xs ys n m = rw (leading_some xs ys, n, leading_some ys xs, m)

-- what holds of each case holds of the stretch
pub stretch_cases : (P : Stretch → Type 0) (xs ys : List ℕ)
    → P (of_first (leading xs ys)) → P (of_second (leading ys xs)) → P (of_first 0) → P (stretch_of xs ys)
unfolding stretch_of
stretch_cases P xs ys first second none = by (starts_in xs ys) (starts_in ys xs)
  where
    by : (a b : Bool) → P (cond a (of_first (leading xs ys)) (cond b (of_second (leading ys xs)) (of_first 0)))
    by true b = first
    by false true = second
    by false false = none

-- what is given back holds the stretch of two lists as they are, with no 0 dropped, and is borrowed from the start of the one that it begins
pub record StretchGiven (first second given : Bor (List ℕ)) : Type 0 where
  pub holds : given.now ≡ numbers_of (stretch_of first.now second.now) first.now second.now
  pub borrowed : given.ref_ptr ≡ begun (stretch_of first.now second.now) first.ref_ptr second.ref_ptr
