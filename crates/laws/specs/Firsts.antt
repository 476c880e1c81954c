-- The first members of a list that pass a test, and a list without any of some.
use Rattle.std.specs.Prelude.{ℕ, zero, suc, ◌+◌, ◌≤◌, ◌≡◌, refl, ◌≢◌, Bool, true, false, length}
use Rattle.std.proofs.Common.{sym, ap, ◌∙◌, ⊎_elim, arith}
use Rattle.std.proofs.Math.Option.{none, some}
use mathlib.Core.List.Memᴰ.{not-nil}
use mathlib.Core.List.{List, [], ◌∷◌, ◌++◌, Memᴰ as Mem}
use Rattle.std.proofs.Math.Seq.{take-nil}
use Rattle.model.specs.Lists.{count_where, select, find, without, without_all, first_passing, AllPairs}
use Rattle.laws.specs.Booleans.{answers}
use Rattle.laws.specs.Lists.{Distinct, all_mem, found_or_none, find_some, select_yes, select_no, select_mem}
use Rattle.laws.specs.Counting.{count_passing, count_failing}
use Rattle.laws.specs.Places.{take_mem}
use Rattle.laws.specs.Without.{without_mem, without_drop, without_keep, without_none, without_pairwise, without_length}

-- ---- the first that pass

-- what is found stands first among those that pass
pub find_select : (p : ℕ → Bool) (l : List ℕ) {j : ℕ} → Distinct l → find p l ≡ some j → select p l ≡ j ∷ select p (without j l)
unfolding find
find_select p [] d e = absurd (not-nil (find_some p [] (unfold find in e)).0)
find_select p (x ∷ xs) {j} d e = ⊎_elim
    (λ (t : p x ≡ true).
    let same : x ≡ j = cc in
    select_yes p x xs t ∙ rw (← same, without_drop x xs, without_none x xs (λ y m q. all_mem (λ (y : ℕ). x ≢ y) d.0 m (sym q))) refl)
    (λ (t : p x ≡ false).
    let f : find p xs ≡ some j = rw t at e in
    let m = (find_some p xs f).0 in
    select_no p x xs t ∙ find_select p xs d.1 f ∙ ap (λ (l : List ℕ). j ∷ l) (sym (rw (without_keep j x xs (all_mem (λ (y : ℕ). x ≢ y) d.0 m)) (select_no p x (without j xs) t))))
    (answers (p x))

-- where nothing is found nothing passes
pub select_none : (p : ℕ → Bool) (l : List ℕ) → find p l ≡ none → select p l ≡ []
unfolding find select
select_none p [] e = refl
select_none p (x ∷ xs) e = ⊎_elim
    (λ (t : p x ≡ true). cc)
    (λ (t : p x ≡ false). rw t (select_none p xs (rw t at e)))
    (answers (p x))

-- the first that pass: one that is found, and then the first of the rest
pub first_found : (n : ℕ) (p : ℕ → Bool) (l : List ℕ) {j : ℕ} → Distinct l → find p l ≡ some j → first_passing (suc n) p l ≡ j ∷ first_passing n p (without j l)
unfolding first_passing
first_found n p l d e = rw (find_select p l d e) refl

pub first_zero : (p : ℕ → Bool) (l : List ℕ) → first_passing 0 p l ≡ []
unfolding first_passing
first_zero p l = refl

pub first_none : (n : ℕ) (p : ℕ → Bool) (l : List ℕ) → find p l ≡ none → first_passing n p l ≡ []
unfolding first_passing
first_none n p l e = rw (select_none p l e) (take-nil n)

-- ---- a list without any of some

-- what stays stood there
pub others_mem : {x : ℕ} (js vs : List ℕ) → Mem x (without_all js vs) → Mem x vs
unfolding without_all
others_mem [] vs m = m
others_mem (j ∷ js) vs m = (without_mem j vs (others_mem js (without j vs) m)).0

-- the others keep their order
pub others_pairwise : (R : ℕ → ℕ → Type 0) (js vs : List ℕ) → AllPairs R vs → AllPairs R (without_all js vs)
unfolding without_all
others_pairwise R [] vs s = s
others_pairwise R (j ∷ js) vs s = others_pairwise R js (without j vs) (without_pairwise R j vs s)

-- there are no more of them than before
pub others_length : (js vs : List ℕ) → length (without_all js vs) ≤ length vs
unfolding without_all
others_length [] vs = omega arith
others_length (j ∷ js) vs = omega (arith, others_length js (without j vs), without_length j vs)

-- one more left out
pub others_more : (js : List ℕ) (j : ℕ) (l : List ℕ) → without_all (js ++ j ∷ []) l ≡ without j (without_all js l)
unfolding without_all
others_more [] j l = refl
others_more (x ∷ js) j l = others_more js j (without x l)

-- ---- both

-- they stand in the list, and pass
pub first_mem : (n : ℕ) (p : ℕ → Bool) (vs : List ℕ) {x : ℕ} → Mem x (first_passing n p vs) → Mem x vs × (p x ≡ true)
unfolding first_passing
first_mem n p vs m = select_mem p vs (take_mem n (select p vs) m)

-- they and the others are counted one by one
pub count_first : (n : ℕ) (p q : ℕ → Bool) (vs : List ℕ) → Distinct vs → count_where q (first_passing n p vs) + count_where q (without_all (first_passing n p vs) vs) ≡ count_where q vs
unfolding without_all count_where
count_first zero p q vs d = rw (first_zero p vs) (omega arith)
count_first (suc n) p q vs d = ⊎_elim
    (λ (f : (j : ℕ) × (find p vs ≡ some j)).
    let j = f.0 in
    let m = (find_some p vs f.1).0 in
    let rest = count_first n p q (without j vs) (without_pairwise (λ (x y : ℕ). x ≢ y) j vs d) in
    rw (first_found n p vs d f.1) (⊎_elim
    (λ (t : q j ≡ true). rw t (omega (arith, rest, count_passing q j d m t)))
    (λ (t : q j ≡ false). rw t (omega (arith, rest, count_failing q j d m t)))
    (answers (q j))))
    (λ (e : find p vs ≡ none). rw (first_none (suc n) p vs e) (omega arith))
    (found_or_none (find p vs))
