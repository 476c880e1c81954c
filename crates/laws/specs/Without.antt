-- A list of numbers without one of them, and with it the length of a list without repeats.
use Rattle.std.specs.Prelude.{ℕ, suc, ◌≤◌, zero, ◌<◌, ◌≡◌, refl, ◌≢◌, true, false, not, length, eqb}
use Rattle.std.proofs.Common.{sym, ap, ◌∙◌, ⊎_elim, arith, eq-eqb, ne_eqb}
use mathlib.Core.List.Memᴰ.{head as here}
use mathlib.Core.List.Memᴰ.{tail as there}
use mathlib.Core.List.{List, [], ◌∷◌, ◌++◌, Memᴰ as Mem}
use Rattle.std.proofs.Math.Decide.{ℕ_discrete}
use Rattle.std.proofs.lemmas.Bool.{eqb-false, not-true}
use Rattle.model.specs.Lists.{select, AllPairs, All, without}
use Rattle.laws.specs.Lists.{Distinct, all_mem, mem_all, select_all, select_mem, mem_select, select_pairwise}
use Rattle.laws.specs.Booleans.{answers}

-- what stays is not j, and stood in the list
pub without_mem : {x : ℕ} (j : ℕ) (l : List ℕ) → Mem x (without j l) → Mem x l × (x ≢ j)
unfolding without
without_mem {x} j l m = let s = select_mem (λ (v : ℕ). not (eqb v j)) l m in (s.0, eqb-false x j (not-true (eqb x j) s.1))

-- and all that is not j stays
pub mem_without : {x : ℕ} (j : ℕ) {l : List ℕ} → Mem x l → x ≢ j → Mem x (without j l)
unfolding without
mem_without {x} j m h = mem_select (λ (v : ℕ). not (eqb v j)) m (ap not (ne_eqb x j h))

-- the others keep their order
pub without_pairwise : (R : ℕ → ℕ → Type 0) (j : ℕ) (l : List ℕ) → AllPairs R l → AllPairs R (without j l)
unfolding without
without_pairwise R j l s = select_pairwise (λ (v : ℕ). not (eqb v j)) R l s

-- there are no more of them than before
pub without_length : (j : ℕ) (l : List ℕ) → length (without j l) ≤ length l
unfolding without select
without_length j [] = omega arith
without_length j (x ∷ xs) = ⊎_elim
    (λ (t : not (eqb x j) ≡ true). rw t (omega (arith, without_length j xs)))
    (λ (t : not (eqb x j) ≡ false). rw t (omega (arith, without_length j xs)))
    (answers (not (eqb x j)))

-- where j does not stand nothing changes
pub without_none : (j : ℕ) (l : List ℕ) → ((x : ℕ) → Mem x l → x ≢ j) → without j l ≡ l
unfolding without
without_none j l h = select_all (λ (v : ℕ). not (eqb v j)) l (mem_all (λ (v : ℕ). not (eqb v j) ≡ true) l (λ x m. ap not (ne_eqb x j (h x m))))

-- j itself is left out
pub without_drop : (j : ℕ) (l : List ℕ) → without j (j ∷ l) ≡ without j l
unfolding without select
without_drop j l = rw (eq-eqb j j refl) refl

-- and another stays
pub without_keep : (j x : ℕ) (l : List ℕ) → x ≢ j → without j (x ∷ l) ≡ x ∷ without j l
unfolding without select
without_keep j x l h = rw (ne_eqb x j h) refl

-- where j stands once there is one less
pub without_one : (j : ℕ) {l : List ℕ} → Distinct l → Mem j l → length l ≡ suc (length (without j l))
without_one j d (here {x = x} {xs = xs} e) = rw (e, without_drop, without_none x xs (λ y m same. all_mem (λ (y : ℕ). x ≢ y) d.0 m (sym same))) refl
without_one j d (there {x = x} {xs = xs} m) = rw (without_keep j x xs (all_mem (λ (y : ℕ). x ≢ y) d.0 m)) (ap suc (without_one j d.1 m))

-- two parts, each without j
pub without_append : (j : ℕ) (xs ys : List ℕ) → without j (xs ++ ys) ≡ without j xs ++ without j ys
unfolding without select
without_append j [] ys = refl
without_append j (x ∷ xs) ys = ⊎_elim
    (λ (t : not (eqb x j) ≡ true). rw t (ap (λ (l : List ℕ). x ∷ l) (without_append j xs ys)))
    (λ (t : not (eqb x j) ≡ false). rw t (without_append j xs ys))
    (answers (not (eqb x j)))

-- one number left out of a list without repeats makes it shorter by one at most
without_shorter : (n : ℕ) (l : List ℕ) → Distinct l → length l ≤ suc (length (without n l))
without_shorter n [] d = omega arith
without_shorter n (x ∷ xs) d = elim (ℕ_discrete x n) [
  | yes same ↦ rw (same, without_drop n xs, without_none n xs (λ y m e. all_mem (λ (y : ℕ). x ≢ y) d.0 m (same ∙ sym e))) (omega arith)
  | no other ↦ rw (without_keep n x xs other) (omega (arith, without_shorter n xs d.1))
]

-- numbers below n without repeats are at most n: leave n - 1 out, which stands there once at most
pub distinct_bound : (n : ℕ) (l : List ℕ) → Distinct l → All (λ (y : ℕ). y < n) l → length l ≤ n
distinct_bound zero [] d a = omega arith
distinct_bound zero (x ∷ xs) d a = absurd (omega arith)
distinct_bound (suc n) l d a =
    omega (arith, without_shorter n l d, distinct_bound n (without n l) (without_pairwise (λ (x y : ℕ). x ≢ y) n l d) (mem_all (λ (y : ℕ). y < n) (without n l) smaller))
  where
    smaller : (y : ℕ) → Mem y (without n l) → y < n
    smaller y m =
        let s = without_mem n l m in
        let below : y < suc n = all_mem (λ (y : ℕ). y < suc n) a s.0 in
        let differs : y ≢ n = s.1 in
        omega arith
