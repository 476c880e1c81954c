-- The place at which a number first stands in a list, and cuts of the list.
use Rattle.std.specs.Prelude.{ℕ, zero, suc, ◌≤◌, ◌<◌, ◌≡◌, refl, ◌⊎◌, ◌≢◌, true, false, length, get_or, take, drop, eqb}
use Rattle.std.proofs.Common.{sym, ap, ◌∙◌, inl, inr, ⊎_elim, take-append-drop, eqb-true, eq-eqb, ne_eqb}
use mathlib.Core.List.Memᴰ.{append_left as mem-left}
use mathlib.Core.List.Memᴰ.{append_right as mem-right}
use mathlib.Core.List.Memᴰ.{head as here}
use mathlib.Core.List.Memᴰ.{not-nil}
use mathlib.Core.List.Memᴰ.{tail as there}
use mathlib.Core.List.{List, [], ◌∷◌, Memᴰ as Mem}
use native.Mathlib.Omega.{arith}
use Rattle.std.proofs.lemmas.Bool.{eqb-false}
use Rattle.model.specs.Lists.{index_of, AllPairs}
use Rattle.laws.specs.Lists.{Distinct, all_mem, mem_all, pairwise_imply, get_d_mem, mem_rest}
use Rattle.laws.specs.Booleans.{answers}

-- the first member stands at place 0
pub index_here : {j x : ℕ} (xs : List ℕ) → j ≡ x → index_of j (x ∷ xs) ≡ 0
unfolding index_of
index_here {j} {x} xs e = rw (eq-eqb j x e) refl

-- another one place later than in the rest
pub index_there : {j x : ℕ} (xs : List ℕ) → j ≢ x → index_of j (x ∷ xs) ≡ suc (index_of j xs)
unfolding index_of
index_there {j} {x} xs h = rw (ne_eqb j x h) refl

-- one or the other
pub index_cases : (j x : ℕ) (xs : List ℕ) → ((j ≡ x) × (index_of j (x ∷ xs) ≡ 0)) ⊎ ((j ≢ x) × (index_of j (x ∷ xs) ≡ suc (index_of j xs)))
index_cases j x xs = ⊎_elim
    (λ (t : eqb j x ≡ true). let e : j ≡ x = eqb-true j x t in inl (e, index_here xs e))
    (λ (t : eqb j x ≡ false). let h : j ≢ x = eqb-false j x t in inr (h, index_there xs h))
    (answers (eqb j x))

-- a member's place is inside the list
pub index_lt : {j : ℕ} {l : List ℕ} → Mem j l → index_of j l < length l
index_lt {j} (here {x = x} {xs = xs} e) = rw (index_here xs e) (omega arith)
index_lt {j} (there {x = x} {xs = xs} m) = ⊎_elim
    (λ c. omega (arith, c.1))
    (λ c. omega (arith, c.1, index_lt m))
    (index_cases j x xs)

-- at a member's place stands the member
pub get_d_index : {j : ℕ} {l : List ℕ} (d : ℕ) → Mem j l → get_or l (index_of j l) d ≡ j
get_d_index {j} d (here {x = x} {xs = xs} e) = rw (index_here xs e) (sym e)
get_d_index {j} d (there {x = x} {xs = xs} m) = ⊎_elim
    (λ c. rw c.1 (sym c.0))
    (λ c. rw c.1 (get_d_index d m))
    (index_cases j x xs)

-- in a list without repeats what stands at a place has that place
pub index_get_d : (l : List ℕ) (i d : ℕ) → Distinct l → i < length l → index_of (get_or l i d) l ≡ i
index_get_d [] i d a h = absurd (omega arith)
index_get_d (x ∷ xs) zero d a h = index_here xs refl
index_get_d (x ∷ xs) (suc i) d a h =
    let m = get_d_mem xs i d (omega arith) in
    index_there xs (λ e. all_mem (λ (y : ℕ). x ≢ y) a.0 m (sym e)) ∙ ap suc (index_get_d xs i d a.1 (omega arith))

-- two members with one place are one
pub index_injective : {i j : ℕ} {l : List ℕ} → Mem i l → Mem j l → index_of i l ≡ index_of j l → i ≡ j
index_injective {i} {j} {l} m n e = sym (get_d_index 0 m) ∙ ap (λ (k : ℕ). get_or l k 0) e ∙ get_d_index 0 n

-- places rise along a list without repeats
pub index_rises : (l : List ℕ) → Distinct l → AllPairs (λ (x y : ℕ). index_of x l < index_of y l) l
index_rises [] d = tt
index_rises (x ∷ xs) d = (
  mem_all (λ (y : ℕ). index_of x (x ∷ xs) < index_of y (x ∷ xs)) xs (λ y m. omega (arith, index_here {j = x} xs refl, index_there xs (differs y m))),
  pairwise_imply (λ (y z : ℕ). index_of y xs < index_of z xs) (λ (y z : ℕ). index_of y (x ∷ xs) < index_of z (x ∷ xs)) xs
      (λ y z m n h. omega (arith, index_there xs (differs y m), index_there xs (differs z n))) (index_rises xs d.1),
)
  where
    differs : (y : ℕ) → Mem y xs → y ≢ x
    differs y m e = all_mem (λ (y : ℕ). x ≢ y) d.0 m (sym e)

-- ---- a cut

-- those in front of cut m have a place below m
pub index_take : {j : ℕ} (m : ℕ) (l : List ℕ) → Mem j (take m l) → index_of j l < m
index_take zero l n = absurd (not-nil n)
index_take (suc m) [] n = absurd (not-nil n)
index_take {j} (suc m) (x ∷ xs) n = ⊎_elim
    (λ c. omega (arith, c.1))
    (λ c. omega (arith, c.1, index_take m xs (mem_rest n c.0)))
    (index_cases j x xs)

-- and members with a place below m stand in front of it
pub take_index : {j : ℕ} {l : List ℕ} (m : ℕ) → Mem j l → index_of j l < m → Mem j (take m l)
take_index zero n h = absurd (omega arith)
take_index (suc m) (here e) h = here e
take_index {j} (suc m) (there {x = x} {xs = xs} n) h = ⊎_elim
    (λ c. here c.0)
    (λ c. there (take_index m n (omega (arith, c.1))))
    (index_cases j x xs)

-- what a cut leaves stood in the list
pub take_mem : {j : ℕ} (m : ℕ) (l : List ℕ) → Mem j (take m l) → Mem j l
take_mem m l n = rw take-append-drop at (mem-left (drop m l) n)

-- on either side
pub drop_mem : {j : ℕ} (m : ℕ) (l : List ℕ) → Mem j (drop m l) → Mem j l
drop_mem m l n = rw take-append-drop at (mem-right (take m l) n)

-- and the first m members keep what held of earlier and later ones
pub take_pairwise : (R : ℕ → ℕ → Type 0) (m : ℕ) (l : List ℕ) → AllPairs R l → AllPairs R (take m l)
take_pairwise R zero l s = tt
take_pairwise R (suc m) [] s = tt
take_pairwise R (suc m) (x ∷ xs) s = (mem_all (R x) (take m xs) (λ y n. all_mem (R x) s.0 (take_mem m xs n)), take_pairwise R m xs s.1)

-- those behind it, in a list without repeats, have not
pub index_drop : {j : ℕ} (m : ℕ) (l : List ℕ) → Distinct l → Mem j (drop m l) → m ≤ index_of j l
index_drop zero l d n = omega arith
index_drop (suc m) [] d n = absurd (not-nil n)
index_drop {j} (suc m) (x ∷ xs) d n =
    let differs : j ≢ x = λ e. all_mem (λ (y : ℕ). x ≢ y) d.0 (drop_mem m xs n) (sym e) in
    omega (arith, index_there xs differs, index_drop m xs d.1 n)

-- ---- any number, member or not

-- a place is at most the length
pub index_le : (j : ℕ) (l : List ℕ) → index_of j l ≤ length l
index_le j [] = unfold index_of in omega arith
index_le j (x ∷ xs) = ⊎_elim (λ c. omega (arith, c.1)) (λ c. omega (arith, c.1, index_le j xs)) (index_cases j x xs)

-- at a place inside the list stands the number
pub index_stands : (j : ℕ) (l : List ℕ) → index_of j l < length l → get_or l (index_of j l) 0 ≡ j
index_stands j [] h = absurd (omega arith)
index_stands j (x ∷ xs) h = ⊎_elim (λ c. rw c.1 (sym c.0)) (λ c. rw c.1 (index_stands j xs (omega (arith, c.1)))) (index_cases j x xs)

-- and nowhere before it
pub index_first : (j : ℕ) (l : List ℕ) (k : ℕ) → k < index_of j l → get_or l k 0 ≡ j → ⊥
index_first j [] k h e = omega (arith, index_le j [])
index_first j (x ∷ xs) zero h e = omega (arith, index_here xs (sym e))
index_first j (x ∷ xs) (suc k) h e = ⊎_elim (λ c. omega (arith, c.1)) (λ c. index_first j xs k (omega (arith, c.1)) e) (index_cases j x xs)
