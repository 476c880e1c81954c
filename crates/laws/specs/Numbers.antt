-- Ranges of numbers, and the numbers below n, as lists.
use Prim.Native.Nat.{ℕ, zero, suc, ◌+◌, ◌-◌, ◌≤◌, ◌<◌}
use Rattle.std.specs.Prelude.{◌≡◌, ◌≢◌, length, get_or}
use Rattle.std.proofs.Math.Path.{refl, ap}
use Rattle.std.proofs.Common.{sym, ◌∙◌, ⊎_elim, eq-or-lt_of_le, zero-add, add-zero}
use mathlib.Core.List.Memᴰ.{cases_cons as mem-cons}
use mathlib.Core.List.Memᴰ.{head as here}
use mathlib.Core.List.Memᴰ.{not-nil}
use mathlib.Core.List.Memᴰ.{tail as there}
use mathlib.Core.List.{List, [], ◌∷◌, ◌++◌, map, head_d, Memᴰ as Mem}
use native.Mathlib.Omega.{arith}
use Rattle.std.proofs.lemmas.List.{length-map}
use Rattle.std.proofs.Math.ListN.{get_or-append}
use Rattle.model.specs.Lists.{numbers_from, numbers, AllPairs}
use Rattle.laws.specs.Lists.{Distinct, mem_all, pairwise_imply}

-- ---- ranges

-- a range holds the numbers from a on, n of them, and rises
pub range_mem : {y : ℕ} (a n : ℕ) → Mem y (numbers_from a n) → (a ≤ y) × (y < a + n)
unfolding numbers_from
range_mem a zero m = absurd (not-nil m)
range_mem {y} a (suc n) m = ⊎_elim
    (λ (e : y ≡ a). (omega arith, omega arith))
    (λ (m : Mem y (numbers_from (suc a) n)). let r = range_mem (suc a) n m in (omega arith, omega arith))
    (mem-cons m)

pub mem_range : (y a n : ℕ) → a ≤ y → y < a + n → Mem y (numbers_from a n)
unfolding numbers_from
mem_range y a zero h k = absurd (omega arith)
mem_range y a (suc n) h k = ⊎_elim
    (λ (e : a ≡ y). here (sym e))
    (λ (l : a < y). there (mem_range y (suc a) n l (omega arith)))
    (eq-or-lt_of_le h)

pub range_rises : (a n : ℕ) → AllPairs ◌<◌ (numbers_from a n)
unfolding numbers_from
range_rises a zero = tt
range_rises a (suc n) = (mem_all (λ (y : ℕ). a < y) (numbers_from (suc a) n) (λ y m. (range_mem (suc a) n m).0), range_rises (suc a) n)

-- ---- the numbers below n

-- every number below n is one of them
pub mem_numbers : (y n : ℕ) → y < n → Mem y (numbers n)
unfolding numbers
mem_numbers y n h = mem_range y 0 n (omega arith) (omega arith)

-- and nothing else is
pub numbers_mem : {y : ℕ} (n : ℕ) → Mem y (numbers n) → y < n
unfolding numbers
numbers_mem n m = let r = range_mem 0 n m in omega (arith, r.1)

-- they rise
pub numbers_rise : (n : ℕ) → AllPairs ◌<◌ (numbers n)
unfolding numbers
numbers_rise n = range_rises 0 n

-- no number stands there twice
pub numbers_distinct : (n : ℕ) → Distinct (numbers n)
numbers_distinct n = pairwise_imply ◌<◌ (λ (x y : ℕ). x ≢ y) (numbers n) (λ x y m k l. omega arith) (numbers_rise n)

-- a range is as long as it says
pub range_length : (a n : ℕ) → length (numbers_from a n) ≡ n
unfolding numbers_from
range_length a zero = refl
range_length a (suc n) = ap suc (range_length (suc a) n)

-- there are n of them
pub numbers_length : (n : ℕ) → length (numbers n) ≡ n
unfolding numbers
numbers_length n = range_length 0 n

-- what is made of a range, member by member
range_at : {A : Type 0} (f : ℕ → A) (a n i : ℕ) (d : A) → i < n → get_or (map f (numbers_from a n)) i d ≡ f (a + i)
unfolding numbers_from
range_at f a zero i d h = absurd (omega arith)
range_at f a (suc n) zero d h = ap f (omega arith)
range_at f a (suc n) (suc i) d h = range_at f (suc a) n i d (omega arith) ∙ ap f (omega arith)

-- in a list made of them what is made of i stands at i
pub numbers_at : {A : Type 0} (f : ℕ → A) (n i : ℕ) (d : A) → i < n → get_or (map f (numbers n)) i d ≡ f i
unfolding numbers
numbers_at f n i d h = range_at f 0 n i d h ∙ ap f (omega arith)

-- also where more stands behind it
pub numbers_before : {A : Type 0} (f : ℕ → A) (n i : ℕ) (d : A) (more : List A) → i < n → get_or (map f (numbers n) ++ more) i d ≡ f i
numbers_before f n i d more h = get_or-append (map f (numbers n)) more d i (rw (length-map (numbers n) f, numbers_length n) h) ∙ numbers_at f n i d h

-- ---- the first and the last of them

-- the first of a range
pub range_head : (a n d : ℕ) → 0 < n → head_d (numbers_from a n) d ≡ a
unfolding numbers_from head_d
range_head a zero d h = absurd (omega arith)
range_head a (suc n) d h = refl

-- the numbers from i up to n: i, and those after it
pub range_first : (n i : ℕ) → i < n → numbers_from i (n - i) ≡ i ∷ numbers_from (suc i) (n - suc i)
unfolding numbers_from
range_first n i h = let one : n - i ≡ suc (n - suc i) = omega arith in rw one refl

module _ {A : Type 0} where
  -- what f makes of a range with one number more
  pub range_more : (f : ℕ → A) (a n : ℕ) → map f (numbers_from a (suc n)) ≡ map f (numbers_from a n) ++ f (a + n) ∷ []
  unfolding numbers_from
  range_more f a zero = rw (add-zero a) refl
  range_more f a (suc n) = let next : suc a + n ≡ a + suc n = omega arith in ap (λ (l : List A). f a ∷ l) (range_more f (suc a) n ∙ rw next refl)

  pub numbers_more : (f : ℕ → A) (n : ℕ) → map f (numbers (suc n)) ≡ map f (numbers n) ++ f n ∷ []
  unfolding numbers
  numbers_more f n = range_more f 0 n ∙ rw (zero-add n) refl

  -- two functions that agree on a range make the same of it
  pub range_agree : (f g : ℕ → A) (a n : ℕ) → ((k : ℕ) → a ≤ k → k < a + n → f k ≡ g k) → map f (numbers_from a n) ≡ map g (numbers_from a n)
  unfolding numbers_from
  range_agree f g a zero h = refl
  range_agree f g a (suc n) h = rw (h a (omega arith) (omega arith), range_agree f g (suc a) n (λ k l r. h k (omega arith) (omega arith))) refl
