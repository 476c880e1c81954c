-- Plain functions on lists of numbers that the other definitions are written in (docs/RULES.md, 1). Nothing here is of document 01.
use Rattle.std.specs.Prelude.{ℕ, zero, suc, ◌+◌, Bool, true, false, cond, not, ◌&&◌, ◌||◌, List, [], ◌∷◌, take, eqb}
use Rattle.std.proofs.Math.Option.{Option, none, some}

-- the numbers from a on, n of them
unfoldable pub numbers_from : ℕ → ℕ → List ℕ
numbers_from a zero = []
numbers_from a (suc n) = a ∷ numbers_from (suc a) n

-- the numbers below n
unfoldable pub numbers : ℕ → List ℕ
numbers n = numbers_from 0 n

-- x stands in the list
unfoldable pub elem : ℕ → List ℕ → Bool
elem x [] = false
elem x (y ∷ ys) = eqb x y || elem x ys

-- the place at which x first stands in the list, or the list's length
unfoldable pub index_of : ℕ → List ℕ → ℕ
index_of x [] = 0
index_of x (y ∷ ys) = cond (eqb x y) 0 (suc (index_of x ys))

-- the last of a list, or d where it is empty
unfoldable pub last_d : List ℕ → ℕ → ℕ
last_d [] d = d
last_d (x ∷ xs) d = last_d xs x

module _ {ℓ} {A : Type ℓ} where
  -- some member passes the test
  unfoldable pub any_of : (A → Bool) → List A → Bool
  any_of p [] = false
  any_of p (x ∷ xs) = p x || any_of p xs

  -- every member passes the test
  unfoldable pub all_of : (A → Bool) → List A → Bool
  all_of p [] = true
  all_of p (x ∷ xs) = p x && all_of p xs

  -- the members that pass the test, in order
  unfoldable pub select : (A → Bool) → List A → List A
  select p [] = []
  select p (x ∷ xs) = cond (p x) (x ∷ select p xs) (select p xs)

  -- how many members pass the test
  unfoldable pub count_where : (A → Bool) → List A → ℕ
  count_where p [] = 0
  count_where p (x ∷ xs) = cond (p x) (suc (count_where p xs)) (count_where p xs)

  -- the first member that passes the test
  unfoldable pub find : (A → Bool) → List A → Option A
  find p [] = none
  find p (x ∷ xs) = cond (p x) (some x) (find p xs)

  -- the numbers that f gives for the members, added up
  unfoldable pub total : (A → ℕ) → List A → ℕ
  total f [] = 0
  total f (x ∷ xs) = f x + total f xs

  -- x in front of the first member that it comes before
  unfoldable pub insert_by : (A → A → Bool) → A → List A → List A
  insert_by before x [] = x ∷ []
  insert_by before x (y ∷ ys) = cond (before x y) (x ∷ y ∷ ys) (y ∷ insert_by before x ys)

  -- the members in the order that `before` tells
  unfoldable pub sort_by : (A → A → Bool) → List A → List A
  sort_by before [] = []
  sort_by before (x ∷ xs) = insert_by before x (sort_by before xs)

  -- every member has the property
  abbrev pub All : (A → Type 0) → List A → Type 0
  All P [] = Unit {0}
  All P (x ∷ xs) = P x × All P xs

  -- the relation holds of every member and each later one
  abbrev pub AllPairs : (A → A → Type 0) → List A → Type 0
  AllPairs R [] = Unit {0}
  AllPairs R (x ∷ xs) = All (R x) xs × AllPairs R xs

-- the list without x
unfoldable pub without : ℕ → List ℕ → List ℕ
without x l = select (λ (y : ℕ). not (eqb y x)) l

-- the list without any of js
unfoldable pub without_all : List ℕ → List ℕ → List ℕ
without_all [] l = l
without_all (j ∷ js) l = without_all js (without j l)

-- the first n members that pass the test; all of these, where they are fewer
unfoldable pub first_passing : ℕ → (ℕ → Bool) → List ℕ → List ℕ
first_passing n p l = take n (select p l)
