-- The shared stretch of two lists of layout numbers (docs/RULES.md, 12; document 01, "Shared stretch", as 2026-02 changed it): a leading 0 is dropped from each; which list
-- it begins then, how long it is, and what the answer, a lent part of that list, has to be.
use Rattle.std.specs.Prelude.{ℕ, suc, ◌+◌, ◌*◌, ◌≡◌, List, [], ◌∷◌, Bool, false, cond, length, take, drop, ltb, eqb}
use Rattle.std.specs.Borrow.{Bor}
use Rattle.model.specs.Lists.{index_of}

-- how many cells are dropped from a list: one, where it begins with layout 0
unfoldable pub dropped : List ℕ → ℕ
dropped [] = 0
dropped (x ∷ xs) = cond (eqb x 0) 1 0

-- the list as dropped
abbrev pub kept : List ℕ → List ℕ
kept xs = drop (dropped xs) xs

-- how many numbers the longest leading part has that is the same in xs and ys
unfoldable pub agreement : List ℕ → List ℕ → ℕ
agreement [] ys = 0
agreement (x ∷ xs) [] = 0
agreement (x ∷ xs) (y ∷ ys) = cond (eqb x y) (suc (agreement xs ys)) 0

-- whether the first number of xs stands in ys
unfoldable pub starts_in : List ℕ → List ℕ → Bool
starts_in [] ys = false
starts_in (x ∷ xs) ys = ltb (index_of x ys) (length ys)

-- how many numbers the longest leading part of xs has that agrees with ys from where the first number of xs first stands there
unfoldable pub leading : List ℕ → List ℕ → ℕ
leading [] ys = 0
leading (x ∷ xs) ys = agreement (x ∷ xs) (drop (index_of x ys) ys)

-- a leading part of one of two lists: the list that it begins, and how many numbers it has
pub data Stretch : Type 0 where
  of_first : ℕ → Stretch
  of_second : ℕ → Stretch

-- the shared stretch of two lists as dropped: of two paths written from top to bottom, their common subpath without layout 0
unfoldable pub stretch_of : List ℕ → List ℕ → Stretch
stretch_of xs ys = cond (starts_in xs ys) (of_first (leading xs ys)) (cond (starts_in ys xs) (of_second (leading ys xs)) (of_first 0))

-- how many numbers a stretch has
abbrev pub length_of : Stretch → ℕ
length_of (of_first n) = n
length_of (of_second n) = n

-- the one of two things that a stretch begins
abbrev pub begun : {A : Type 0} → Stretch → A → A → A
begun (of_first n) first second = first
begun (of_second n) first second = second

-- the numbers of a stretch of xs and ys
abbrev pub numbers_of : Stretch → List ℕ → List ℕ → List ℕ
numbers_of s xs ys = take (length_of s) (begun s xs ys)

-- where a list as dropped starts: `ref_ptr` is a block and an offset in it by bytes, and a cell has two
abbrev pub kept_from : Bor (List ℕ) → ℕ × ℕ
kept_from list = (list.ref_ptr.0, list.ref_ptr.1 + 2 * dropped list.now)

-- what is given back holds the shared stretch of the two lists as dropped, and is borrowed from the start of the one that it begins
pub record StretchOutcome (first second given : Bor (List ℕ)) : Type 0 where
  pub holds : given.now ≡ numbers_of (stretch_of (kept first.now) (kept second.now)) (kept first.now) (kept second.now)
  pub borrowed : given.ref_ptr ≡ begun (stretch_of (kept first.now) (kept second.now)) (kept_from first) (kept_from second)
