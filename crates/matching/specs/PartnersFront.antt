-- A partner buffer whose first M cells are ours: what stands behind them changes neither the cells nor the pairs that they hold.
use Rattle.std.specs.Prelude.{ℕ, ◌<◌, ◌≡◌, refl, true, false, ◌&&◌, List, [], ◌∷◌, ◌++◌, map, length, get_or, ltb}
use Rattle.std.proofs.Common.{◌∙◌, ⊎_elim, arith}
use Rattle.std.proofs.Math.ListN.{length-map, get_or-append}
use Rattle.model.specs.Lists.{numbers, select, All}
use Rattle.model.specs.Tree.{FFFF}
use Rattle.model.specs.Jobs.{Table, jobs}
use Rattle.model.specs.Rival.{Pair, pairs_of}
use Rattle.model.specs.Planning.{partner_in, partners}
use Rattle.model.specs.Greedy.{passes}
use Rattle.laws.specs.Booleans.{answers}
use Rattle.laws.specs.Lists.{mem_all}
use Rattle.laws.specs.Numbers.{numbers_mem, numbers_length}

-- the pairs that cells f show at the numbers l, each by its smaller number, both below n
abbrev shown_by : (ℕ → ℕ) → ℕ → List ℕ → List Pair
shown_by f n l = map (λ (i : ℕ). record { one = i; other = f i }) (select (λ (i : ℕ). ltb i (f i) && ltb (f i) n) l)

-- cells that are alike show the same pairs
shown_agree : (f g : ℕ → ℕ) (n : ℕ) (l : List ℕ) → All (λ (i : ℕ). f i ≡ g i) l → shown_by f n l ≡ shown_by g n l
unfolding select
shown_agree f g n [] a = refl
shown_agree f g n (x ∷ xs) a = ⊎_elim
    (λ (e : (ltb x (g x) && ltb (g x) n) ≡ true). rw (a.0, e, a.0, shown_agree f g n xs a.1) refl)
    (λ (e : (ltb x (g x) && ltb (g x) n) ≡ false). rw (a.0, e, shown_agree f g n xs a.1) refl)
    (answers (ltb x (g x) && ltb (g x) n))

-- two buffers that agree in the first n cells hold the same pairs
pub pairs_agree : (n : ℕ) (cells others : List ℕ) → ((i : ℕ) → i < n → get_or cells i FFFF ≡ get_or others i FFFF) → pairs_of n cells ≡ pairs_of n others
unfolding pairs_of
pairs_agree n cells others h =
    shown_agree (λ (i : ℕ). get_or cells i FFFF) (λ (i : ℕ). get_or others i FFFF) n (numbers n)
    (mem_all (λ (i : ℕ). get_or cells i FFFF ≡ get_or others i FFFF) (numbers n) (λ i m. h i (numbers_mem n m)))

module _ (tb : Table) where
  -- a partner for each job
  pub partners_length : length (partners tb) ≡ jobs tb
  unfolding partners
  partners_length = length-map (numbers (jobs tb)) (partner_in (passes tb)) ∙ numbers_length (jobs tb)

  module _ (rest : List ℕ) where
    -- what stands behind the first M cells does not change them
    pub partners_front : (i : ℕ) → i < jobs tb → get_or (partners tb ++ rest) i FFFF ≡ get_or (partners tb) i FFFF
    partners_front i h = get_or-append (partners tb) rest FFFF i (omega (arith, partners_length))

    -- nor the pairs that they hold
    pub pairs_front : pairs_of (jobs tb) (partners tb ++ rest) ≡ pairs_of (jobs tb) (partners tb)
    pairs_front = pairs_agree (jobs tb) (partners tb ++ rest) (partners tb) partners_front
