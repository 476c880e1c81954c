-- The greedy rule over the first vertices of a list (document 01, "Rival plans and the cut"): its pairs are those of the whole list that lie among these vertices.
-- A vertex whose partner stands behind the cut is single in the shorter run; nothing else differs.
use Prim.Native.Nat.{ℕ, zero, suc}
use Rattle.std.specs.Prelude.{◌≡◌, Bool, ◌&&◌, length}
use Rattle.std.proofs.Math.Path.{refl, ap}
use Rattle.std.proofs.Common.{sym, ◌∙◌, arith}
use Rattle.std.proofs.Math.Logic.{⊎_elim}
use Rattle.std.proofs.Math.Bool.{true, false, true≢false}
use Rattle.std.proofs.Math.Option.{none, some}
use mathlib.Core.List.{List, [], ◌∷◌, ◌++◌}
use Rattle.std.proofs.Math.ListN.{length-append}
use Rattle.model.specs.Lists.{find, select, All, without}
use Rattle.model.specs.Greedy.{greedy_steps, greedy}
use Rattle.model.specs.Rival.{Pair}
use Rattle.laws.specs.Lists.{all_mem, mem_all, found_or_none, find_some, find_left, find_right}
use Rattle.laws.specs.Without.{without_mem, without_none, without_append}
use Rattle.matching.specs.Passes.{pairs_in, step_with, step_alone, steps_greedy}

-- both vertices of a pair lie inside
abbrev pub both : (ℕ → Bool) → Pair → Bool
both inside p = inside p.one && inside p.other

module _ (fit : ℕ → ℕ → Bool) (inside : ℕ → Bool) where
  -- all lie inside
  abbrev Inside : List ℕ → Type 0
  Inside vs = All (λ (v : ℕ). inside v ≡ true) vs

  -- none lies inside
  abbrev Outside : List ℕ → Type 0
  Outside vs = All (λ (v : ℕ). inside v ≡ false) vs

  inside_without : (j : ℕ) (vs : List ℕ) → Inside vs → Inside (without j vs)
  inside_without j vs a = mem_all (λ (v : ℕ). inside v ≡ true) (without j vs) (λ v m. all_mem (λ (v : ℕ). inside v ≡ true) a (without_mem j vs m).0)

  outside_without : (j : ℕ) (vs : List ℕ) → Outside vs → Outside (without j vs)
  outside_without j vs a = mem_all (λ (v : ℕ). inside v ≡ false) (without j vs) (λ v m. all_mem (λ (v : ℕ). inside v ≡ false) a (without_mem j vs m).0)

  -- vertices outside make no pair inside
  steps_outside : (n : ℕ) (vs : List ℕ) → Outside vs → select (both inside) (pairs_in (greedy_steps n fit vs)) ≡ []
  unfolding greedy_steps pairs_in select
  steps_outside zero vs a = refl
  steps_outside (suc n) [] a = refl
  steps_outside (suc n) (v ∷ vs) a = ⊎_elim
      (λ (f : (j : ℕ) × (find (fit v) vs ≡ some j)). rw (step_with fit n v vs f.1, a.0) (steps_outside n (without f.0 vs) (outside_without f.0 vs a.1)))
      (λ (e : find (fit v) vs ≡ none). rw (step_alone fit n v vs e) (steps_outside n vs a.1))
      (found_or_none (find (fit v) vs))

  -- the same steps with and without the vertices outside
  steps_prefix : (n : ℕ) (xs ys : List ℕ) → Inside xs → Outside ys → select (both inside) (pairs_in (greedy_steps n fit (xs ++ ys))) ≡ pairs_in (greedy_steps n fit xs)
  unfolding greedy_steps pairs_in select
  steps_prefix zero xs ys a b = refl
  steps_prefix (suc n) [] ys a b = steps_outside (suc n) ys b
  steps_prefix (suc n) (x ∷ xs) ys a b = ⊎_elim
      (λ (f : (j : ℕ) × (find (fit x) xs ≡ some j)).
      let j = f.0 in
      let j-inside : inside j ≡ true = all_mem (λ (v : ℕ). inside v ≡ true) a.1 (find_some (fit x) xs f.1).0 in
      rw (step_with fit n x xs f.1, step_with fit n x (xs ++ ys) (find_left (fit x) xs ys f.1), a.0, j-inside, without_append)
      (ap (λ (l : List Pair). record { one = x; other = j } ∷ l) (steps_prefix n (without j xs) (without j ys) (inside_without j xs a.1) (outside_without j ys b))))
      (λ (e : find (fit x) xs ≡ none). ⊎_elim
      (λ (f : (j : ℕ) × (find (fit x) ys ≡ some j)).
      let j = f.0 in
      let j-outside : inside j ≡ false = all_mem (λ (v : ℕ). inside v ≡ false) b (find_some (fit x) ys f.1).0 in
      rw (step_alone fit n x xs e, step_with fit n x (xs ++ ys) (find_right (fit x) xs ys e ∙ f.1), a.0, j-outside, without_append, without_none j xs (λ y m same. true≢false (sym (all_mem (λ (v : ℕ). inside v ≡ true) a.1 m) ∙ ap inside same ∙ j-outside)))
      (steps_prefix n xs (without j ys) a.1 (outside_without j ys b)))
      (λ (k : find (fit x) ys ≡ none). rw (step_alone fit n x xs e, step_alone fit n x (xs ++ ys) (find_right (fit x) xs ys e ∙ k)) (steps_prefix n xs ys a.1 b))
      (found_or_none (find (fit x) ys)))
      (found_or_none (find (fit x) xs))

  -- the pairs inside, where the vertices inside come first, are the pairs of these vertices alone
  pub greedy_inside : (xs ys : List ℕ) → Inside xs → Outside ys → select (both inside) (pairs_in (greedy fit (xs ++ ys))) ≡ pairs_in (greedy fit xs)
  unfolding greedy
  greedy_inside xs ys a b = steps_prefix (length (xs ++ ys)) xs ys a b ∙ ap pairs_in (steps_greedy fit (length (xs ++ ys)) xs (simp length-append (omega arith)))
