-- The greedy rule under other names for its vertices: where each vertex has a name of its own, and names are related as their vertices are, the passes
-- of the names are the names of the passes.
use Rattle.std.specs.Prelude.{ℕ, zero, suc, ◌≡◌, Bool, true, false, take}
use Rattle.std.proofs.Math.Path.{refl, sym, ap}
use Rattle.std.proofs.Common.{◌∙◌, arith}
use Rattle.std.proofs.Math.Logic.{⊎_elim}
use Rattle.std.proofs.Math.Option.{Option, none, some}
use mathlib.Core.List.Memᴰ.{head as here}
use mathlib.Core.List.Memᴰ.{tail as there}
use mathlib.Core.List.{List, [], ◌∷◌, map, Memᴰ as Mem}
use Rattle.std.proofs.Math.Decide.{ℕ_discrete}
use Rattle.std.proofs.lemmas.List.{length-map}
use Rattle.model.specs.Lists.{find, all_of, select, total, All, AllPairs, without, without_all, first_passing}
use Rattle.model.specs.Greedy.{Pass, pair, single, greedy}
use Rattle.model.specs.Grouping.{grouping, all_full}
use Rattle.model.specs.Planning.{pair_count}
use Rattle.laws.specs.Booleans.{answers}
use Rattle.laws.specs.Lists.{find_some}
use Rattle.laws.specs.Firsts.{first_mem, others_mem, others_pairwise}
use Rattle.laws.specs.Without.{without_mem, without_pairwise, without_drop, without_keep}
use Rattle.matching.specs.Grouping as grouped
use Rattle.matching.specs.Grouping.{grouping_done, grouping_step, GroupRun, opened, grouping_run}
use Rattle.matching.specs.Passes.{greedy_done, greedy_with, greedy_alone, Run, done, matched, alone, greedy_run}

-- a pass by the names of its vertices
unfoldable pub renamed : (ℕ → ℕ) → Pass → Pass
renamed f (pair p q) = pair (f p) (f q)
renamed f (single p) = single (f p)

-- no two members have one name
abbrev pub NamesApart : (ℕ → ℕ) → List ℕ → Type 0
NamesApart f vs = (x y : ℕ) → Mem x vs → Mem y vs → f x ≡ f y → x ≡ y

module _ (f : ℕ → ℕ) where
  -- what a search finds, by name
  name : Option ℕ → Option ℕ
  name none = none
  name (some j) = some (f j)

  find_renamed : (p q : ℕ → Bool) (vs : List ℕ) → All (λ (x : ℕ). p x ≡ q (f x)) vs → find q (map f vs) ≡ name (find p vs)
  unfolding find name
  find_renamed p q [] a = refl
  find_renamed p q (x ∷ xs) a = ⊎_elim
      (λ (e : p x ≡ true). rw (← a.0, e) refl)
      (λ (e : p x ≡ false). rw (← a.0, e) (find_renamed p q xs a.1))
      (answers (p x))

  without_renamed : (j : ℕ) (vs : List ℕ) → ((x : ℕ) → Mem x vs → f x ≡ f j → x ≡ j) → without (f j) (map f vs) ≡ map f (without j vs)
  unfolding without select
  without_renamed j [] apart = refl
  without_renamed j (x ∷ xs) apart = elim (ℕ_discrete x j) [
    | yes same ↦ rw (same, without_drop (f j) (map f xs), without_drop j xs) (without_renamed j xs (λ y m. apart y (there m)))
    | no other ↦ rw (without_keep (f j) (f x) (map f xs) (λ e. other (apart x (here refl) e)), without_keep j x xs other) (ap (λ (l : List ℕ). f x ∷ l) (without_renamed j xs (λ y m. apart y (there m))))
  ]

  module _ (r r' : ℕ → ℕ → Bool) where
    -- a vertex is related to each later one as their names are
    abbrev Agrees : ℕ → ℕ → Type 0
    Agrees x y = r x y ≡ r' (f x) (f y)

    run_renamed : {vs : List ℕ} {ps : List Pass} → Run r vs ps → NamesApart f vs → AllPairs Agrees vs → map (renamed f) ps ≡ greedy r' (map f vs)
    unfolding renamed name
    run_renamed done apart a = sym (greedy_done r')
    run_renamed (matched {v = v} {j = j} {vs = vs} {ps = ps} e run) apart a =
        let found : find (r' (f v)) (map f vs) ≡ some (f j) = find_renamed (r v) (r' (f v)) vs a.0 ∙ ap name e in
        let inside : Mem j vs = (find_some (r v) vs e).0 in
        let rest : map (renamed f) ps ≡ greedy r' (map f (without j vs)) = run_renamed run (λ x y m n. apart x y (there (without_mem j vs m).0) (there (without_mem j vs n).0)) (without_pairwise Agrees j vs a.1) in
        ap (λ (l : List Pass). pair (f v) (f j) ∷ l) (rest ∙ ap (greedy r') (sym (without_renamed j vs (λ x m. apart x j (there m) (there inside)))))
        ∙ sym (greedy_with r' (f v) (map f vs) found)
    run_renamed (alone {v = v} {vs = vs} {ps = ps} e run) apart a =
        ap (λ (l : List Pass). single (f v) ∷ l) (run_renamed run (λ x y m n. apart x y (there m) (there n)) a.1)
        ∙ sym (greedy_alone r' (f v) (map f vs) (find_renamed (r v) (r' (f v)) vs a.0 ∙ ap name e))

    -- the names of the passes are the passes of the names
    pub greedy_renamed : (vs : List ℕ) → NamesApart f vs → AllPairs Agrees vs → map (renamed f) (greedy r vs) ≡ greedy r' (map f vs)
    greedy_renamed vs apart a = run_renamed (greedy_run r vs) apart a

  -- ---- the grouping rule

  select_renamed : (p q : ℕ → Bool) (vs : List ℕ) → All (λ (x : ℕ). p x ≡ q (f x)) vs → select q (map f vs) ≡ map f (select p vs)
  unfolding select
  select_renamed p q [] a = refl
  select_renamed p q (x ∷ xs) a = ⊎_elim
      (λ (e : p x ≡ true). rw (← a.0, e) (ap (λ (l : List ℕ). f x ∷ l) (select_renamed p q xs a.1)))
      (λ (e : p x ≡ false). rw (← a.0, e) (select_renamed p q xs a.1))
      (answers (p x))

  take_renamed : (n : ℕ) (vs : List ℕ) → take n (map f vs) ≡ map f (take n vs)
  take_renamed zero vs = refl
  take_renamed (suc n) [] = refl
  take_renamed (suc n) (x ∷ xs) = ap (λ (l : List ℕ). f x ∷ l) (take_renamed n xs)

  first_renamed : (n : ℕ) (p q : ℕ → Bool) (vs : List ℕ) → All (λ (x : ℕ). p x ≡ q (f x)) vs → first_passing n q (map f vs) ≡ map f (first_passing n p vs)
  unfolding first_passing
  first_renamed n p q vs a = rw (select_renamed p q vs a) (take_renamed n (select p vs))

  others_renamed : (js vs : List ℕ) → ((j x : ℕ) → Mem j js → Mem x vs → f x ≡ f j → x ≡ j) → without_all (map f js) (map f vs) ≡ map f (without_all js vs)
  unfolding without_all
  others_renamed [] vs apart = refl
  others_renamed (j ∷ js) vs apart =
      ap (λ (l : List ℕ). without_all (map f js) l) (without_renamed j vs (λ x m. apart j x (here refl) m)) ∙ others_renamed js (without j vs) (λ i x m n. apart i x (there m) (without_mem j vs n).0)

  module _ (n : ℕ) (r r' : ℕ → ℕ → Bool) where
    group_run_renamed : {vs : List ℕ} {gs : List (List ℕ)} → GroupRun n r vs gs → NamesApart f vs → AllPairs (λ (x y : ℕ). r x y ≡ r' (f x) (f y)) vs → map (map f) gs ≡ grouping n r' (map f vs)
    group_run_renamed grouped.done apart a = sym (grouping_done n r')
    group_run_renamed (opened {v = v} {vs = vs} {gs = gs} run) apart a =
        let got : List ℕ = first_passing n (r v) vs in
        let same : first_passing n (r' (f v)) (map f vs) ≡ map f got = first_renamed n (r v) (r' (f v)) vs a.0 in
        let rest : map (map f) gs ≡ grouping n r' (map f (without_all got vs)) = group_run_renamed run (λ x y m k. apart x y (there (others_mem got vs m)) (there (others_mem got vs k))) (others_pairwise (λ (x y : ℕ). r x y ≡ r' (f x) (f y)) got vs a.1) in
        ap (λ (l : List (List ℕ)). (f v ∷ map f got) ∷ l) (rest ∙ ap (grouping n r') (sym (others_renamed got vs (λ j x m k. apart x j (there k) (there (first_mem n (r v) vs m).0)))))
        ∙ sym (rw same at (grouping_step n r' (f v) (map f vs)))

    -- the names of the groups are the groups of the names
    pub grouping_renamed : (vs : List ℕ) → NamesApart f vs → AllPairs (λ (x y : ℕ). r x y ≡ r' (f x) (f y)) vs → map (map f) (grouping n r vs) ≡ grouping n r' (map f vs)
    grouping_renamed vs apart a = group_run_renamed (grouping_run n r vs) apart a

  -- a group renamed has as many members
  pub full_renamed : (g : ℕ) (gs : List (List ℕ)) → all_full g (map (map f) gs) ≡ all_full g gs
  unfolding all_full all_of
  full_renamed g [] = refl
  full_renamed g (group ∷ gs) = rw (length-map group f, full_renamed g gs) refl

  -- ---- totals over renamed passes

  -- a pass renamed is as many pairs
  pub pairs_renamed : (ps : List Pass) → total pair_count (map (renamed f) ps) ≡ total pair_count ps
  unfolding total pair_count renamed
  pairs_renamed [] = refl
  pairs_renamed (pair p q ∷ ps) = omega (arith, pairs_renamed ps)
  pairs_renamed (single p ∷ ps) = omega (arith, pairs_renamed ps)

  -- numbers given to passes by their openers, which are vertices, add up alike
  module _ (r : ℕ → ℕ → Bool) (g h : Pass → ℕ) (same-pair : (p q : ℕ) → g (pair p q) ≡ g (single p)) (same-pair' : (p q : ℕ) → h (pair p q) ≡ h (single p)) where
    run_total : {vs : List ℕ} {ps : List Pass} → Run r vs ps → ((x : ℕ) → Mem x vs → g (single x) ≡ h (single (f x))) → total g ps ≡ total h (map (renamed f) ps)
    unfolding total renamed
    run_total done e = refl
    run_total (matched {v = v} {j = j} {vs = vs} {ps = ps} s run) e =
        omega (arith, same-pair v j, same-pair' (f v) (f j), e v (here refl), run_total run (λ x m. e x (there (without_mem j vs m).0)))
    run_total (alone {v = v} {vs = vs} {ps = ps} s run) e = omega (arith, e v (here refl), run_total run (λ x m. e x (there m)))

    pub total_renamed : (vs : List ℕ) → ((x : ℕ) → Mem x vs → g (single x) ≡ h (single (f x))) → total g (greedy r vs) ≡ total h (map (renamed f) (greedy r vs))
    total_renamed vs e = run_total (greedy_run r vs) e
