-- The passes that the greedy rule makes (000, Algorithm 1): each vertex stands in one of them, the pairs fit, and the number of steps allowed does not matter.
use Prim.Native.Nat.{ℕ, zero, suc, ◌+◌, ◌*◌, ◌≤◌, ◌<◌}
use Rattle.std.specs.Prelude.{◌≡◌, ◌≢◌, Bool, true, length}
use Rattle.std.proofs.Math.Path.{refl, ap}
use Rattle.std.proofs.Common.{sym, ◌∙◌, arith}
use Rattle.std.proofs.Math.Logic.{⊎_elim}
use Rattle.std.proofs.lemmas.Bool.{false≢true}
use Rattle.std.proofs.Math.Option.{none, some}
use mathlib.Core.List.Memᴰ.{cases_cons as mem-cons}
use mathlib.Core.List.Memᴰ.{cast as mem-cast}
use mathlib.Core.List.Memᴰ.{head as here}
use mathlib.Core.List.Memᴰ.{tail as there}
use mathlib.Core.List.{List, [], ◌∷◌, Memᴰ as Mem}
use Rattle.std.proofs.Math.Decide.{ℕ_discrete}
use Rattle.model.specs.Lists.{index_of, any_of, find, total, All, AllPairs, without}
use Rattle.model.specs.Greedy.{Pass, pair, single, greedy_step, greedy_steps, greedy}
use Rattle.model.specs.Rival.{Pair, in_pair}
use Rattle.model.specs.Planning.{pair_count, single_count}
use Rattle.laws.specs.Lists.{Distinct, all_mem, mem_all, found_or_none, find_some}
use Rattle.laws.specs.Places.{index_rises}
use Rattle.laws.specs.Without.{without_mem, mem_without, without_pairwise, without_length, without_one}
use Rattle.matching.specs.Matchings.{paired_cases}

-- the pairs of the passes, in order
unfoldable pub pairs_in : List Pass → List Pair
pairs_in [] = []
pairs_in (pair i j ∷ ps) = record { one = i; other = j } ∷ pairs_in ps
pairs_in (single i ∷ ps) = pairs_in ps

-- the vertices of the passes
unfoldable pub vertices : List Pass → List ℕ
vertices [] = []
vertices (pair i j ∷ ps) = i ∷ j ∷ vertices ps
vertices (single i ∷ ps) = i ∷ vertices ps

-- each pass is one pair or one single
pub passes_counted : (ps : List Pass) → length ps ≡ total pair_count ps + total single_count ps
unfolding total pair_count single_count
passes_counted [] = refl
passes_counted (pair i j ∷ ps) = omega (arith, passes_counted ps)
passes_counted (single i ∷ ps) = omega (arith, passes_counted ps)

-- there are as many pairs as `pairCount` counts
pub pairs_length : (ps : List Pass) → length (pairs_in ps) ≡ total pair_count ps
unfolding pairs_in total pair_count
pairs_length [] = refl
pairs_length (pair i j ∷ ps) = omega (arith, pairs_length ps)
pairs_length (single i ∷ ps) = omega (arith, pairs_length ps)

-- a pair has two vertices, a single one
pub vertices_length : (ps : List Pass) → length (vertices ps) ≡ 2 * total pair_count ps + total single_count ps
unfolding vertices total pair_count single_count
vertices_length [] = refl
vertices_length (pair i j ∷ ps) = omega (arith, vertices_length ps)
vertices_length (single i ∷ ps) = omega (arith, vertices_length ps)

-- who is paired stands in a pass
pub paired_vertex : (ps : List Pass) (z : ℕ) → in_pair (pairs_in ps) z ≡ true → Mem z (vertices ps)
unfolding pairs_in vertices
paired_vertex [] z e = absurd (false≢true (unfold in_pair any_of in e))
paired_vertex (pair i j ∷ ps) z e = ⊎_elim
    (⊎_elim (λ (s : z ≡ i). here s) (λ (s : z ≡ j). there (here s)))
    (λ (t : in_pair (pairs_in ps) z ≡ true). there (there (paired_vertex ps z t)))
    (paired_cases (record { one = i; other = j }) (pairs_in ps) z e)
paired_vertex (single i ∷ ps) z e = there (paired_vertex ps z e)

module _ (fit : ℕ → ℕ → Bool) where
  -- ---- the steps

  -- a step that finds j
  pub step_with : (n v : ℕ) (vs : List ℕ) {j : ℕ} → find (fit v) vs ≡ some j → greedy_steps (suc n) fit (v ∷ vs) ≡ pair v j ∷ greedy_steps n fit (without j vs)
  unfolding greedy_steps greedy_step
  step_with n v vs e = rw e refl

  -- a step that finds none
  pub step_alone : (n v : ℕ) (vs : List ℕ) → find (fit v) vs ≡ none → greedy_steps (suc n) fit (v ∷ vs) ≡ single v ∷ greedy_steps n fit vs
  unfolding greedy_steps greedy_step
  step_alone n v vs e = rw e refl

  -- more steps than vertices change nothing
  pub steps_enough : (n m : ℕ) (vs : List ℕ) → length vs ≤ n → length vs ≤ m → greedy_steps n fit vs ≡ greedy_steps m fit vs
  unfolding greedy_steps
  steps_enough zero zero vs h k = refl
  steps_enough zero (suc m) [] h k = refl
  steps_enough zero (suc m) (v ∷ vs) h k = absurd (omega arith)
  steps_enough (suc n) zero [] h k = refl
  steps_enough (suc n) zero (v ∷ vs) h k = absurd (omega arith)
  steps_enough (suc n) (suc m) [] h k = refl
  steps_enough (suc n) (suc m) (v ∷ vs) h k = ⊎_elim
      (λ (f : (j : ℕ) × (find (fit v) vs ≡ some j)).
      let j = f.0 in
      rw (step_with n v vs f.1, step_with m v vs f.1) (ap (λ (l : List Pass). pair v j ∷ l) (steps_enough n m (without j vs) (omega (arith, without_length j vs)) (omega (arith, without_length j vs)))))
      (λ (e : find (fit v) vs ≡ none). rw (step_alone n v vs e, step_alone m v vs e) (ap (λ (l : List Pass). single v ∷ l) (steps_enough n m vs (omega arith) (omega arith))))
      (found_or_none (find (fit v) vs))

  -- they are the greedy rule
  pub steps_greedy : (n : ℕ) (vs : List ℕ) → length vs ≤ n → greedy_steps n fit vs ≡ greedy fit vs
  unfolding greedy
  steps_greedy n vs h = steps_enough n (length vs) vs h (omega arith)

  -- ---- the greedy rule, step by step

  -- no vertices, no passes
  pub greedy_done : greedy fit [] ≡ []
  unfolding greedy greedy_steps
  greedy_done = refl

  -- the first vertex takes the first later one that it fits with
  pub greedy_with : (v : ℕ) (vs : List ℕ) {j : ℕ} → find (fit v) vs ≡ some j → greedy fit (v ∷ vs) ≡ pair v j ∷ greedy fit (without j vs)
  unfolding greedy
  greedy_with v vs {j} e = step_with (length vs) v vs e ∙ ap (λ (l : List Pass). pair v j ∷ l) (steps_greedy (length vs) (without j vs) (without_length j vs))

  -- or stays alone
  pub greedy_alone : (v : ℕ) (vs : List ℕ) → find (fit v) vs ≡ none → greedy fit (v ∷ vs) ≡ single v ∷ greedy fit vs
  unfolding greedy
  greedy_alone v vs e = step_alone (length vs) v vs e

  -- the passes ps of the vertices vs
  pub data Run : List ℕ → List Pass → Type 0 where
    done : Run [] []
    matched : {v j : ℕ} {vs : List ℕ} {ps : List Pass} → find (fit v) vs ≡ some j → Run (without j vs) ps → Run (v ∷ vs) (pair v j ∷ ps)
    alone : {v : ℕ} {vs : List ℕ} {ps : List Pass} → find (fit v) vs ≡ none → Run vs ps → Run (v ∷ vs) (single v ∷ ps)

  -- the greedy rule makes them
  pub greedy_run : (vs : List ℕ) → Run vs (greedy fit vs)
  greedy_run vs = running (length vs) vs (omega arith)
    where
      running : (n : ℕ) (vs : List ℕ) → length vs ≤ n → Run vs (greedy fit vs)
      running zero [] h = rw greedy_done done
      running zero (v ∷ vs) h = absurd (omega arith)
      running (suc n) [] h = rw greedy_done done
      running (suc n) (v ∷ vs) h = ⊎_elim
          (λ (f : (j : ℕ) × (find (fit v) vs ≡ some j)). rw (greedy_with v vs f.1) (matched f.1 (running n (without f.0 vs) (omega (arith, without_length f.0 vs)))))
          (λ (e : find (fit v) vs ≡ none). rw (greedy_alone v vs e) (alone e (running n vs (omega arith))))
          (found_or_none (find (fit v) vs))

  -- ---- what the passes hold

  -- what stands in a pass is a vertex
  pub run_mem : {x : ℕ} {vs : List ℕ} {ps : List Pass} → Run vs ps → Mem x (vertices ps) → Mem x vs
  unfolding vertices
  run_mem done m = m
  run_mem {x} (matched {v = v} {j = j} {vs = vs} {ps = ps} e r) m = ⊎_elim
      (λ (s : x ≡ v). here s)
      (λ m. ⊎_elim
      (λ (s : x ≡ j). there (mem-cast s (find_some (fit v) vs e).0))
      (λ (m : Mem x (vertices ps)). there (without_mem j vs (run_mem r m)).0)
      (mem-cons m))
      (mem-cons m)
  run_mem {x} (alone {ps = ps} e r) m = ⊎_elim (λ s. here s) (λ (m : Mem x (vertices ps)). there (run_mem r m)) (mem-cons m)

  -- and every vertex stands in a pass
  pub mem_run : {x : ℕ} {vs : List ℕ} {ps : List Pass} → Run vs ps → Mem x vs → Mem x (vertices ps)
  unfolding vertices
  mem_run done m = m
  mem_run {x} (matched {v = v} {j = j} {vs = vs} {ps = ps} e r) m = ⊎_elim
      (λ (s : x ≡ v). here s)
      (λ (m : Mem x vs). there (elim (ℕ_discrete x j) [
        | yes s ↦ here s
        | no k ↦ there (mem_run r (mem_without j m k))
      ]))
      (mem-cons m)
  mem_run {x} (alone {vs = vs} e r) m = ⊎_elim (λ s. here s) (λ (m : Mem x vs). there (mem_run r m)) (mem-cons m)

  -- in one pass only
  pub run_distinct : {vs : List ℕ} {ps : List Pass} → Run vs ps → Distinct vs → Distinct (vertices ps)
  unfolding vertices
  run_distinct done d = tt
  run_distinct (matched {v = v} {j = j} {vs = vs} {ps = ps} e r) d =
      let others : (y : ℕ) → Mem y (vertices ps) → Mem y vs × (y ≢ j) = λ y m. without_mem j vs (run_mem r m) in (
        (all_mem (λ (y : ℕ). v ≢ y) d.0 (find_some (fit v) vs e).0, mem_all (λ (y : ℕ). v ≢ y) (vertices ps) (λ y m. all_mem (λ (y : ℕ). v ≢ y) d.0 (others y m).0)),
        (mem_all (λ (y : ℕ). j ≢ y) (vertices ps) (λ y m s. (others y m).1 (sym s)), run_distinct r (without_pairwise (λ (x y : ℕ). x ≢ y) j vs d.1)),
      )
  run_distinct (alone {v = v} {vs = vs} {ps = ps} e r) d = (mem_all (λ (y : ℕ). v ≢ y) (vertices ps) (λ y m. all_mem (λ (y : ℕ). v ≢ y) d.0 (run_mem r m)), run_distinct r d.1)

  -- so there are as many vertices in them
  pub run_length_lem : {vs : List ℕ} {ps : List Pass} → Run vs ps → Distinct vs → length vs ≡ length (vertices ps)
  unfolding vertices
  run_length_lem done d = refl
  run_length_lem (matched {v = v} {j = j} {vs = vs} {ps = ps} e r) d =
      omega (arith, without_one j d.1 (find_some (fit v) vs e).0, run_length_lem r (without_pairwise (λ (x y : ℕ). x ≢ y) j vs d.1))
  run_length_lem (alone e r) d = ap suc (run_length_lem r d.1)

  -- the vertices of a pair fit
  pub run_fits : {vs : List ℕ} {ps : List Pass} → Run vs ps → All (λ (p : Pair). fit p.one p.other ≡ true) (pairs_in ps)
  unfolding pairs_in
  run_fits done = tt
  run_fits (matched {v = v} {vs = vs} e r) = ((find_some (fit v) vs e).1, run_fits r)
  run_fits (alone e r) = run_fits r

  -- the first of a pair stands before the second: what holds of every vertex and each later one holds of them
  pub run_before : (R : ℕ → ℕ → Type 0) {vs : List ℕ} {ps : List Pass} → Run vs ps → AllPairs R vs → All (λ (p : Pair). R p.one p.other) (pairs_in ps)
  unfolding pairs_in
  run_before R done s = tt
  run_before R (matched {v = v} {j = j} {vs = vs} e r) s = (all_mem (R v) s.0 (find_some (fit v) vs e).0, run_before R r (without_pairwise R j vs s.1))
  run_before R (alone e r) s = run_before R r s.1

  -- ---- the greedy rule's passes

  -- no vertex stands in two passes
  pub greedy_distinct : (vs : List ℕ) → Distinct vs → Distinct (vertices (greedy fit vs))
  greedy_distinct vs d = run_distinct (greedy_run vs) d

  -- every vertex stands in a pass
  pub greedy_mem : {x : ℕ} {vs : List ℕ} → Mem x vs → Mem x (vertices (greedy fit vs))
  greedy_mem {vs = vs} m = mem_run (greedy_run vs) m

  -- and nothing else does
  pub mem_greedy : {x : ℕ} (vs : List ℕ) → Mem x (vertices (greedy fit vs)) → Mem x vs
  mem_greedy vs m = run_mem (greedy_run vs) m

  -- there are as many vertices as twice the pairs, and the singles
  pub greedy_count : (vs : List ℕ) → Distinct vs → length vs ≡ 2 * total pair_count (greedy fit vs) + total single_count (greedy fit vs)
  greedy_count vs d = run_length_lem (greedy_run vs) d ∙ vertices_length (greedy fit vs)

  -- the pairs fit
  pub greedy_fits : (vs : List ℕ) → All (λ (p : Pair). fit p.one p.other ≡ true) (pairs_in (greedy fit vs))
  greedy_fits vs = run_fits (greedy_run vs)

  -- and the first of a pair stands before the second
  pub greedy_before : (R : ℕ → ℕ → Type 0) (vs : List ℕ) → AllPairs R vs → All (λ (p : Pair). R p.one p.other) (pairs_in (greedy fit vs))
  greedy_before R vs s = run_before R (greedy_run vs) s

  -- as the places in the list say
  pub greedy_places : (vs : List ℕ) → Distinct vs → All (λ (p : Pair). index_of p.one vs < index_of p.other vs) (pairs_in (greedy fit vs))
  greedy_places vs d = greedy_before (λ (x y : ℕ). index_of x vs < index_of y vs) vs (index_rises vs d)
