-- The order in which the sweep reaches the bottoms, and how far it has come at a turn: the places reached are those that ask and whose bottoms are as deep
-- as the highest layout at hand.
use Rattle.std.specs.Prelude.{ℕ, suc, ◌<◌, ◌≤◌, ◌≡◌, refl, ◌≢◌, Bool, false, ◌&&◌, length, get_or, take, leb}
use Rattle.std.proofs.Math.Path.{sym}
use Rattle.std.proofs.Common.{ap, ◌∙◌, arith}
use Rattle.std.proofs.Math.Logic.{⊎_elim}
use Rattle.std.proofs.Math.Bool.{true, and-eq-true_iff}
use mathlib.Core.List.{List, [], ◌∷◌, Memᴰ as Mem}
use Rattle.std.proofs.Math.Decide.{ℕ_discrete}
use borrow.Author.Tests.{le-leb, leb-true}
use Rattle.model.specs.Lists.{numbers, elem, index_of, select, count_where, All, AllPairs}
use Rattle.model.specs.Jobs.{Table, jobs, highest_depth}
use Rattle.laws.specs.Lists.{Distinct, all_mem, mem_all, elem_mem, mem_elem, select_mem, mem_select, select_pairwise, get_d_mem, pairwise_imply}
use Rattle.laws.specs.Booleans.{answers, same_test}
use Rattle.laws.specs.Numbers.{mem_numbers, numbers_mem, numbers_distinct}
use Rattle.laws.specs.Counting.{count_none, count_all, count_length, count_select, count_within, count_implies}
use Rattle.laws.specs.Places.{index_get_d, index_take}
use Rattle.laws.specs.Sorting.{StrictOrder, Before, sort_mem, mem_sort, sort_length, sort_count, sort_sorted, sort_rank, sorted_distinct}
use Rattle.tree_laws.specs.Ancestors.{ancestor_depth}
use Rattle.tree_laws.specs.Sharing.{highest_above}
use Rattle.jobs.specs.Accepted.{Accepted}
use Rattle.matching.specs.RunningOrder.{lexicographic_true, lexicographic_asymmetric, lexicographic_falling, lexicographic_total}
use Rattle.schedule.specs.OfTable.{job_at, asking, bottom_depth, sooner, reach_order, due}
use Rattle.schedule_laws.specs.Places.{job_known, later_depth}

-- where a test passes for a leading part of a list only, that part is what it selects
leading_part : (test : ℕ → Bool) (l : List ℕ) → AllPairs (λ (x y : ℕ). test y ≡ true → test x ≡ true) l → take (count_where test l) l ≡ select test l
unfolding count_where select
leading_part test [] s = refl
leading_part test (x ∷ xs) s = ⊎_elim
    (λ (e : test x ≡ true). rw e (ap (λ (l : List ℕ). x ∷ l) (leading_part test xs s.1)))
    (λ (e : test x ≡ false).
    let none : count_where test xs ≡ 0 = count_none test xs (mem_all (λ (y : ℕ). test y ≡ false) xs (λ y m. fails e y (all_mem (λ (y : ℕ). test y ≡ true → test x ≡ true) s.0 m))) in
    rw (e, none) (nothing (select test xs) (sym (count_length test xs) ∙ none)))
    (answers (test x))
  where
    fails : test x ≡ false → (y : ℕ) → (test y ≡ true → test x ≡ true) → test y ≡ false
    fails e y h = ⊎_elim
        (λ (t : test y ≡ true). let f : test x ≡ true = h t in let z : ◌≡◌ {A = ℕ} 0 1 = cc in absurd (omega arith))
        (λ t. t)
        (answers (test y))

    nothing : (l : List ℕ) → length l ≡ 0 → [] ≡ l
    nothing [] e = refl
    nothing (y ∷ l) e = absurd (omega arith)

module _ (tb : Table) where
  sooner_order : StrictOrder (λ (p : ℕ). p < jobs tb) (sooner tb)
  unfolding sooner
  sooner_order =
      record {
        asymmetric = λ p q e. lexicographic_asymmetric (bottom_depth tb q) (bottom_depth tb p) p q e;
        transitive = λ p q r e f. lexicographic_falling (bottom_depth tb p) (bottom_depth tb q) (bottom_depth tb r) p q r e f;
        total = λ p q h k n e. lexicographic_total (bottom_depth tb q) (bottom_depth tb p) p q n e;
      }

  sooner_depth : (p q : ℕ) → sooner tb p q ≡ true → bottom_depth tb q ≤ bottom_depth tb p
  unfolding sooner
  sooner_depth p q e = ⊎_elim (λ h. omega arith) (λ h. omega arith) (lexicographic_true (bottom_depth tb q) (bottom_depth tb p) p q e)

  -- the places that can be found, before they are put in order
  abbrev findable : List ℕ
  findable = select (asking tb) (numbers (jobs tb))

  findable_known : All (λ (p : ℕ). p < jobs tb) findable
  findable_known = mem_all (λ (p : ℕ). p < jobs tb) findable (λ p m. numbers_mem (jobs tb) (select_mem (asking tb) (numbers (jobs tb)) m).0)

  findable_distinct : Distinct findable
  findable_distinct = select_pairwise (asking tb) (λ (x y : ℕ). x ≢ y) (numbers (jobs tb)) (numbers_distinct (jobs tb))

  -- they are places that ask
  reach_mem : {p : ℕ} → Mem p (reach_order tb) → (p < jobs tb) × (asking tb p ≡ true)
  unfolding reach_order
  reach_mem m = let s = select_mem (asking tb) (numbers (jobs tb)) (sort_mem (sooner tb) findable m) in (numbers_mem (jobs tb) s.0, s.1)

  -- all of them
  pub mem_reach : (p : ℕ) → p < jobs tb → asking tb p ≡ true → Mem p (reach_order tb)
  unfolding reach_order
  mem_reach p h e = mem_sort (sooner tb) (mem_select (asking tb) (mem_numbers p (jobs tb) h) e)

  pub reach_length : length (reach_order tb) ≡ count_where (asking tb) (numbers (jobs tb))
  unfolding reach_order
  reach_length = sort_length (sooner tb) findable ∙ sym (count_length (asking tb) (numbers (jobs tb)))

  reach_sorted : AllPairs (Before (sooner tb)) (reach_order tb)
  unfolding reach_order
  reach_sorted = sort_sorted (λ (p : ℕ). p < jobs tb) (sooner tb) sooner_order findable findable_known findable_distinct

  pub reach_distinct : Distinct (reach_order tb)
  reach_distinct = sorted_distinct (λ (p : ℕ). p < jobs tb) (sooner tb) sooner_order (reach_order tb) reach_sorted

  -- the place reached at a position
  abbrev pub reach_at : ℕ → ℕ
  reach_at r = get_or (reach_order tb) r 0

  pub reach_at_lem : (r : ℕ) → r < length (reach_order tb) → (reach_at r < jobs tb) × (asking tb (reach_at r) ≡ true)
  reach_at_lem r h = reach_mem (get_d_mem (reach_order tb) r 0 h)

  -- a bottom is as deep as the highest layout at place p
  abbrev pub deep : ℕ → ℕ → Bool
  deep p q = leb (highest_depth tb (job_at tb p)) (bottom_depth tb q)

  -- what is reached at the turn of place p
  due_part_lem : (p : ℕ) → take (due tb p) (reach_order tb) ≡ select (deep p) (reach_order tb)
  unfolding due
  due_part_lem p =
      leading_part (deep p) (reach_order tb)
      (pairwise_imply (Before (sooner tb)) (λ (x y : ℕ). deep p y ≡ true → deep p x ≡ true) (reach_order tb)
      (λ x y m n s e. le-leb (highest_depth tb (job_at tb p)) (bottom_depth tb x) (omega (arith, leb-true (highest_depth tb (job_at tb p)) (bottom_depth tb y) e, sooner_depth x y s)))
      reach_sorted)

  pub reached_deep : (p q : ℕ) → q < jobs tb → elem q (take (due tb p) (reach_order tb)) ≡ (asking tb q && deep p q)
  reached_deep p q h =
      rw (due_part_lem p)
      (same_test (elem q (select (deep p) (reach_order tb))) (asking tb q && deep p q)
      (λ e. let s = select_mem (deep p) (reach_order tb) (elem_mem q (select (deep p) (reach_order tb)) e) in rw ((reach_mem s.0).1, s.1) refl)
      (λ e. let b = (and-eq-true_iff (asking tb q) (deep p q)).0 e in mem_elem (mem_select (deep p) (mem_reach q h b.0) b.1)))

  pub due_within : (p : ℕ) → due tb p ≤ length (reach_order tb)
  unfolding due
  due_within p = count_within (deep p) (reach_order tb)

  -- how many are reached, counted over all places
  pub due_count : (p : ℕ) → due tb p ≡ count_where (λ (q : ℕ). asking tb q && deep p q) (numbers (jobs tb))
  unfolding due reach_order
  due_count p = sort_count (sooner tb) (deep p) findable ∙ count_select (asking tb) (deep p) (numbers (jobs tb))

  -- a place that asks has as many before it as are reached sooner
  pub reach_rank : (p : ℕ) → p < jobs tb → asking tb p ≡ true → index_of p (reach_order tb) ≡ count_where (λ (q : ℕ). asking tb q && sooner tb q p) (numbers (jobs tb))
  unfolding reach_order
  reach_rank p h e =
      sort_rank (λ (p : ℕ). p < jobs tb) (sooner tb) sooner_order findable_known findable_distinct (mem_select (asking tb) (mem_numbers p (jobs tb) h) e)
      ∙ count_select (asking tb) (λ (q : ℕ). sooner tb q p) (numbers (jobs tb))

  -- no fewer are reached at a later turn
  pub due_later : (p q : ℕ) → p < q → q < jobs tb → due tb p ≤ due tb q
  unfolding due
  due_later p q l h =
      count_implies (deep p) (deep q) (reach_order tb)
      (λ u e. le-leb (highest_depth tb (job_at tb q)) (bottom_depth tb u) (omega (arith, leb-true (highest_depth tb (job_at tb p)) (bottom_depth tb u) e, later_depth tb p q l h)))

  -- ---- accepted tables

  module _ (a : Accepted tb) where
    -- at its own turn a place is deep enough: its bottom is as deep as its highest layout
    own_deep : (p : ℕ) → p < jobs tb → highest_depth tb (job_at tb p) ≤ bottom_depth tb p
    unfolding highest_depth bottom_depth
    own_deep p h = ancestor_depth tb.parents a.tree (highest_above tb a.tree (job_at tb p) (a.downward (job_at tb p) (job_known tb p h)))

    -- so it is reached at its own turn at the latest
    pub reached_in_time : (r : ℕ) → r < length (reach_order tb) → r < due tb (reach_at r)
    reached_in_time r h =
        let p = reach_at_lem r h in
        let own : deep (reach_at r) (reach_at r) ≡ true = le-leb (highest_depth tb (job_at tb (reach_at r))) (bottom_depth tb (reach_at r)) (own_deep (reach_at r) p.0) in
        let m : Mem (reach_at r) (take (due tb (reach_at r)) (reach_order tb)) = elem_mem (reach_at r) (take (due tb (reach_at r)) (reach_order tb)) (reached_deep (reach_at r) (reach_at r) p.0 ∙ rw (p.1, own) refl) in
        omega (arith, index_take (due tb (reach_at r)) (reach_order tb) m, index_get_d (reach_order tb) r 0 reach_distinct h)

    -- and at the last turn all are
    pub due_last : (p : ℕ) → suc p ≡ jobs tb → due tb p ≡ length (reach_order tb)
    unfolding due
    due_last p last =
        count_all (deep p) (reach_order tb)
        (mem_all (λ (q : ℕ). deep p q ≡ true) (reach_order tb) (λ q m. le-leb (highest_depth tb (job_at tb p)) (bottom_depth tb q) (enough q (reach_mem m).0)))
      where
        enough : (q : ℕ) → q < jobs tb → highest_depth tb (job_at tb p) ≤ bottom_depth tb q
        enough q h = elim (ℕ_discrete q p) [
          | yes same ↦ rw (← same) (own_deep q h)
          | no other ↦ omega (arith, own_deep q h, later_depth tb q p (omega arith) (omega arith))
        ]
