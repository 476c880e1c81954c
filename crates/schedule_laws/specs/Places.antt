-- The running order as a numbering of the jobs by place, and Theorem 6 by places (document 01, "The tree and the running order").
use Rattle.std.specs.Prelude.{ℕ, ◌/◌, ◌%◌, ◌≤◌, ◌<◌, ◌≡◌, refl, Bool, true, false, ◌&&◌, ◌≢◌, List, map, get_or, take, eqb, leb}
use Rattle.std.proofs.Common.{sym, ap, ◌∙◌, zero-add, arith, ext_get_or, get_or-take, le-leb, eqb-true}
use Rattle.std.proofs.Math.Nat.{mod-add-div', div-eq_of_lt, add-mul-div_right}
use Rattle.std.proofs.lemmas.List.{length-map}
use Rattle.std.proofs.lemmas.Bool.{eqb-false}
use Rattle.model.specs.Lists.{numbers, count_where}
use Rattle.model.specs.Tree.{depth, first_leaf, last_leaf}
use Rattle.model.specs.Jobs.{Table, jobs, job_limit, window, bottom, bare, highest, highest_depth, shares, bottom_leaf}
use Rattle.model.specs.Order.{running_order, place}
use Rattle.laws.specs.Lists.{get_d_mem}
use Rattle.laws.specs.Numbers.{numbers_length, numbers_at}
use Rattle.laws.specs.Counting.{count_map}
use Rattle.tree_laws.specs.Sharing.{bare_is, bare_alone, bare_passes, theorem_6_test}
use Rattle.jobs.specs.Accepted.{Accepted}
use Rattle.matching.specs.RunningOrder.{running_mem, running_length, running_count, place_of_job, place_earlier, earlier_depth}
use Rattle.schedule.specs.InWork.{order_cell, job_in, window_in}
use Rattle.schedule.specs.OfTable.{job_at, order_cells}

-- a job and its window, read off their cell
pub cell_window : (j w : ℕ) → j < job_limit → order_cell j w / job_limit ≡ w
cell_window j w h = add-mul-div_right j w {z = job_limit} (omega arith) ∙ rw (div-eq_of_lt {n = j} {m = job_limit} h) (zero-add w)

pub cell_job : (j w : ℕ) → j < job_limit → order_cell j w % job_limit ≡ j
cell_job j w h = omega (arith, mod-add-div' (order_cell j w) job_limit, cell_window j w h)

module _ (tb : Table) where
  -- at a place stands a job
  pub job_known : (p : ℕ) → p < jobs tb → job_at tb p < jobs tb
  job_known p h = running_mem tb (get_d_mem (running_order tb) p 0 (rw (running_length tb) h))

  -- at two places two jobs
  pub job_once : (p q : ℕ) → p < jobs tb → q < jobs tb → job_at tb p ≡ job_at tb q → p ≡ q
  job_once p q h k e = sym (place_of_job tb p 0 h) ∙ ap (place tb) e ∙ place_of_job tb q 0 k

  -- the running order is the jobs by place
  pub running_list : running_order tb ≡ map (job_at tb) (numbers (jobs tb))
  running_list =
      ext_get_or 0 (running_order tb) (map (job_at tb) (numbers (jobs tb)))
      (running_length tb ∙ sym (length-map (numbers (jobs tb)) (job_at tb) ∙ numbers_length (jobs tb)))
      (λ i h. sym (numbers_at (job_at tb) (jobs tb) i 0 (rw running_length at h)))

  -- to count jobs is to count places
  pub count_places : (f : ℕ → Bool) → count_where f (numbers (jobs tb)) ≡ count_where (λ (p : ℕ). f (job_at tb p)) (numbers (jobs tb))
  count_places f = sym (running_count tb f) ∙ ap (count_where f) running_list ∙ count_map (job_at tb) f (numbers (jobs tb))

  -- work cells that hold the running order have the job at each place, and its window
  module _ (few : jobs tb ≤ job_limit) (work : List ℕ) (order : take (jobs tb) work ≡ order_cells tb) (p : ℕ) (h : p < jobs tb) where
    cell_is : get_or work p 0 ≡ order_cell (job_at tb p) (window tb (job_at tb p))
    cell_is =
        sym (get_or-take (jobs tb) work p 0 h)
        ∙ ap (λ (l : List ℕ). get_or l p 0) order
        ∙ numbers_at (λ (p : ℕ). order_cell (job_at tb p) (window tb (job_at tb p))) (jobs tb) p 0 h

    pub job_in_lem : job_in work p ≡ job_at tb p
    job_in_lem = rw cell_is (cell_job (job_at tb p) (window tb (job_at tb p)) (omega (arith, job_known p h)))

    pub window_in_lem : window_in work p ≡ window tb (job_at tb p)
    window_in_lem = rw cell_is (cell_window (job_at tb p) (window tb (job_at tb p)) (omega (arith, job_known p h)))

  -- at a later place the highest layout is no deeper
  pub later_depth : (p q : ℕ) → p < q → q < jobs tb → highest_depth tb (job_at tb q) ≤ highest_depth tb (job_at tb p)
  later_depth p q l h =
      let p_known : p < jobs tb = omega arith in
      earlier_depth tb (job_at tb p) (job_at tb q)
      (place_earlier tb (job_at tb p) (job_at tb q) (job_known p p_known) (job_known q h) (rw (place_of_job tb p 0 p_known, place_of_job tb q 0 h) l))

  module _ (a : Accepted tb) (i j : ℕ) (i-known : i < jobs tb) (j-known : j < jobs tb) where
    -- what Theorem 6 of 000 tests, for places i < j: bottom j's first leaf lies in the span of highest i, and depth of highest j ≤ depth of highest i ≤ depth of bottom j
    abbrev pub sharing_test : Bool
    sharing_test = (leb (first_leaf tb.parents (highest tb i)) (bottom_leaf tb j) && leb (bottom_leaf tb j) (last_leaf tb.parents (highest tb i))) && (leb (highest_depth tb j) (highest_depth tb i) && leb (highest_depth tb i) (depth tb.parents (bottom tb j)))

    -- wherever job i is not a job 0-0, the jobs share exactly if they pass it
    pub theorem_6_by_place : bare tb i ≡ false → place tb i < place tb j → shares tb i j ≡ sharing_test
    theorem_6_by_place proper l =
        let order : highest_depth tb j ≤ highest_depth tb i = earlier_depth tb i j (place_earlier tb i j i-known j-known l) in
        let some : 0 < bottom tb i = positive (sym (bare_is tb a.tree i (a.downward i i-known)) ∙ proper) in
        theorem_6_test tb a.tree i j (a.downward i i-known) (a.downward j j-known) order (a.bottom_known i i-known) (a.bottom_known j j-known) some
        ∙ rw (le-leb (highest_depth tb j) (highest_depth tb i) order) refl
      where
        positive : {x : ℕ} → eqb x 0 ≡ false → 0 < x
        positive {x} e = let some : x ≢ 0 = eqb-false x 0 e in omega arith

    -- the exception is needed: two jobs 0-0 pass the test, and do not share
    pub bare_exception : bare tb i ≡ true → bare tb j ≡ true → (sharing_test ≡ true) × (shares tb i j ≡ false)
    bare_exception e f =
        let zero-i : bottom tb i ≡ 0 = eqb-true (bottom tb i) 0 (sym (bare_is tb a.tree i (a.downward i i-known)) ∙ e) in
        let zero-j : bottom tb j ≡ 0 = eqb-true (bottom tb j) 0 (sym (bare_is tb a.tree j (a.downward j j-known)) ∙ f) in
        let p = bare_passes tb a.tree i j (a.downward i i-known) (a.downward j j-known) zero-i zero-j in (
          rw (
            le-leb (first_leaf tb.parents (highest tb i)) (bottom_leaf tb j) p.leaf.first,
            le-leb (bottom_leaf tb j) (last_leaf tb.parents (highest tb i)) p.leaf.last,
            le-leb (highest_depth tb j) (highest_depth tb i) p.upper,
            le-leb (highest_depth tb i) (depth tb.parents (bottom tb j)) p.lower,
          )
              refl,
          bare_alone tb a.tree i j (a.downward i i-known) zero-i,
        )
