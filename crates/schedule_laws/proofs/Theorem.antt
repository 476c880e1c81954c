-- The schedule of an accepted table is sound and defines the table's own compatibility (000, Theorem 6, with slots and reach), so the greedy rule over it
-- makes the plan, and its visits are the cell count.
use Rattle.std.specs.Prelude.{ℕ, pred, ◌+◌, ◌-◌, ◌<◌, ◌≤◌, ◌^◌, ◌≡◌, Bool, true, false, not, ◌&&◌, map, length, leb, ltb}
use Rattle.std.proofs.Math.Path.{refl, sym, ap}
use Rattle.std.proofs.Common.{◌∙◌, arith}
use Rattle.std.proofs.Math.Logic.{⊎_elim}
use Rattle.std.proofs.Math.Bool.{cond, and-false, and-eq-true_iff}
use Rattle.std.proofs.Math.Decide.{ℕ_discrete}
use Rattle.std.proofs.Math.ListN.{length-map}
use borrow.Author.Tests.{lt-ltb, le-leb, ne_eqb, not-true}
use Rattle.model.specs.Lists.{numbers, index_of, total, AllPairs}
use Rattle.model.specs.Tree.{FFFF}
use Rattle.model.specs.Jobs.{Table, jobs, solo, bare, asks, window, same_window, shares, highest_depth}
use Rattle.model.specs.Order.{window_size, slot}
use Rattle.model.specs.Greedy.{compatible, passes}
use Rattle.model.specs.Grouping.{groups_of}
use Rattle.model.specs.Visits.{levels, asked_from, asked_to, lookup_visits, pass_visits, cell_count}
use Rattle.model.specs.Planning.{pair_count, pairs}
use Rattle.laws.specs.Booleans.{answers}
use Rattle.laws.specs.Lists.{pairwise_imply}
use Rattle.laws.specs.Numbers.{numbers_length, numbers_at, numbers_mem, numbers_rise}
use Rattle.laws.specs.Places.{index_get_d}
use Rattle.laws.specs.Levels.{levels_wide}
use Rattle.laws.specs.Counting.{count_bound}
use Rattle.jobs.specs.Accepted.{Accepted}
use Rattle.matching.specs.Compatible.{window_same, compatible_asks}
use Rattle.matching.specs.RunningOrder.{place_of_job}
use Rattle.matching.specs.Renamed.{renamed, NamesApart, greedy_renamed, grouping_renamed, pairs_renamed, total_renamed}
use Rattle.schedule.specs.Schedule.{places, slot_at, from_at, to_at, due_at, base_at, size_at, fits, passes_by_place, groups_by_place, visits_at, visits_of, total_visits, Sound}
use Rattle.schedule.specs.OfTable.{job_at, asking, bottom_depth, reach_order, due, shelf_base, row_slot, row_from, row_to, schedule_of}
use Rattle.schedule_laws.specs.Places.{job_known, job_once, running_list, later_depth, theorem_6_by_place}
use Rattle.schedule_laws.specs.Asked.{asked_slot, asked_bound, asks_itself}
use Rattle.schedule_laws.specs.Row.{shelf_within, row_lt}
use Rattle.schedule_laws.specs.ReachOrder.{reach_at, reach_at_lem, reach_length, reach_distinct, reached_deep, due_within, due_later, reached_in_time}
use Rattle.schedule_laws.proofs.RowWindows.{row_window, row_once, row_asked}

-- in one window two share exactly if the later is in the span and deep enough
regroup : (a b c w share : Bool) → (w ≡ true → share ≡ (c && b)) → (true && a && w && share) ≡ ((a && b) && (w && c))
regroup a b c true share h = rw (h refl) (by_cases a b c)
  where
    by_cases : (a b c : Bool) → (true && a && true && (c && b)) ≡ ((a && b) && (true && c))
    by_cases true true true = refl
    by_cases true true false = refl
    by_cases true false true = refl
    by_cases true false false = refl
    by_cases false b c = refl
regroup true b c false share h = sym (and-false b)
regroup false b c false share h = refl

module _ (tb : Table) where
  -- ---- what the schedule has at a place

  pub places_are : places (schedule_of tb) ≡ jobs tb
  unfolding schedule_of
  places_are = length-map (numbers (jobs tb)) (λ (p : ℕ). row_slot tb (job_at tb p)) ∙ numbers_length (jobs tb)

  reached_is : (schedule_of tb).reached ≡ reach_order tb
  unfolding schedule_of
  reached_is = refl

  -- those ask whose job does
  asking_is : (p : ℕ) → asks tb (job_at tb p) ≡ asking tb p
  unfolding asking
  asking_is p = refl

  -- and such a job is no job 0-0
  asking_proper : (p : ℕ) → asking tb p ≡ true → bare tb (job_at tb p) ≡ false
  unfolding asking asks
  asking_proper p e = not-true (bare tb (job_at tb p)) ((and-eq-true_iff (not (solo tb (job_at tb p))) (not (bare tb (job_at tb p)))).0 e).1

  module _ (p : ℕ) (h : p < jobs tb) where
    slot_is : slot_at (schedule_of tb) p ≡ row_slot tb (job_at tb p)
    unfolding schedule_of
    slot_is = numbers_at (λ (p : ℕ). row_slot tb (job_at tb p)) (jobs tb) p 0 h

    from_at_lem : from_at (schedule_of tb) p ≡ cond (asking tb p) (row_from tb (job_at tb p)) FFFF
    unfolding schedule_of
    from_at_lem = numbers_at (λ (p : ℕ). cond (asking tb p) (row_from tb (job_at tb p)) FFFF) (jobs tb) p 0 h

    to_at_lem : to_at (schedule_of tb) p ≡ cond (asking tb p) (row_to tb (job_at tb p)) 0
    unfolding schedule_of
    to_at_lem = numbers_at (λ (p : ℕ). cond (asking tb p) (row_to tb (job_at tb p)) 0) (jobs tb) p 0 h

    due_is : due_at (schedule_of tb) p ≡ due tb p
    unfolding schedule_of
    due_is = numbers_at (due tb) (jobs tb) p 0 h

    base_is : base_at (schedule_of tb) p ≡ shelf_base tb (window tb (job_at tb p))
    unfolding schedule_of
    base_is = numbers_at (λ (p : ℕ). shelf_base tb (window tb (job_at tb p))) (jobs tb) p 0 h

    size_is : size_at (schedule_of tb) p ≡ window_size tb (window tb (job_at tb p))
    unfolding schedule_of
    size_is = numbers_at (λ (p : ℕ). window_size tb (window tb (job_at tb p))) (jobs tb) p 0 h

  module _ (a : Accepted tb) where
    -- a place that asks asks for its own slot, so its span does not end at 0
    to_positive : (p : ℕ) → p < jobs tb → asking tb p ≡ true → 0 < to_at (schedule_of tb) p
    to_positive p h e = rw (to_at_lem p h, e) (omega (arith, asks_itself tb a (job_at tb p) (job_known tb p h)))

    -- ---- it is sound

    to_within : (p : ℕ) → p < jobs tb → to_at (schedule_of tb) p ≤ 2 ^ levels (jobs tb)
    to_within p h = ⊎_elim
        (λ (e : asking tb p ≡ true). rw (to_at_lem p h, e) (omega (arith, asked_bound tb a (job_at tb p) (job_known tb p h), shelf_within tb (window tb (job_at tb p)), levels_wide (jobs tb))))
        (λ (e : asking tb p ≡ false). rw (to_at_lem p h, e) (omega arith))
        (answers (asking tb p))

    asks_none : (p : ℕ) → p < jobs tb → to_at (schedule_of tb) p ≡ 0 → from_at (schedule_of tb) p ≡ FFFF
    asks_none p h z = ⊎_elim
        (λ (e : asking tb p ≡ true). absurd (omega (arith, to_positive p h e)))
        (λ (e : asking tb p ≡ false). rw (from_at_lem p h, e) refl)
        (answers (asking tb p))

    -- a span lies in the shelf of its place
    from_behind : (p : ℕ) → p < jobs tb → 0 < to_at (schedule_of tb) p → base_at (schedule_of tb) p ≤ from_at (schedule_of tb) p
    from_behind p h some = ⊎_elim
        (λ (e : asking tb p ≡ true). rw (from_at_lem p h, e, base_is p h) (omega arith))
        (λ (e : asking tb p ≡ false). let none : to_at (schedule_of tb) p ≡ 0 = to_at_lem p h ∙ rw e refl in absurd (omega arith))
        (answers (asking tb p))

    to_before : (p : ℕ) → p < jobs tb → to_at (schedule_of tb) p ≤ base_at (schedule_of tb) p + size_at (schedule_of tb) p
    to_before p h = ⊎_elim
        (λ (e : asking tb p ≡ true). rw (to_at_lem p h, e, base_is p h, size_is p h) (omega (arith, asked_bound tb a (job_at tb p) (job_known tb p h))))
        (λ (e : asking tb p ≡ false). rw (to_at_lem p h, e) (omega arith))
        (answers (asking tb p))

    -- a place whose slot lies in the shelf of another is in its window
    pub same_shelf : (p q : ℕ) → p < jobs tb → q < jobs tb → base_at (schedule_of tb) p ≤ slot_at (schedule_of tb) q → slot_at (schedule_of tb) q < base_at (schedule_of tb) p + size_at (schedule_of tb) p → window tb (job_at tb p) ≡ window tb (job_at tb q)
    same_shelf p q h k begins ends = row_window tb (job_at tb p) (job_at tb q) (job_known tb q k) (rw (base_is p h, slot_is q k) at begins) (rw (base_is p h, size_is p h, slot_is q k) at ends)

    due_rise : (p q : ℕ) → p ≤ q → q < jobs tb → due_at (schedule_of tb) p ≤ due_at (schedule_of tb) q
    due_rise p q l h = elim (ℕ_discrete p q) [
      | yes same ↦ rw same (omega arith)
      | no other ↦ rw (due_is p (omega arith), due_is q h) (due_later tb p q (omega arith) h)
    ]

    pub schedule_sound : Sound (schedule_of tb)
    schedule_sound =
        record {
          froms_length = unfold schedule_of in length-map (numbers (jobs tb)) (λ (p : ℕ). cond (asking tb p) (row_from tb (job_at tb p)) FFFF) ∙ sym (length-map (numbers (jobs tb)) (λ (p : ℕ). row_slot tb (job_at tb p)));
          tos_length = unfold schedule_of in length-map (numbers (jobs tb)) (λ (p : ℕ). cond (asking tb p) (row_to tb (job_at tb p)) 0) ∙ sym (length-map (numbers (jobs tb)) (λ (p : ℕ). row_slot tb (job_at tb p)));
          dues_length = unfold schedule_of in length-map (numbers (jobs tb)) (due tb) ∙ sym (length-map (numbers (jobs tb)) (λ (p : ℕ). row_slot tb (job_at tb p)));
          slot_inside = λ p h. rw (places_are, slot_is p (here p h)) (omega (arith, row_lt tb (job_at tb p) (job_known tb p (here p h)), levels_wide (jobs tb)));
          slot_once = λ p q h k e. job_once tb p q (here p h) (here q k) (row_once tb (job_at tb p) (job_at tb q) (job_known tb p (here p h)) (job_known tb q (here q k)) (sym (slot_is p (here p h)) ∙ e ∙ slot_is q (here q k)));
          to_inside = λ p h. rw places_are (to_within p (here p h));
          asks_nobody = λ p h z. asks_none p (here p h) z;
          shelf_begins = λ p h. from_behind p (here p h);
          shelf_ends = λ p h. to_before p (here p h);
          shelf_inside = λ p h. rw (places_are, size_is p (here p h)) (omega (arith, shelf_within tb (window tb (job_at tb p))));
          shelf_same = λ p q h k begins ends. let e = same_shelf p q (here p h) (here q k) begins ends in
              (base_is q (here q k) ∙ rw (← e) (sym (base_is p (here p h))), size_is q (here q k) ∙ rw (← e) (sym (size_is p (here p h))));
          due_inside = λ p h. rw (due_is p (here p h), reached_is) (due_within tb p);
          due_rises = λ p q l h. due_rise p q l (here q h);
          reached_length = rw (reached_is, places_are, reach_length tb) (count_bound (asking tb) (jobs tb));
          reached_place = λ r h. rw (reached_is, places_are) (reach_at_lem tb r (rw reached_is at h)).0;
          reached_once = λ r t h k e. sym (index_get_d (reach_order tb) r 0 (reach_distinct tb) (rw reached_is at h)) ∙ ap (λ (p : ℕ). position p) (rw reached_is at e) ∙ index_get_d (reach_order tb) t 0 (reach_distinct tb) (rw reached_is at k);
          reached_asks = λ r h. rw reached_is (let s = reach_at_lem tb r (rw reached_is at h) in to_positive (reach_at tb r) s.0 s.1);
          reached_by = λ r h. rw reached_is (let s = reach_at_lem tb r (rw reached_is at h) in rw (due_is (reach_at tb r) s.0) (reached_in_time tb a r (rw reached_is at h)));
        }
      where
        here : (p : ℕ) → p < places (schedule_of tb) → p < jobs tb
        here p h = rw places_are at h

        position : ℕ → ℕ
        position p = index_of p (reach_order tb)

    -- ---- and defines compatibility

    module _ (p q : ℕ) (l : p < q) (h : q < jobs tb) where
      p_known : p < jobs tb
      p_known = omega arith

      -- a place that asks fits a later one that can be found, has its bottom deep enough, and its slot in the span
      fits_asking : asking tb p ≡ true → fits (schedule_of tb) p q ≡ ((asking tb q && leb (highest_depth tb (job_at tb p)) (bottom_depth tb q)) && (leb (row_from tb (job_at tb p)) (row_slot tb (job_at tb q)) && ltb (row_slot tb (job_at tb q)) (row_to tb (job_at tb p))))
      unfolding fits
      fits_asking e =
          let from : from_at (schedule_of tb) p ≡ row_from tb (job_at tb p) = from_at_lem p p_known ∙ rw e refl in
          let to : to_at (schedule_of tb) p ≡ row_to tb (job_at tb p) = to_at_lem p p_known ∙ rw e refl in
          rw (lt-ltb 0 (to_at (schedule_of tb) p) (to_positive p p_known e), reached_is, due_is p p_known, reached_deep tb p q h, slot_is q h, from, to) refl

      -- one that does not ask fits none
      fits_silent : asking tb p ≡ false → fits (schedule_of tb) p q ≡ false
      unfolding fits
      fits_silent e =
          let to : to_at (schedule_of tb) p ≡ 0 = to_at_lem p p_known ∙ rw e refl in
          rw to refl

      shares_asked : asking tb p ≡ true → window tb (job_at tb q) ≡ window tb (job_at tb p) → shares tb (job_at tb p) (job_at tb q) ≡ (leb (asked_from tb (job_at tb p)) (slot tb (job_at tb q)) && ltb (slot tb (job_at tb q)) (asked_to tb (job_at tb p)) && leb (highest_depth tb (job_at tb p)) (bottom_depth tb q))
      unfolding bottom_depth
      shares_asked e w =
          rw (asked_slot tb a (job_at tb p) (job_known tb p p_known) (job_at tb q) (job_known tb q h) w)
          (theorem_6_by_place tb a (job_at tb p) (job_at tb q) (job_known tb p p_known) (job_known tb q h) (asking_proper p e) (rw (place_of_job tb p 0 p_known, place_of_job tb q 0 h) l)
          ∙ rw (le-leb (highest_depth tb (job_at tb q)) (highest_depth tb (job_at tb p)) (later_depth tb p q l h)) refl)

      -- jobs are compatible if both ask, are in one window and share: a job 0-0 shares with none
      compatible_is : compatible tb (job_at tb p) (job_at tb q) ≡ (asking tb p && asking tb q && same_window tb (job_at tb p) (job_at tb q) && shares tb (job_at tb p) (job_at tb q))
      compatible_is = rw (← asking_is p, ← asking_is q) (compatible_asks tb a.tree (job_at tb p) (job_at tb q) (a.downward (job_at tb p) (job_known tb p p_known)) (a.downward (job_at tb q) (job_known tb q h)))

      pub schedule_fits : fits (schedule_of tb) p q ≡ compatible tb (job_at tb p) (job_at tb q)
      schedule_fits = ⊎_elim
          (λ (e : asking tb p ≡ true).
          fits_asking e
          ∙ rw (row_asked tb a (job_at tb p) (job_at tb q) (job_known tb p p_known) (job_known tb q h))
          (sym (compatible_is ∙ rw e
          (regroup (asking tb q) (leb (highest_depth tb (job_at tb p)) (bottom_depth tb q)) (leb (asked_from tb (job_at tb p)) (slot tb (job_at tb q)) && ltb (slot tb (job_at tb q)) (asked_to tb (job_at tb p)))
          (same_window tb (job_at tb p) (job_at tb q)) (shares tb (job_at tb p) (job_at tb q)) (λ w. shares_asked e (sym (window_same tb (job_at tb p) (job_at tb q) w)))))))
          (λ (e : asking tb p ≡ false). fits_silent e ∙ sym (compatible_is ∙ rw e refl))
          (answers (asking tb p))

    -- ---- so the sweep over it makes the plan

    jobs_apart : NamesApart (job_at tb) (numbers (jobs tb))
    jobs_apart x y m n e = job_once tb x y (numbers_mem (jobs tb) m) (numbers_mem (jobs tb) n) e

    fits_later : AllPairs (λ (x y : ℕ). fits (schedule_of tb) x y ≡ compatible tb (job_at tb x) (job_at tb y)) (numbers (jobs tb))
    fits_later = pairwise_imply ◌<◌ (λ (x y : ℕ). fits (schedule_of tb) x y ≡ compatible tb (job_at tb x) (job_at tb y)) (numbers (jobs tb)) (λ x y m n l. schedule_fits x y l (numbers_mem (jobs tb) n)) (numbers_rise (jobs tb))

    pub schedule_passes : map (renamed (job_at tb)) (passes_by_place (schedule_of tb)) ≡ passes tb
    unfolding passes_by_place passes
    schedule_passes =
        rw (places_are, running_list tb)
        (greedy_renamed (job_at tb) (fits (schedule_of tb)) (compatible tb) (numbers (jobs tb)) jobs_apart fits_later)

    -- and a sweep for a press with more lanes its groups
    pub schedule_groups : (g : ℕ) → map (map (job_at tb)) (groups_by_place (schedule_of tb) g) ≡ groups_of tb g
    unfolding groups_by_place groups_of
    schedule_groups g =
        rw (places_are, running_list tb)
        (grouping_renamed (job_at tb) (pred g) (fits (schedule_of tb)) (compatible tb) (numbers (jobs tb)) jobs_apart fits_later)

    pub schedule_pairs : total pair_count (passes_by_place (schedule_of tb)) ≡ pairs tb
    unfolding pairs
    schedule_pairs = sym (pairs_renamed (job_at tb) (passes_by_place (schedule_of tb))) ∙ ap (total pair_count) schedule_passes

    pub schedule_length : length (passes_by_place (schedule_of tb)) ≡ length (passes tb)
    schedule_length = sym (length-map (passes_by_place (schedule_of tb)) (renamed (job_at tb))) ∙ ap length schedule_passes

    -- a lookup visits what it does in the table
    visits_at_lem : (p : ℕ) → p < jobs tb → visits_at (schedule_of tb) p ≡ lookup_visits tb (job_at tb p)
    unfolding visits_at lookup_visits
    visits_at_lem p h = ⊎_elim
        (λ (e : asking tb p ≡ true).
        let from : from_at (schedule_of tb) p - base_at (schedule_of tb) p ≡ asked_from tb (job_at tb p) = rw (from_at_lem p h, e, base_is p h) (omega arith) in
        let to : to_at (schedule_of tb) p - base_at (schedule_of tb) p ≡ asked_to tb (job_at tb p) = rw (to_at_lem p h, e, base_is p h) (omega arith) in
        rw (ne_eqb (to_at (schedule_of tb) p) 0 (λ z. omega (arith, to_positive p h e)), from, to, size_is p h, asking_is p, e) refl)
        (λ (e : asking tb p ≡ false).
        let to : to_at (schedule_of tb) p ≡ 0 = to_at_lem p h ∙ rw e refl in
        rw (to, asking_is p, e) refl)
        (answers (asking tb p))

    pub schedule_visits : total_visits (schedule_of tb) ≡ cell_count tb
    unfolding total_visits cell_count passes_by_place visits_of pass_visits
    schedule_visits =
        total_renamed (job_at tb) (fits (schedule_of tb)) (visits_of (schedule_of tb)) (pass_visits tb) (λ p q. refl) (λ p q. refl) (numbers (places (schedule_of tb)))
        (λ p m. visits_at_lem p (rw places_are at (numbers_mem (places (schedule_of tb)) m)))
        ∙ ap (total (pass_visits tb)) schedule_passes
