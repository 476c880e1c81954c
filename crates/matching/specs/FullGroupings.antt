-- The groups of a table are a full grouping where each of them is full, and where one is not there is no full grouping, however it may be made (document 02, 2026-07).
use Prim.Native.Nat.{ℕ, zero, suc, pred, ◌<◌}
use Rattle.std.proofs.Math.Path.{◌≡◌, sym, ap}
use Rattle.std.specs.Prelude.{refl, ◌≢◌, true, false, cond, not, length, eqb}
use Rattle.std.proofs.Common.{◌∙◌, eq-eqb, ne_eqb, eqb-true}
use Rattle.std.proofs.Math.Logic.{⊎_elim}
use Rattle.std.proofs.Math.Bool.{Bool, and-eq-true_iff}
use mathlib.Core.List.Memᴰ.{append_cases as mem-append}
use mathlib.Core.List.Memᴰ.{cast as mem-cast}
use mathlib.Core.List.Memᴰ.{head as here}
use mathlib.Core.List.Memᴰ.{not-nil}
use mathlib.Core.List.Memᴰ.{tail as there}
use mathlib.Core.List.{List, [], ◌∷◌, ◌++◌, flatten, flat_map, Memᴰ as Mem}
use native.Mathlib.Omega.{arith}
use Rattle.std.proofs.Math.ListN.{get_or}
use Rattle.std.proofs.Math.Dec.{T}
use Rattle.model.specs.Lists.{elem, all_of, count_where, numbers, without_all, first_passing, All, AllPairs}
use Rattle.model.specs.Jobs.{Table, jobs, solo, window, path, own_path, highest, highest_depth, shares}
use Rattle.model.specs.Order.{running_order}
use Rattle.model.specs.Greedy.{compatible}
use Rattle.model.specs.Verdict.{refuse_if}
use Rattle.model.specs.Table.{read}
use Rattle.model.specs.Output.{digit, hex, refusal_bytes, full_verdict, group_line, group_count_line, group_bytes, unless_refused_bytes, group_reading_bytes}
use Rattle.model.specs.Outcomes.{FullOrNone}
use Rattle.laws.specs.Booleans.{answers, one_answer, same_test, T_true, true_T}
use Rattle.laws.specs.Lists.{Distinct, all_mem, mem_all, all_imply, pairwise_across, pairwise_right, elem_mem, mem_elem, mem_any}
use Rattle.laws.specs.Counting.{count_agree, count_none, count_all, count_at, count_some, count_append, count_members, once_distinct}
use Rattle.laws.specs.Numbers.{mem_numbers, numbers_distinct}
use Rattle.laws.specs.Without.{without_mem, mem_without}
use Rattle.tree_laws.specs.WellFormed.{Tree}
use Rattle.tree_laws.specs.Ancestors.{self}
use Rattle.tree_laws.specs.Sharing.{Downward, On, on_own, shares_meet, highest_on_path}
use Rattle.matching.specs.Exchange.{Falls}
use Rattle.matching.specs.Compatible.{window_same, same_window_lem, compatible_true, true_compatible, compatible_eliminates}
use Rattle.matching.specs.RunningOrder.{running_mem, mem_running, running_count, running_falls, running_distinct}
use Rattle.model.specs.Grouping.{Group, FullGrouping, all_full, groups_of}
use Rattle.laws.specs.Firsts.{first_mem, others_mem, others_pairwise}
use Rattle.matching.specs.Grouping.{GroupRun, done, opened, grouping_run, run_count, Labelled, grouping_full}

-- ---- lists of groups

-- what stands in the groups stands in one of them
flatten_mem : {z : ℕ} (gs : List (List ℕ)) → Mem z (flatten gs) → (group : List ℕ) × (Mem group gs × Mem z group)
unfolding flatten
flatten_mem [] m = absurd (not-nil m)
flatten_mem {z} (group ∷ gs) m = ⊎_elim
    (λ (m : Mem z group). (group, (here refl, m)))
    (λ (m : Mem z (flatten gs)). let r = flatten_mem gs m in (r.0, (there r.1.0, r.1.1)))
    (mem-append group m)

-- the place of the group that a number stands in
unfoldable label_in : List (List ℕ) → ℕ → ℕ
label_in [] y = 0
label_in (group ∷ gs) y = cond (elem y group) 0 (suc (label_in gs y))

label_first : {y : ℕ} {group : List ℕ} (gs : List (List ℕ)) → Mem y group → label_in (group ∷ gs) y ≡ 0
unfolding label_in
label_first gs m = rw (mem_elem m) refl

label_later : (y : ℕ) (group : List ℕ) (gs : List (List ℕ)) → (Mem y group → ⊥) → label_in (group ∷ gs) y ≡ suc (label_in gs y)
unfolding label_in
label_later y group gs out = ⊎_elim
    (λ (e : elem y group ≡ true). absurd (out (elem_mem y group e)))
    (λ (e : elem y group ≡ false). rw e refl)
    (answers (elem y group))

-- as many have the label of a member as its group has
label_size : (g : ℕ) (gs : List (List ℕ)) → Distinct (flatten gs) → All (λ (group : List ℕ). length group ≡ g) gs → {z : ℕ} → Mem z (flatten gs) → count_where (λ (y : ℕ). eqb (label_in gs y) (label_in gs z)) (flatten gs) ≡ g
unfolding flatten
label_size g [] d a m = absurd (not-nil m)
label_size g (group ∷ gs) d a {z} m = ⊎_elim within (λ k. behind k (label_size g gs (pairwise_right (λ (x y : ℕ). x ≢ y) group (flatten gs) d) a.1 k)) (mem-append group m)
  where
    later : {y : ℕ} → Mem y (flatten gs) → label_in (group ∷ gs) y ≡ suc (label_in gs y)
    later {y} n = label_later y group gs (λ k. pairwise_across (λ (x y : ℕ). x ≢ y) group (flatten gs) d k n refl)

    test : ℕ → Bool
    test y = eqb (label_in (group ∷ gs) y) (label_in (group ∷ gs) z)

    alike : (y : ℕ) → label_in (group ∷ gs) y ≡ suc (label_in gs y) → label_in (group ∷ gs) z ≡ suc (label_in gs z) → test y ≡ eqb (label_in gs y) (label_in gs z)
    alike y a b = same_test (test y) (eqb (label_in gs y) (label_in gs z))
        (λ e. eq-eqb (label_in gs y) (label_in gs z) (omega (arith, eqb-true (label_in (group ∷ gs) y) (label_in (group ∷ gs) z) e)))
        (λ e. eq-eqb (label_in (group ∷ gs) y) (label_in (group ∷ gs) z) (omega (arith, eqb-true (label_in gs y) (label_in gs z) e)))

    within : Mem z group → count_where test (group ++ flatten gs) ≡ g
    within k =
        let first : count_where test group ≡ length group = count_all test group (mem_all (λ (y : ℕ). test y ≡ true) group (λ y n. rw (label_first gs n, label_first gs k) refl)) in
        let rest : count_where test (flatten gs) ≡ 0 = count_none test (flatten gs) (mem_all (λ (y : ℕ). test y ≡ false) (flatten gs) (λ y n. ne_eqb (label_in (group ∷ gs) y) (label_in (group ∷ gs) z) (λ e. omega (arith, later n, label_first gs k)))) in
        count_append test group (flatten gs) ∙ omega (arith, first, rest, a.0)

    behind : Mem z (flatten gs) → count_where (λ (y : ℕ). eqb (label_in gs y) (label_in gs z)) (flatten gs) ≡ g → count_where test (group ++ flatten gs) ≡ g
    behind k size =
        let first : count_where test group ≡ 0 = count_none test group (mem_all (λ (y : ℕ). test y ≡ false) group (λ y n. ne_eqb (label_in (group ∷ gs) y) (label_in (group ∷ gs) z) (λ e. omega (arith, label_first gs n, later k)))) in
        let rest : count_where test (flatten gs) ≡ g =
        count_agree test (λ (y : ℕ). eqb (label_in gs y) (label_in gs z)) (flatten gs) (mem_all (λ (y : ℕ). test y ≡ eqb (label_in gs y) (label_in gs z)) (flatten gs) (λ y n. alike y (later n) (later k)))
        ∙ size in
        count_append test group (flatten gs) ∙ omega (arith, first, rest)

-- two members with one label are of one group
label_group : (gs : List (List ℕ)) {y z : ℕ} → Mem y (flatten gs) → Mem z (flatten gs) → label_in gs y ≡ label_in gs z → (group : List ℕ) × (Mem group gs × (Mem y group × Mem z group))
unfolding flatten label_in
label_group [] m k e = absurd (not-nil m)
label_group (group ∷ gs) {y} {z} m k e = ⊎_elim
    (λ (p : elem y group ≡ true). ⊎_elim
    (λ (q : elem z group ≡ true). (group, (here refl, (elem_mem y group p, elem_mem z group q))))
    (λ (q : elem z group ≡ false). absurd (omega (arith, rw (p, q) at e)))
    (answers (elem z group)))
    (λ (p : elem y group ≡ false). ⊎_elim
    (λ (q : elem z group ≡ true). absurd (omega (arith, rw (p, q) at e)))
    (λ (q : elem z group ≡ false). let r = label_group gs (rest p m) (rest q k) (omega (arith, rw (p, q) at e)) in (r.0, (there r.1.0, r.1.1)))
    (answers (elem z group)))
    (answers (elem y group))
  where
    rest : {x : ℕ} → elem x group ≡ false → Mem x (group ++ flatten gs) → Mem x (flatten gs)
    rest {x} out n = ⊎_elim (λ (i : Mem x group). absurd (one_answer (mem_elem i) out)) (λ (i : Mem x (flatten gs)). i) (mem-append group n)

-- the layout of a group is on the own paths of its jobs
pub layout_own : (tb : Table) (j : ℕ) {x : ℕ} → x ≢ 0 → T (elem x (path tb j)) → Mem x (own_path tb j)
unfolding own_path
layout_own tb j {x} other on = mem_without 0 (elem_mem x (path tb j) (T_true (elem x (path tb j)) on)) other

module _ (tb : Table) (t : Tree tb.parents) (down : (j : ℕ) → j < jobs tb → Downward tb j) where
  -- ---- any full grouping: the rule fills every group

  module _ (g : ℕ) (gs : List (List ℕ)) (f : FullGrouping tb g gs) where
    -- two jobs of a group are compatible
    group_compatible : {group : List ℕ} → Group tb g group → {y z : ℕ} → Mem y group → Mem z group → compatible tb y z ≡ true
    unfolding shares
    group_compatible o {y} {z} m k =
        let x : ℕ = o.one_layout.0 in
        let own_y : Mem x (own_path tb y) = layout_own tb y o.one_layout.1 (all_mem (λ (j : ℕ). T (elem x (path tb j))) o.one_layout.2 m) in
        let own-z : Mem x (own_path tb z) = layout_own tb z o.one_layout.1 (all_mem (λ (j : ℕ). T (elem x (path tb j))) o.one_layout.2 k) in
        let v : ℕ = o.one_window.0 in
        true_compatible tb y z
        (T_true (not (solo tb y)) (all_mem (λ (j : ℕ). T (not (solo tb j))) o.none_solo m))
        (T_true (not (solo tb z)) (all_mem (λ (j : ℕ). T (not (solo tb j))) o.none_solo k))
        (same_window_lem tb y z (all_mem (λ (j : ℕ). window tb j ≡ v) o.one_window.1 m ∙ sym (all_mem (λ (j : ℕ). window tb j ≡ v) o.one_window.1 k)))
        (mem_any (λ (x : ℕ). elem x (own_path tb z)) own_y (mem_elem own-z))

    -- the groups hold the jobs, each once
    grouped_known : {j : ℕ} → Mem j (flatten gs) → j < jobs tb
    grouped_known m = let r = flatten_mem gs m in all_mem (λ (j : ℕ). j < jobs tb) (all_mem (Group tb g) f.each r.1.0).known r.1.1

    known_grouped : (j : ℕ) → j < jobs tb → Mem j (flatten gs)
    known_grouped j h = let r = count_some (eqb j) 0 (flatten gs) (f.once j h) in mem-cast (eqb-true j r.0 r.1.1) r.1.0

    grouped_once : Distinct (flatten gs)
    grouped_once = once_distinct (flatten gs) (λ j m. f.once j (grouped_known m))

    grouped_labels : Labelled (compatible tb) g (running_order tb) (label_in gs)
    grouped_labels =
        record {
          size = λ z m.
              count_members (λ (y : ℕ). eqb (label_in gs y) (label_in gs z)) (running_order tb) (flatten gs) (running_distinct tb) grouped_once (λ j k. known_grouped j (running_mem tb k)) (λ j k. mem_running tb j (grouped_known k))
              ∙ label_size g gs grouped_once (all_imply (Group tb g) (λ (group : List ℕ). length group ≡ g) gs (λ group o. o.full) f.each) (known_grouped z (running_mem tb m));
          fits = λ y z m k differ same.
              let r = label_group gs (known_grouped y (running_mem tb m)) (known_grouped z (running_mem tb k)) same in
              group_compatible (all_mem (Group tb g) f.each r.1.0) r.1.1.0 r.1.1.1;
        }

  -- where there is a full grouping the rule fills every group
  pub full_if_any : (g : ℕ) → 0 < g → (gs : List (List ℕ)) → FullGrouping tb g gs → all_full g (groups_of tb g) ≡ true
  unfolding groups_of
  full_if_any zero h gs f = absurd (omega arith)
  full_if_any (suc n) h gs f =
      grouping_full (λ (j : ℕ). j < jobs tb) (highest_depth tb) (compatible tb) (compatible_eliminates tb t down) n (running_order tb)
      (mem_all (λ (j : ℕ). j < jobs tb) (running_order tb) (λ j m. running_mem tb m)) (running_falls tb) (running_distinct tb) (label_in gs) (grouped_labels (suc n) gs f)

  -- ---- the rule's own groups

  -- the highest layout of the first job is on the paths of all
  module _ (g v n : ℕ) (vs : List ℕ) (known : All (λ (j : ℕ). j < jobs tb) (v ∷ vs)) (falls : AllPairs (Falls (highest_depth tb)) (v ∷ vs)) (two : 1 < g) (size : length (v ∷ first_passing n (compatible tb v) vs) ≡ g) where
    abbrev got : List ℕ
    got = first_passing n (compatible tb v) vs

    -- what it got is later, and compatible
    got_known : {y : ℕ} → Mem y got → Mem y vs
    got_known m = (first_mem n (compatible tb v) vs m).0

    got_fits : {y : ℕ} → Mem y got → (not (solo tb v) ≡ true) × (not (solo tb y) ≡ true) × (window tb v ≡ window tb y) × (shares tb v y ≡ true)
    got_fits {y} m = let c = compatible_true tb v y (first_mem n (compatible tb v) vs m).1 in (c.0, c.1, window_same tb v y c.2, c.3)

    v_down : Downward tb v
    v_down = down v known.0

    y_down : {y : ℕ} → Mem y got → Downward tb y
    y_down {y} m = down y (all_mem (λ (j : ℕ). j < jobs tb) known.1 (got_known m))

    on_got : {y : ℕ} → Mem y got → On tb (highest tb v) y
    on_got {y} m = highest_on_path tb t v y v_down (y_down m) (all_mem (Falls (highest_depth tb) v) falls.0 (got_known m)) (got_fits m).3

    -- it got some, so it has a layout other than 0 itself
    some_got : (y : ℕ) × Mem y got
    some_got = first got (omega (arith, size))
      where
        first : (l : List ℕ) → 0 < length l → (y : ℕ) × Mem y l
        first [] h = absurd (omega arith)
        first (y ∷ l) h = (y, here refl)

    on_v : On tb (highest tb v) v
    on_v =
        let m = some_got.1 in
        let o = (shares_meet tb t v some_got.0 v_down (y_down m) (got_fits m).3).1.0.own_path_lem in
        record { own_path_lem = o; lower = o.above; upper = self }

    -- a layout on an own path is on the path, and not layout 0
    own_mem : {x j : ℕ} → On tb x j → Mem x (path tb j) × (x ≢ 0)
    unfolding own_path
    own_mem {x} {j} p = without_mem 0 (path tb j) (elem_mem x (own_path tb j) (on_own tb t j p))

    own_test : {x j : ℕ} → On tb x j → T (elem x (path tb j))
    own_test p = true_T (mem_elem (own_mem p).0)

    group_is : Group tb g (v ∷ got)
    group_is =
        record {
          full = size;
          known = (known.0, mem_all (λ (j : ℕ). j < jobs tb) got (λ y m. all_mem (λ (j : ℕ). j < jobs tb) known.1 (got_known m)));
          none_solo = (true_T (got_fits some_got.1).0, mem_all (λ (j : ℕ). T (not (solo tb j))) got (λ y m. true_T (got_fits m).1));
          one_window = (window tb v, (refl, mem_all (λ (j : ℕ). window tb j ≡ window tb v) got (λ y m. sym (got_fits m).2)));
          one_layout = (highest tb v, (own_mem on_v).1, (own_test on_v, mem_all (λ (j : ℕ). T (elem (highest tb v) (path tb j))) got (λ y m. own_test (on_got m))));
        }

  run_groups : (g n : ℕ) → 1 < g → {vs : List ℕ} {gs : List (List ℕ)} → GroupRun n (compatible tb) vs gs → All (λ (j : ℕ). j < jobs tb) vs → AllPairs (Falls (highest_depth tb)) vs → all_full g gs ≡ true → All (Group tb g) gs
  unfolding all_full all_of
  run_groups g n two done known falls full = tt
  run_groups g n two (opened {v = v} {vs = vs} {gs = gs} r) known falls full =
      let got : List ℕ = first_passing n (compatible tb v) vs in
      let both = (and-eq-true_iff (eqb (length (v ∷ got)) g) (all_full g gs)).0 full in (
        group_is g v n vs known falls two (eqb-true (length (v ∷ got)) g both.0),
        run_groups g n two r (mem_all (λ (j : ℕ). j < jobs tb) (without_all got vs) (λ y m. all_mem (λ (j : ℕ). j < jobs tb) known.1 (others_mem got vs m))) (others_pairwise (Falls (highest_depth tb)) got vs falls.1) both.1,
      )

  -- each job stands once among the numbers of the jobs
  one_number : (j : ℕ) → j < jobs tb → count_where (eqb j) (numbers (jobs tb)) ≡ 1
  one_number j h =
      count_at (eqb j) (λ (y : ℕ). false) (numbers_distinct (jobs tb)) (mem_numbers j (jobs tb) h) refl (λ i other. ne_eqb j i (λ e. other (sym e)))
      ∙ rw (eq-eqb j j refl, count_none (λ (y : ℕ). false) (numbers (jobs tb)) (mem_all (λ (y : ℕ). false ≡ false) (numbers (jobs tb)) (λ y m. refl))) refl

  -- where all are full they are a full grouping
  pub full_grouping : (g : ℕ) → 1 < g → all_full g (groups_of tb g) ≡ true → FullGrouping tb g (groups_of tb g)
  unfolding groups_of
  full_grouping g two full =
      let run = grouping_run (pred g) (compatible tb) (running_order tb) in
      record {
        each = run_groups g (pred g) two run (mem_all (λ (j : ℕ). j < jobs tb) (running_order tb) (λ j m. running_mem tb m)) (running_falls tb) full;
        once = λ j h. run_count (pred g) (compatible tb) (eqb j) run (running_distinct tb) ∙ running_count tb (eqb j) ∙ one_number j h;
      }

  -- ---- what is printed

  -- its first line is no refusal: 13 or 1F, and not 1E
  printed_apart : (gs : List (List ℕ)) (n : ℕ) → flat_map (group_line tb) gs ++ group_count_line n ≡ refusal_bytes 14 0 → ⊥
  unfolding refusal_bytes flat_map group_line group_count_line hex digit
  printed_apart [] n e = let second : ◌≡◌ {A = ℕ} 70 69 = ap (λ (l : List ℕ). get_or l 1 0) e in omega arith
  printed_apart (group ∷ gs) n e = let second : ◌≡◌ {A = ℕ} 51 69 = ap (λ (l : List ℕ). get_or l 1 0) e in omega arith

  -- 14 exactly if there is no full grouping, and else the groups of one
  pub full_or_none : (g : ℕ) → 1 < g → FullOrNone tb g (group_reading_bytes g (read tb))
  unfolding group_reading_bytes full_verdict
  full_or_none g two = ⊎_elim filled short (answers (all_full g (groups_of tb g)))
    where
      printed : Bool → List ℕ
      printed b = unless_refused_bytes (refuse_if (not b) 14 0) (group_bytes g tb)

      filled : all_full g (groups_of tb g) ≡ true → FullOrNone tb g (printed (all_full g (groups_of tb g)))
      filled e = rw e (record {
        refused_none = λ same gs f. printed_apart (groups_of tb g) (length (groups_of tb g)) (unfold group_bytes in same);
        none_refused = λ none. absurd (none (groups_of tb g) (full_grouping g two e));
        any_printed = λ gs f. (full_grouping g two e, refl);
        else_printed = λ _. (full_grouping g two e, refl);
      })

      short : all_full g (groups_of tb g) ≡ false → FullOrNone tb g (printed (all_full g (groups_of tb g)))
      short e = rw e (record {
        refused_none = λ same gs f. one_answer (full_if_any g (omega arith) gs f) e;
        none_refused = λ none. refl;
        any_printed = λ gs f. absurd (one_answer (full_if_any g (omega arith) gs f) e);
        else_printed = λ other. absurd (other refl);
      })
