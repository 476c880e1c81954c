-- The grouping rule fills every group exactly if the vertices can be put into groups of g that fit two by two (000, section 4.2; 003, section 4), for any test of two
-- vertices with strong elimination along an order. The tree enters nowhere. 003 claims more, the most groups where not all can be filled, and that fails.
-- Assumes the laws of `StrongElimination`.
use Prim.Native.Nat.{ℕ, zero, suc, ◌≤◌}
use Rattle.std.specs.Prelude.{◌≡◌, ◌≢◌, Bool, true, cond, length, eqb}
use Rattle.std.proofs.Math.Path.{refl, ap}
use Rattle.std.proofs.Common.{sym, ◌∙◌, ⊎_elim, arith, eq-eqb, ne_eqb, eqb-true}
use Rattle.std.proofs.Math.Option.{none, some}
use mathlib.Core.List.Memᴰ.{append_cases as mem-append}
use mathlib.Core.List.Memᴰ.{cases_cons as mem-cons}
use mathlib.Core.List.Memᴰ.{head as here}
use mathlib.Core.List.Memᴰ.{tail as there}
use mathlib.Core.List.{List, [], ◌∷◌, ◌++◌, flatten, Memᴰ as Mem}
use Rattle.std.proofs.Math.Decide.{ℕ_discrete}
use Rattle.model.specs.Lists.{find, all_of, count_where, without, without_all, first_passing, All, AllPairs}
use Rattle.laws.specs.Booleans.{one_answer}
use Rattle.laws.specs.Lists.{Distinct, all_mem, mem_all, found_or_none, find_some, find_none, find_first}
use Rattle.laws.specs.Counting.{count_agree, count_at, count_passing, count_failing, count_some, count_no, count_append}
use Rattle.laws.specs.Without.{without_mem, mem_without, without_pairwise}
use Rattle.matching.specs.Exchange.{StrongElimination, Falls}
use Rattle.model.specs.Grouping.{group_step, group_steps, grouping, all_full}
use Rattle.laws.specs.Firsts.{first_zero, first_found, first_mem, count_first, others_mem, others_pairwise, others_length}

-- ---- the rule, step by step

module _ (n : ℕ) (fit : ℕ → ℕ → Bool) where
  -- more steps than vertices change nothing
  steps_enough : (k m : ℕ) (vs : List ℕ) → length vs ≤ k → length vs ≤ m → group_steps k n fit vs ≡ group_steps m n fit vs
  unfolding group_steps group_step
  steps_enough zero zero vs h l = refl
  steps_enough zero (suc m) [] h l = refl
  steps_enough zero (suc m) (v ∷ vs) h l = absurd (omega arith)
  steps_enough (suc k) zero [] h l = refl
  steps_enough (suc k) zero (v ∷ vs) h l = absurd (omega arith)
  steps_enough (suc k) (suc m) [] h l = refl
  steps_enough (suc k) (suc m) (v ∷ vs) h l =
      let got : List ℕ = first_passing n (fit v) vs in
      ap (λ (gs : List (List ℕ)). (v ∷ got) ∷ gs) (steps_enough k m (without_all got vs) (omega (arith, others_length got vs)) (omega (arith, others_length got vs)))

  -- no vertices, no groups
  pub grouping_done : grouping n fit [] ≡ []
  unfolding grouping group_steps
  grouping_done = refl

  -- the first vertex takes those that it gets, and the others are grouped
  pub grouping_step : (v : ℕ) (vs : List ℕ) → grouping n fit (v ∷ vs) ≡ (v ∷ first_passing n (fit v) vs) ∷ grouping n fit (without_all (first_passing n (fit v) vs) vs)
  unfolding grouping group_steps group_step
  grouping_step v vs =
      let got : List ℕ = first_passing n (fit v) vs in
      ap (λ (gs : List (List ℕ)). (v ∷ got) ∷ gs) (steps_enough (length vs) (length (without_all got vs)) (without_all got vs) (others_length got vs) (omega arith))

  -- the groups gs of the vertices vs
  pub data GroupRun : List ℕ → List (List ℕ) → Type 0 where
    done : GroupRun [] []
    opened : {v : ℕ} {vs : List ℕ} {gs : List (List ℕ)} → GroupRun (without_all (first_passing n (fit v) vs) vs) gs → GroupRun (v ∷ vs) ((v ∷ first_passing n (fit v) vs) ∷ gs)

  -- the rule makes them
  pub grouping_run : (vs : List ℕ) → GroupRun vs (grouping n fit vs)
  grouping_run vs = running (length vs) vs (omega arith)
    where
      running : (k : ℕ) (vs : List ℕ) → length vs ≤ k → GroupRun vs (grouping n fit vs)
      running zero [] h = rw grouping_done done
      running zero (v ∷ vs) h = absurd (omega arith)
      running (suc k) [] h = rw grouping_done done
      running (suc k) (v ∷ vs) h = let got : List ℕ = first_passing n (fit v) vs in rw (grouping_step v vs) (opened (running k (without_all got vs) (omega (arith, others_length got vs))))

-- ---- what the groups hold

-- they hold vertices alone
pub run_mem : (n : ℕ) (fit : ℕ → ℕ → Bool) {vs : List ℕ} {gs : List (List ℕ)} → GroupRun n fit vs gs → {x : ℕ} → Mem x (flatten gs) → Mem x vs
unfolding flatten
run_mem n fit done m = m
run_mem n fit (opened {v = v} {vs = vs} {gs = gs} r) {x} m =
    let got : List ℕ = first_passing n (fit v) vs in
    ⊎_elim
    (λ (e : x ≡ v). here e)
    (λ (m : Mem x (got ++ flatten gs)). there (⊎_elim (λ (k : Mem x got). (first_mem n (fit v) vs k).0) (λ (k : Mem x (flatten gs)). others_mem got vs (run_mem n fit r k)) (mem-append got m)))
    (mem-cons m)

-- and each as often as the list does
pub run_count : (n : ℕ) (fit : ℕ → ℕ → Bool) (q : ℕ → Bool) {vs : List ℕ} {gs : List (List ℕ)} → GroupRun n fit vs gs → Distinct vs → count_where q (flatten gs) ≡ count_where q vs
unfolding flatten count_where
run_count n fit q done d = refl
run_count n fit q (opened {v = v} {vs = vs} {gs = gs} r) d =
    let got : List ℕ = first_passing n (fit v) vs in
    ap (λ (c : ℕ). cond (q v) (suc c) c)
    (count_append q got (flatten gs) ∙ omega (arith, run_count n fit q r (others_pairwise (λ (x y : ℕ). x ≢ y) got vs d.1), count_first n (fit v) q vs d.1))

-- ---- groups by labels: vertices with one label are a group

module _ (fit : ℕ → ℕ → Bool) where
  -- as many have the label of each vertex as a group has, and those of one label fit
  pub record Labelled (g : ℕ) (vs : List ℕ) (c : ℕ → ℕ) : Type 0 where
    pub size : (z : ℕ) → Mem z vs → count_where (λ (y : ℕ). eqb (c y) (c z)) vs ≡ g
    pub fits : (y z : ℕ) → Mem y vs → Mem z vs → y ≢ z → c y ≡ c z → fit y z ≡ true

  -- v still wants n others, those of label o; the rest are grouped
  record Wanting (g v n : ℕ) (vs : List ℕ) (o : ℕ) (c : ℕ → ℕ) : Type 0 where
    left : count_where (λ (y : ℕ). eqb (c y) o) vs ≡ n
    own : (z : ℕ) → Mem z vs → c z ≡ o → fit v z ≡ true
    size : (z : ℕ) → Mem z vs → c z ≢ o → count_where (λ (y : ℕ). eqb (c y) (c z)) vs ≡ g
    fits : (y z : ℕ) → Mem y vs → Mem z vs → y ≢ z → c y ≡ c z → c z ≢ o → fit y z ≡ true

-- the test of a label
abbrev labelled : (ℕ → ℕ) → ℕ → ℕ → Bool
labelled c k y = eqb (c y) k

module _ (Vertex : ℕ → Type 0) (D : ℕ → ℕ) (fit : ℕ → ℕ → Bool) (laws : StrongElimination Vertex D fit) where
  -- the first vertex wants the others of its label
  wanting_first : (n v : ℕ) (vs : List ℕ) (c : ℕ → ℕ) → Distinct (v ∷ vs) → Labelled fit (suc n) (v ∷ vs) c → Wanting fit (suc n) v n vs (c v) c
  unfolding count_where
  wanting_first n v vs c d l =
      record {
        left = omega (arith, rw (eq-eqb (c v) (c v) refl) at (l.size v (here refl)));
        own = λ z m e. l.fits v z (here refl) (there m) (all_mem (λ (y : ℕ). v ≢ y) d.0 m) (sym e);
        size = λ z m other. rw (ne_eqb (c v) (c z) (λ e. other (sym e))) at (l.size z (there m));
        fits = λ y z m k e same other. l.fits y z (there m) (there k) e same;
      }

  -- it wants no more: the rest are grouped
  wanting_none : (g v : ℕ) (vs : List ℕ) (o : ℕ) (c : ℕ → ℕ) → Wanting fit g v 0 vs o c → Labelled fit g vs c
  wanting_none g v vs o c w = record { size = λ z m. w.size z m (other z m); fits = λ y z m k e same. w.fits y z m k e same (other z k) }
    where
      other : (z : ℕ) → Mem z vs → c z ≢ o
      other z m e = one_answer (eq-eqb (c z) o e) (count_no (labelled c o) w.left m)

  -- ---- one more: the first vertex that v fits with can be one of its group

  module _ (g v n : ℕ) (vs : List ℕ) (o : ℕ) (c : ℕ → ℕ) (known : All Vertex (v ∷ vs)) (falls : AllPairs (Falls D) (v ∷ vs)) (d : Distinct vs) (w : Wanting fit g v (suc n) vs o c) where
    -- one that v wants
    wanted : (x : ℕ) × (Mem x vs × (eqb (c x) o ≡ true))
    wanted = count_some (labelled c o) n vs w.left

    abbrev x : ℕ
    x = wanted.0

    x_in : Mem x vs
    x_in = wanted.1.0

    x_own : c x ≡ o
    x_own = eqb-true (c x) o wanted.1.1

    fit_x : fit v x ≡ true
    fit_x = w.own x x_in x_own

    -- so one is found
    some_found : (j : ℕ) × (find (fit v) vs ≡ some j)
    some_found = ⊎_elim
        (λ (f : (j : ℕ) × (find (fit v) vs ≡ some j)). f)
        (λ (e : find (fit v) vs ≡ none). absurd (one_answer fit_x (find_none (fit v) x_in e)))
        (found_or_none (find (fit v) vs))

    module _ (j : ℕ) (found : find (fit v) vs ≡ some j) where
      abbrev rest : List ℕ
      rest = without j vs

      j_in : Mem j vs
      j_in = (find_some (fit v) vs found).0

      rest_distinct : Distinct rest
      rest_distinct = without_pairwise (λ (x y : ℕ). x ≢ y) j vs d

      -- j is of the label that v wants
      next_own : c j ≡ o → Wanting fit g v n rest o c
      next_own e =
          record {
            left = omega (arith, w.left, count_passing (labelled c o) j d j_in (eq-eqb (c j) o e));
            own = λ z m. w.own z (without_mem j vs m).0;
            size = λ z m other. sym (count_failing (labelled c (c z)) j d j_in (ne_eqb (c j) (c z) (λ same. other (sym same ∙ e)))) ∙ w.size z (without_mem j vs m).0 other;
            fits = λ y z m k differ same other. w.fits y z (without_mem j vs m).0 (without_mem j vs k).0 differ same other;
          }

      -- or of another: then x takes its place there, and fits with all of them, since v fits with both and j comes first
      module _ (other : c j ≢ o) where
        x_not_j : x ≢ j
        x_not_j e = other (ap c (sym e) ∙ x_own)

        abbrev moved : ℕ → ℕ
        moved y = cond (eqb y x) (c j) (c y)

        moved_x : moved x ≡ c j
        moved_x = rw (eq-eqb x x refl) refl

        moved_else : (y : ℕ) → y ≢ x → moved y ≡ c y
        moved_else y h = rw (ne_eqb y x h) refl

        x_left : Mem x rest
        x_left = mem_without j x_in x_not_j

        vertex : {z : ℕ} → Mem z vs → Vertex z
        vertex m = all_mem Vertex known.1 m

        below : {z : ℕ} → Mem z vs → D z ≤ D v
        below m = all_mem (Falls D v) falls.0 m

        x_later : D x ≤ D j
        x_later = ⊎_elim (λ (e : x ≡ j). absurd (x_not_j e)) (λ (h : D x ≤ D j). h) (find_first (fit v) (Falls D) falls.1 x_in found fit_x)

        -- strong elimination
        fits_x : (y : ℕ) → Mem y rest → c y ≡ c j → fit y x ≡ true
        fits_x y m e =
            let s = without_mem j vs m in
            laws.eliminates v j x y known.0 (vertex j_in) (vertex x_in) (vertex s.0) (below j_in) (below s.0) x_later
            (find_some (fit v) vs found).1 fit_x (w.fits j y j_in s.0 (λ same. s.1 (sym same)) (sym e) (λ same. other (sym e ∙ same)))

        next_left : count_where (labelled moved o) rest ≡ n
        next_left =
            let one : count_where (labelled c o) rest ≡ suc (count_where (labelled moved o) rest) = count_at (labelled c o) (labelled moved o) rest_distinct x_left (rw moved_x (ne_eqb (c j) o other)) (λ y h. rw (moved_else y h) refl) ∙ rw (eq-eqb (c x) o x_own) refl in
            omega (arith, one, w.left, count_failing (labelled c o) j d j_in (ne_eqb (c j) o other))

        -- the label of j: x for j
        next_size_own : count_where (labelled moved (c j)) rest ≡ g
        next_size_own =
            let one : count_where (labelled moved (c j)) rest ≡ suc (count_where (labelled c (c j)) rest) = count_at (labelled moved (c j)) (labelled c (c j)) rest_distinct x_left (ne_eqb (c x) (c j) (λ e. other (sym e ∙ x_own))) (λ y h. rw (moved_else y h) refl) ∙ rw (moved_x, eq-eqb (c j) (c j) refl) refl in
            one ∙ sym (count_passing (labelled c (c j)) j d j_in (eq-eqb (c j) (c j) refl)) ∙ w.size j j_in other

        -- and any other
        next_size_else : (z : ℕ) → Mem z rest → z ≢ x → c z ≢ o → c z ≢ c j → count_where (labelled moved (c z)) rest ≡ g
        next_size_else z m h a b =
            count_agree (labelled moved (c z)) (labelled c (c z)) rest (mem_all (λ (y : ℕ). labelled moved (c z) y ≡ labelled c (c z) y) rest alike)
            ∙ sym (count_failing (labelled c (c z)) j d j_in (ne_eqb (c j) (c z) (λ e. b (sym e)))) ∙ w.size z (without_mem j vs m).0 a
          where
            alike : (y : ℕ) → Mem y rest → labelled moved (c z) y ≡ labelled c (c z) y
            alike y k = elim (ℕ_discrete y x) [
              | yes e ↦ rw (e, moved_x, ne_eqb (c j) (c z) (λ q. b (sym q)), ne_eqb (c x) (c z) (λ q. a (sym q ∙ x_own))) refl
              | no e ↦ rw (moved_else y e) refl
            ]

        next_size : (z : ℕ) → Mem z rest → moved z ≢ o → count_where (labelled moved (moved z)) rest ≡ g
        next_size z m a = elim (ℕ_discrete (moved z) (c j)) [
          | yes e ↦ rw e next_size_own
          | no e ↦
              let h : z ≢ x = λ same. e (ap moved same ∙ moved_x) in
              rw (moved_else z h) (next_size_else z m h (λ q. a (moved_else z h ∙ q)) (λ q. e (moved_else z h ∙ q)))
        ]

        next_fits : (y z : ℕ) → Mem y rest → Mem z rest → y ≢ z → moved y ≡ moved z → moved z ≢ o → fit y z ≡ true
        next_fits y z m k differ same a = elim (ℕ_discrete y x) [
          | yes e ↦
              let h : z ≢ x = λ q. differ (e ∙ sym q) in
              let cz : c z ≡ c j = sym (moved_else z h) ∙ sym same ∙ ap moved e ∙ moved_x in
              rw e (laws.symmetric z x (vertex (without_mem j vs k).0) (vertex x_in) (fits_x z k cz))
          | no e ↦ elim (ℕ_discrete z x) [
            | yes f ↦ rw f (fits_x y m (sym (moved_else y e) ∙ same ∙ ap moved f ∙ moved_x))
            | no f ↦ w.fits y z (without_mem j vs m).0 (without_mem j vs k).0 differ (sym (moved_else y e) ∙ same ∙ moved_else z f) (λ q. a (moved_else z f ∙ q))
          ]
        ]

        next_moved : Wanting fit g v n rest o moved
        next_moved =
            record {
              left = next_left;
              own = λ z m e. let h : z ≢ x = λ same. other (sym moved_x ∙ ap moved (sym same) ∙ e) in w.own z (without_mem j vs m).0 (sym (moved_else z h) ∙ e);
              size = next_size;
              fits = next_fits;
            }

      -- either way v wants one less of what is left
      next : (c' : ℕ → ℕ) × Wanting fit g v n rest o c'
      next = elim (ℕ_discrete (c j) o) [
        | yes e ↦ (c, next_own e)
        | no e ↦ (moved e, next_moved e)
      ]

  -- ---- a whole group

  -- v gets as many as it wants, and the rest can be grouped
  group_filled : (g v n : ℕ) (vs : List ℕ) (o : ℕ) (c : ℕ → ℕ) → All Vertex (v ∷ vs) → AllPairs (Falls D) (v ∷ vs) → Distinct vs → Wanting fit g v n vs o c
      → (length (first_passing n (fit v) vs) ≡ n) × ((c' : ℕ → ℕ) × Labelled fit g (without_all (first_passing n (fit v) vs) vs) c')
  unfolding without_all
  group_filled g v zero vs o c known falls d w = rw (first_zero (fit v) vs) (refl, (c, wanting_none g v vs o c w))
  group_filled g v (suc n) vs o c known falls d w =
      let f = some_found g v n vs o c known falls d w in
      let j = f.0 in
      let e = next g v n vs o c known falls d w j f.1 in
      let r = group_filled g v n (without j vs) o e.0
      (known.0, mem_all Vertex (without j vs) (λ z m. all_mem Vertex known.1 (without_mem j vs m).0))
      (mem_all (Falls D v) (without j vs) (λ z m. all_mem (Falls D v) falls.0 (without_mem j vs m).0), without_pairwise (Falls D) j vs falls.1)
      (without_pairwise (λ (x y : ℕ). x ≢ y) j vs d) e.1 in
      rw (first_found n (fit v) vs d f.1) (ap suc r.0, r.1)

  -- by induction on the turns: every group is filled
  run_full : (n : ℕ) {vs : List ℕ} {gs : List (List ℕ)} → GroupRun n fit vs gs → All Vertex vs → AllPairs (Falls D) vs → Distinct vs → (c : ℕ → ℕ) → Labelled fit (suc n) vs c → all_full (suc n) gs ≡ true
  unfolding all_full all_of
  run_full n done known falls d c l = refl
  run_full n (opened {v = v} {vs = vs} {gs = gs} r) known falls d c l =
      let got : List ℕ = first_passing n (fit v) vs in
      let f = group_filled (suc n) v n vs (c v) c known falls d.1 (wanting_first n v vs c d l) in
      rw (eq-eqb (suc (length got)) (suc n) (ap suc f.0))
      (run_full n r (mem_all Vertex (without_all got vs) (λ z m. all_mem Vertex known.1 (others_mem got vs m))) (others_pairwise (Falls D) got vs falls.1) (others_pairwise (λ (x y : ℕ). x ≢ y) got vs d.1) f.1.0 f.1.1)

  -- where the vertices, in order of falling D, can be put into groups of n + 1 that fit two by two, the rule fills every group
  pub grouping_full : (n : ℕ) (vs : List ℕ) → All Vertex vs → AllPairs (Falls D) vs → Distinct vs → (c : ℕ → ℕ) → Labelled fit (suc n) vs c → all_full (suc n) (grouping n fit vs) ≡ true
  grouping_full n vs known falls d c l = run_full n (grouping_run n fit vs) known falls d c l
