-- From place to place: each way that a step can end leaves the sweep at the next place with one group more or none, or tells that a group is not full.
use Rattle.std.specs.Prelude.{ℕ, suc, pred, ◌+◌, ◌*◌, ◌<◌, ◌≤◌, ◌≡◌, ◌≢◌, Bool, true, false, Some, None, get_or, eqb}
use Rattle.std.proofs.Math.Path.{refl, sym, ap}
use Rattle.std.proofs.Common.{◌∙◌, arith, suc-mul, le-mul_of_pos_right, length-append}
use Rattle.std.proofs.Math.Bool.{true≢false, and-false, and-eq-true_iff}
use mathlib.Core.List.{List, [], ◌∷◌, ◌++◌, flatten, append_assoc, append-nil}
use Rattle.std.proofs.Math.Numerals.{add-one}
use Rattle.std.proofs.Math.ListN.{length}
use borrow.Author.Tests.{eq-eqb, ne_eqb, le-ltb}
use Rattle.model.specs.Lists.{all_of, without_all}
use Rattle.model.specs.Tree.{FFFF}
use Rattle.model.specs.Jobs.{job_limit}
use Rattle.model.specs.Grouping.{grouping, all_full}
use Rattle.matching.specs.Grouping.{grouping_step}
use Rattle.laws.specs.Firsts.{first_none}
use Rattle.schedule.specs.Schedule.{Schedule, to_at, due_at, base_at, size_at, fits, groups_by_place}
use Rattle.schedule.specs.InWork.{to_part, mate_part, tree_part}
use Rattle.sweep_laws.specs.WorkCells.{FrontKept, front_both, front_less}
use Rattle.sweep_laws.specs.Sweeping.{free_at, remaining, OnShelves, Sweeping, UpTo, ReachedAt}
use Rattle.sweep_laws.specs.Reaching.{free_kept, shelves_kept}
use Rattle.sweep_laws.specs.Asking.{asks_free}
use Rattle.sweep_laws.specs.MadeLaws.{remaining_free, remaining_taken, remaining_same}
use Rattle.sweep_laws.specs.Steps.{near_place, find_never, fits_none, sweeping_past}
use Rattle.group_sweep.specs.declared.Progress.{Progress}
use Rattle.group_sweep.specs.Grouped.{got_by, GroupAsking, GroupTaken, GroupsUnderway, GroupSteppable, GroupStepped}

-- ---- groups that are full

-- one more
full_more : (g : ℕ) (xs : List (List ℕ)) (group : List ℕ) → all_full g xs ≡ true → length group ≡ g → all_full g (xs ++ group ∷ []) ≡ true
unfolding all_full all_of
full_more g [] group e h = rw (eq-eqb (length group) g h) refl
full_more g (x ∷ xs) group e h =
    let both = (and-eq-true_iff (eqb (length x) g) (all_full g xs)).0 e in
    rw both.0 (full_more g xs group both.1 h)

flatten_more : (xs : List (List ℕ)) (group : List ℕ) → flatten (xs ++ group ∷ []) ≡ flatten xs ++ group
unfolding flatten
flatten_more [] group = append-nil group
flatten_more (x ∷ xs) group = rw (flatten_more xs group) (sym (append_assoc x (flatten xs) group))

-- a group that is not full
short_append : (g : ℕ) (xs : List (List ℕ)) (group : List ℕ) (ys : List (List ℕ)) → length group ≢ g → all_full g (xs ++ group ∷ ys) ≡ false
unfolding all_full all_of
short_append g [] group ys h = rw (ne_eqb (length group) g h) refl
short_append g (x ∷ xs) group ys h = rw (short_append g xs group ys h) (and-false (eqb (length x) g))

-- there are no more groups than places
pub few_groups : (n g : ℕ) (starts gaps : List ℕ) (kept width i next last k : ℕ) (members work : List ℕ) → GroupSteppable n g starts gaps kept width i next last k members work → (k ≤ job_limit) × (n ≤ job_limit)
few_groups n g starts gaps kept width i next last k members work p =
    let few = p.underway.sweeping.setting.few in
    (omega (arith, le-mul_of_pos_right {m = g} k (omega (arith, p.least)), p.underway.left, few), few)

-- ---- a step, once what is due is reached

module _ (n g : ℕ) (starts gaps : List ℕ) (kept width i next last k : ℕ) (before old : List ℕ) (p : GroupSteppable n g starts gaps kept width i next last k before old)
    (due last₁ : ℕ) (work₁ : List ℕ) (r : ReachedAt n kept width i next last old due last₁ work₁) (to : ℕ) (to_is : to ≡ get_or work₁ (to_part * n + i) 0) where
  known : i < n
  known = p.inside

  -- how far the sweep has come then, with so many groups
  abbrev pub come_to : ℕ → Progress
  come_to groups = record { reached = record { next = due; last = record { 0 = last₁ } }; groups = groups }

  order : FrontKept n old work₁
  order = front_less n (tree_part * n) old work₁ (omega arith) r.front

  same : remaining n work₁ i ≡ remaining n old i
  same = remaining_same n old work₁ i (λ q l h. free_kept n old work₁ r.front q h)

  module _ (s : Schedule) (u : GroupsUnderway s n g kept width i next last k before old) where
    abbrev reached : (due ≡ due_at s i) × Sweeping s n kept width i due work₁ × UpTo s n due last₁
    reached = r.reached s known u.sweeping u.up_to

    -- the groups from here on, where place i is free
    turn : free_at n work₁ i ≡ true → groups_by_place s g ≡ u.made ++ (i ∷ got_by s n g work₁ i) ∷ grouping (pred g) (fits s) (without_all (got_by s n g work₁ i) (remaining n work₁ (suc i)))
    turn free = u.rest ∙ ap (λ (l : List (List ℕ)). u.made ++ l) (ap (grouping (pred g) (fits s)) (sym same ∙ remaining_free n work₁ i known free) ∙ grouping_step (pred g) (fits s) i (remaining n work₁ (suc i)))

    -- too few make the group short
    too_short : free_at n work₁ i ≡ true → length (got_by s n g work₁ i) < pred g → all_full g (groups_by_place s g) ≡ false
    too_short free few = rw (turn free) (short_append g u.made (i ∷ got_by s n g work₁ i) (grouping (pred g) (fits s) (without_all (got_by s n g work₁ i) (remaining n work₁ (suc i)))) (λ e. omega arith))

  -- ---- it asks nobody

  module _ (quiet : to ≤ 0) (mate : ℕ) (mate-is : mate ≡ get_or work₁ (mate_part * n + i) 0) where
    quiet_cell : get_or work₁ (to_part * n + i) 0 ≤ 0
    quiet_cell = rw (← to_is) quiet

    -- it is taken
    pub stepped_taken : (mate ≡ FFFF → ⊥) → GroupStepped n g starts gaps kept width i next last k before old (Some (come_to k)) before work₁
    stepped_taken other =
        let gone : free_at n work₁ i ≡ false = unfold free_at in rw (le-ltb 0 (get_or work₁ (to_part * n + i) 0) quiet_cell, ne_eqb (get_or work₁ (mate_part * n + i) 0) FFFF (λ e. other (mate-is ∙ e))) refl in
        let rest : remaining n old i ≡ remaining n work₁ (suc i) = sym same ∙ remaining_taken n work₁ i known gone in
        record {
          order = order;
          turned = λ s o u. rw add-one
              (record {
                sweeping = sweeping_past s n kept width i due work₁ (reached s u).0 (λ o. true≢false (sym o.1 ∙ gone)) (reached s u).1;
                up_to = (reached s u).2;
                made = u.made;
                rest = u.rest ∙ ap (λ (l : List ℕ). u.made ++ grouping (pred g) (fits s) l) rest;
                full = u.full;
                number = u.number;
                stands = u.stands;
                members_length = u.members_length;
                left = rw (← rest) u.left;
              });
        }

    -- it is free, and nobody is with it
    pub stepped_alone : mate ≡ FFFF → GroupStepped n g starts gaps kept width i next last k before old None before work₁
    stepped_alone e =
        let free : free_at n work₁ i ≡ true = unfold free_at in rw (le-ltb 0 (get_or work₁ (to_part * n + i) 0) quiet_cell, eq-eqb (get_or work₁ (mate_part * n + i) 0) FFFF (sym mate-is ∙ e)) refl in
        record {
          order = order;
          turned = λ s o u.
              let silent : to_at s i ≡ 0 = omega (arith, (reached s u).1.cells.to_cell i (omega arith) known free, quiet_cell) in
              let none : got_by s n g work₁ i ≡ [] = first_none (pred g) (fits s i) (remaining n work₁ (suc i)) (find_never (fits s i) (remaining n work₁ (suc i)) (λ q. fits_none s i q silent)) in
              too_short s u free (omega (arith, ap length none, p.least));
        }

  -- ---- it asks

  module _ (some : 0 < to) where
    free_here : free_at n work₁ i ≡ true
    free_here = asks_free n work₁ i (rw (← to_is) some)

    shelves : (s : Schedule) → OnShelves s n starts gaps old → OnShelves s n starts gaps work₁
    shelves s o = shelves_kept s n starts gaps old work₁ order o

    module _ (first : ℕ) (first-is : first ≡ i + get_or gaps i 0) where
      asking : (s : Schedule) → OnShelves s n starts gaps old → GroupsUnderway s n g kept width i next last k before old → GroupAsking s n g gaps kept width (base_at s i) (size_at s i) i first last₁ due to (k * g) before work₁
      asking s o u =
          let w = (reached s u).1 in
          record {
            asking =
                record {
                  sweeping = w;
                  inside = known;
                  base_is = refl;
                  size_is = refl;
                  first_inside = rw first-is (near_place s n gaps w.setting.places_are o.near i known).1;
                  none_before = λ q l below starts ends. rw first-is (o.near.first i q l (rw w.setting.places_are below) starts ends);
                  up_to = (reached s u).2;
                  next_is = (reached s u).0;
                  to_is = to_is;
                  asks = some;
                };
            near = o.near;
            least = p.least;
            most = p.most;
            members_length = u.members_length;
            left = rw same u.left;
          }

      pub now_asking : (s : Schedule) × (next : ℕ) × (base : ℕ) × (size : ℕ) × GroupAsking s n g gaps kept width base size i first last₁ next to (k * g) before work₁
      now_asking = (p.schedule, due, _, _, asking p.schedule p.shelves p.underway)

      module _ (b : Bool) (members new : List ℕ) (long : length members ≡ length before)
          (t : (s : Schedule) (next base size : ℕ) → GroupAsking s n g gaps kept width base size i first last₁ next to (k * g) before work₁ → GroupTaken s n g kept width i next (k * g) work₁ before b members new) where
        told : (s : Schedule) → OnShelves s n starts gaps old → GroupsUnderway s n g kept width i next last k before old → GroupTaken s n g kept width i due (k * g) work₁ before b members new
        told s o u = t s due _ _ (asking s o u)

        order_new : FrontKept n old new
        order_new = front_both n old work₁ new order (told p.schedule p.shelves p.underway).order

        pub stepped_full : b ≡ true → GroupStepped n g starts gaps kept width i next last k before old (Some (come_to (k + 1))) members new
        stepped_full e =
            record {
              order = order_new;
              turned = λ s o u.
                  let f = (told s o u).full e in
                  let got : List ℕ = got_by s n g work₁ i in
                  let at : (k + 1) * g ≡ k * g + g = rw add-one (suc-mul k g) in
                  rw add-one
                  (record {
                    sweeping = f.sweeping;
                    up_to = (reached s u).2;
                    made = u.made ++ (i ∷ got) ∷ [];
                    rest = turn s u free_here ∙ ap (λ (l : List ℕ). u.made ++ (i ∷ got) ∷ grouping (pred g) (fits s) l) (sym f.others) ∙ sym (append_assoc u.made ((i ∷ got) ∷ []) (grouping (pred g) (fits s) (remaining n new (suc i))));
                    full = full_more g u.made (i ∷ got) u.full (omega (arith, f.size, p.least));
                    number = omega (arith, u.number, length-append u.made ((i ∷ got) ∷ []));
                    stands = rw at (f.stands ∙ rw u.stands (sym (flatten_more u.made (i ∷ got))));
                    members_length = long ∙ u.members_length;
                    left = rw at f.left;
                  });
            }

        pub stepped_short : b ≡ false → GroupStepped n g starts gaps kept width i next last k before old None members new
        stepped_short e = record { order = order_new; turned = λ s o u. too_short s u free_here ((told s o u).short e) }
