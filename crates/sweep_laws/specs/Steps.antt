-- From place to place: each way that a step can end leaves the sweep at the next place, with the passes made.
use Rattle.std.specs.Prelude.{ℕ, suc, ◌+◌, ◌*◌, ◌<◌, ◌≤◌, ◌≡◌, ◌≢◌, Bool, true, false, List, [], ◌∷◌, length, get_or, set}
use Rattle.std.proofs.Math.Path.{refl, sym}
use Rattle.std.proofs.Common.{◌∙◌, arith, length-set, get_or-set_same}
use Rattle.std.proofs.Math.Bool.{true≢false}
use Rattle.std.proofs.Math.Option.{none}
use Rattle.std.proofs.Math.Nat.{add-zero}
use Rattle.std.proofs.Math.Numerals.{add-one}
use Rattle.std.proofs.Math.Decide.{ℕ_discrete}
use Rattle.std.proofs.Math.Seq.{get_or-set_other}
use borrow.Author.Tests.{eq-eqb, ne_eqb, le-ltb}
use Rattle.model.specs.Lists.{find, without}
use Rattle.model.specs.Tree.{FFFF}
use Rattle.model.specs.Jobs.{job_limit}
use Rattle.model.specs.Greedy.{Pass, pair, single, greedy}
use Rattle.model.specs.Planning.{pair_count}
use Rattle.matching.specs.Passes.{greedy_with, greedy_alone}
use Rattle.schedule.specs.Schedule.{Schedule, places, to_at, due_at, base_at, size_at, fits, visits_at, visits_of, Near}
use Rattle.schedule.specs.InWork.{slot_part, from_part, to_part, reached_part, due_part, mate_part, opener_part, tree_part, pass_of}
use Rattle.sweep_laws.specs.WorkCells.{FrontKept, front_both, front_less, front_set, tree_in, tree_set}
use Rattle.sweep_laws.specs.Sweeping.{free_at, remaining, ShelfAt, OnShelves, Open, Sweeping, UpTo, Made, Underway, Steppable, Asking, ShelfKnown, taken, paired, Chosen, ReachedAt, SteppedFrom}
use Rattle.sweep_laws.specs.WaitingLaws.{waiting_as}
use Rattle.sweep_laws.specs.Reaching.{free_kept, shelves_kept, take_place}
use Rattle.sweep_laws.specs.Asking.{asks_free, free_alone, mate_of_one, paired_other, free_paired}
use Rattle.sweep_laws.specs.MadeLaws.{remaining_free, remaining_taken, remaining_same, remaining_without, made_same, made_more}

-- a place has a gap, which leads to a place
pub near_place : (s : Schedule) (n : ℕ) (gaps : List ℕ) → places s ≡ n → Near s gaps → (p : ℕ) → p < n → (p < length gaps) × (p + get_or gaps p 0 < n)
near_place s n gaps e g p h = (rw (g.gaps_length, e) h, rw (← e) (g.inside p (rw e h)))

-- nothing is found where nothing passes
pub find_never : (p : ℕ → Bool) (l : List ℕ) → ((x : ℕ) → p x ≡ false) → find p l ≡ none
unfolding find
find_never p [] e = refl
find_never p (x ∷ l) e = rw (e x) (find_never p l e)

-- a place that asks nobody fits none
pub fits_none : (s : Schedule) (p q : ℕ) → to_at s p ≡ 0 → fits s p q ≡ false
unfolding fits
fits_none s p q e = rw e refl

visits_none : (s : Schedule) (p : ℕ) → to_at s p ≡ 0 → visits_at s p ≡ 0
unfolding visits_at
visits_none s p e = rw e refl

-- the pass that place i opens, by its mate
pass_alone : (n : ℕ) (work : List ℕ) (i : ℕ) → get_or work (mate_part * n + i) 0 ≡ FFFF → pass_of n work i ≡ single i
unfolding pass_of
pass_alone n work i e = rw e refl

pass_pair : (n : ℕ) (work : List ℕ) (i q : ℕ) → q ≢ FFFF → get_or work (mate_part * n + i) 0 ≡ q → pass_of n work i ≡ pair i q
unfolding pass_of
pass_pair n work i q other e = rw (e, ne_eqb q FFFF other) refl

-- what a pass counts
pairs_alone : (i : ℕ) → 0 ≡ pair_count (single i)
unfolding pair_count
pairs_alone i = refl

pairs_two : (i q : ℕ) → 1 ≡ pair_count (pair i q)
unfolding pair_count
pairs_two i q = refl

visits_alone : (s : Schedule) (i : ℕ) → visits_at s i ≡ visits_of s (single i)
unfolding visits_of
visits_alone s i = refl

visits_two : (s : Schedule) (i q : ℕ) → visits_at s i ≡ visits_of s (pair i q)
unfolding visits_of
visits_two s i q = refl

-- an opener is written where what was due is used up
module _ (s : Schedule) (n kept width i next k v : ℕ) (work : List ℕ) (known : i < n) (early : k ≤ i) where
  free_opener : (p : ℕ) → p < n → free_at n (set work (opener_part * n + k) v) p ≡ free_at n work p
  unfolding free_at
  free_opener p h =
      rw (get_or-set_other work (opener_part * n + k) (to_part * n + p) v 0 (λ e. omega arith), get_or-set_other work (opener_part * n + k) (mate_part * n + p) v 0 (λ e. omega arith)) refl

  sweeping_opener : Sweeping s n kept width (suc i) next work → Sweeping s n kept width (suc i) next (set work (opener_part * n + k) v)
  sweeping_opener w =
      let few : length s.reached ≤ n = rw (← w.setting.places_are) w.setting.sound.reached_length in
      record {
        setting = w.setting;
        cells =
            record {
              room = rw length-set w.cells.room;
              slot_cell = λ p h. get_or-set_other work (opener_part * n + k) (slot_part * n + p) v 0 (λ e. omega arith) ∙ w.cells.slot_cell p h;
              reached_cell = λ r h. get_or-set_other work (opener_part * n + k) (reached_part * n + r) v 0 (λ e. omega arith) ∙ w.cells.reached_cell r h;
              due_cell = λ p l h. get_or-set_other work (opener_part * n + k) (due_part * n + p) v 0 (λ e. omega arith) ∙ w.cells.due_cell p l h;
              from_cell = λ p l h f. get_or-set_other work (opener_part * n + k) (from_part * n + p) v 0 (λ e. omega arith) ∙ w.cells.from_cell p l h (sym (free_opener p h) ∙ f);
              to_cell = λ p l h f. get_or-set_other work (opener_part * n + k) (to_part * n + p) v 0 (λ e. omega arith) ∙ w.cells.to_cell p l h (sym (free_opener p h) ∙ f);
            };
        taken_reached = λ p l h f. w.taken_reached p l h (sym (free_opener p h) ∙ f);
        next_inside = w.next_inside;
        behind = w.behind;
        ahead = w.ahead;
        waiting = rw (tree_set n work (opener_part * n + k) v (omega arith))
            (waiting_as s n kept width w.setting (Open s n (suc i) next work) (Open s n (suc i) next (set work (opener_part * n + k) v)) (tree_in n work)
            (λ p h o. (o.0, free_opener p h ∙ o.1, o.2))
            (λ p h o. (o.0, sym (free_opener p h) ∙ o.1, o.2))
            w.waiting);
      }

-- a place that does not wait is passed over
pub sweeping_past : (s : Schedule) (n kept width i next : ℕ) (work : List ℕ) → next ≡ due_at s i → (Open s n i next work i → ⊥) → Sweeping s n kept width i next work → Sweeping s n kept width (suc i) next work
sweeping_past s n kept width i next work next_is idle w =
    record {
      setting = w.setting;
      cells =
          record {
            room = w.cells.room;
            slot_cell = w.cells.slot_cell;
            reached_cell = w.cells.reached_cell;
            due_cell = λ p l h. w.cells.due_cell p (omega arith) h;
            from_cell = λ p l h f. w.cells.from_cell p (omega arith) h f;
            to_cell = λ p l h f. w.cells.to_cell p (omega arith) h f;
          };
      taken_reached = λ p l h f. w.taken_reached p (omega arith) h f;
      next_inside = w.next_inside;
      behind = λ p h. elim (ℕ_discrete p i) [
        | yes e ↦ rw (e, next_is) (omega arith)
        | no e ↦ w.behind p (omega arith)
      ];
      ahead = λ p l h. w.ahead p (omega arith) h;
      waiting = waiting_as s n kept width w.setting (Open s n i next work) (Open s n (suc i) next work) (tree_in n work)
          (λ p h o. elim (ℕ_discrete p i) [
            | yes e ↦ absurd (idle (rw e at o))
            | no e ↦ (omega (arith, o.0), o.1, o.2)
          ])
          (λ p h o. (omega (arith, o.0), o.1, o.2))
          w.waiting;
    }

-- ---- a step, once what is due is reached

module _ (s : Schedule) (n kept width i next last passes pairs visits : ℕ) (work : List ℕ) (u : Underway s n kept width i next last passes pairs visits work) (known : i < n)
    (due last₁ : ℕ) (work₁ : List ℕ) (r : ReachedAt n kept width i next last work due last₁ work₁) where
  abbrev reached : (due ≡ due_at s i) × Sweeping s n kept width i due work₁ × UpTo s n due last₁
  reached = r.reached s known u.sweeping u.up_to

  abbrev w : Sweeping s n kept width i due work₁
  w = reached.1

  room : tree_part * n ≤ length work₁
  room = omega (arith, w.cells.room)

  early : passes ≤ i
  early = u.made.few_passes

  m : Made s n i work₁ passes pairs visits
  m = made_same s n i work passes pairs visits u.made work₁
      (λ k h. r.front.kept (opener_part * n + k) (omega (arith, early)))
      (λ p h. r.front.kept (mate_part * n + p) (omega arith))
      i (omega arith)
      (remaining_same n work work₁ i (λ p l h. free_kept n work work₁ r.front p h))

  -- the cells of a later list that tell the passes
  abbrev opened : List ℕ → List ℕ
  opened new = set new (opener_part * n + passes) i

  module _ (to : ℕ) (to_is : to ≡ get_or work₁ (to_part * n + i) 0) where
    -- ---- it asks nobody

    module _ (quiet : to ≤ 0) (mate : ℕ) (mate-is : mate ≡ get_or work₁ (mate_part * n + i) 0) where
      quiet_cell : get_or work₁ (to_part * n + i) 0 ≤ 0
      quiet_cell = rw (← to_is) quiet

      -- the running order stays
      quiet_order : (FrontKept n work work₁) × FrontKept n work (opened work₁)
      quiet_order =
          let less : FrontKept n work work₁ = front_less n (tree_part * n) work work₁ (omega arith) r.front in
          (less, front_both n work work₁ (opened work₁) less (front_set n work₁ (opener_part * n + passes) i (omega arith)))

      -- it is taken
      step_taken : (mate ≡ FFFF → ⊥) → Underway s n kept width (i + 1) due last₁ passes pairs visits work₁
      step_taken other =
          let taken : free_at n work₁ i ≡ false = unfold free_at in rw (le-ltb 0 (get_or work₁ (to_part * n + i) 0) quiet_cell, ne_eqb (get_or work₁ (mate_part * n + i) 0) FFFF (λ e. other (mate-is ∙ e))) refl in
          rw add-one
          (record {
            sweeping = sweeping_past s n kept width i due work₁ reached.0 (λ o. true≢false (sym o.1 ∙ taken)) w;
            up_to = reached.2;
            made = made_same s n i work₁ passes pairs visits m work₁ (λ k h. refl) (λ p h. refl) (suc i) (omega arith) (sym (remaining_taken n work₁ i known taken));
          })

      -- it runs alone
      step_alone : mate ≡ FFFF → Underway s n kept width (i + 1) due last₁ (passes + 1) pairs visits (opened work₁)
      step_alone e =
          let free : free_at n work₁ i ≡ true = unfold free_at in rw (le-ltb 0 (get_or work₁ (to_part * n + i) 0) quiet_cell, eq-eqb (get_or work₁ (mate_part * n + i) 0) FFFF (sym mate-is ∙ e)) refl in
          let quiet_at : to_at s i ≡ 0 = omega (arith, w.cells.to_cell i (omega arith) known free, quiet_cell) in
          let unwaiting : Open s n i due work₁ i → ⊥ = λ o. let t = take_place due s.reached o.2 in omega (arith, quiet_at, rw t.3 at (w.setting.sound.reached_asks t.0 t.2)) in
          let same : remaining n (opened work₁) (suc i) ≡ remaining n work₁ (suc i) = remaining_same n work₁ (opened work₁) (suc i) (λ p l h. free_opener s n kept width i due passes i work₁ known early p h) in
          let turn : greedy (fits s) (remaining n work₁ i) ≡ single i ∷ greedy (fits s) (remaining n (opened work₁) (suc i)) =
          rw (remaining_free n work₁ i known free, same) (greedy_alone (fits s) i (remaining n work₁ (suc i)) (find_never (fits s i) (remaining n work₁ (suc i)) (λ q. fits_none s i q quiet_at))) in
          let made : Made s n (i + 1) (opened work₁) (passes + 1) (pairs + 0) (visits + 0) = made_more s n i work₁ passes pairs visits m (opened work₁)
          (λ k h. get_or-set_other work₁ (opener_part * n + passes) (opener_part * n + k) i 0 (λ e. omega arith))
          (λ p h. get_or-set_other work₁ (opener_part * n + passes) (mate_part * n + p) i 0 (λ e. omega arith))
          (single i) 0 0
          (get_or-set_same work₁ (opener_part * n + passes) i 0 (omega (arith, room, early)))
          (pass_alone n (opened work₁) i (get_or-set_other work₁ (opener_part * n + passes) (mate_part * n + i) i 0 (λ e. omega arith) ∙ sym mate-is ∙ e))
          turn (pairs_alone i) (omega arith) (sym (visits_none s i quiet_at) ∙ visits_alone s i) (omega arith) in
          record {
            sweeping = rw add-one (sweeping_opener s n kept width i due passes i work₁ known early (sweeping_past s n kept width i due work₁ reached.0 unwaiting w));
            up_to = reached.2;
            made = rw (add-zero pairs, add-zero visits) at made;
          }

    -- ---- it asks

    module _ (some : 0 < to) where
      step_asking : (base size first : ℕ) (gaps : List ℕ) → base ≡ base_at s i → size ≡ size_at s i → Near s gaps → first ≡ i + get_or gaps i 0 → Asking s n kept width base size i first last₁ due to work₁
      step_asking base size first gaps base_is size_is g first-is =
          record {
            sweeping = w;
            inside = known;
            base_is = base_is;
            size_is = size_is;
            first_inside = rw first-is (near_place s n gaps w.setting.places_are g i known).1;
            none_before = λ q l h starts ends. rw first-is (g.first i q l (rw w.setting.places_are h) starts ends);
            up_to = reached.2;
            next_is = reached.0;
            to_is = to_is;
            asks = some;
          }

      free_here : free_at n work₁ i ≡ true
      free_here = asks_free n work₁ i (rw (← to_is) some)

      module _ (q v : ℕ) (work₂ : List ℕ) (c : Chosen s n kept width i due work₁ q v work₂) where
        next_sweeping : Sweeping s n kept width (i + 1) due (opened work₂)
        next_sweeping = rw add-one (sweeping_opener s n kept width i due passes i work₂ known early c.sweeping)

        opener_room : opener_part * n + passes < length work₂
        opener_room = omega (arith, early, c.sweeping.cells.room)

        -- one pass more, where the passes made before place i stand still
        step_made : ((k : ℕ) → k < passes → get_or work₂ (opener_part * n + k) 0 ≡ get_or work₁ (opener_part * n + k) 0) → ((p : ℕ) → p < i → get_or work₂ (mate_part * n + p) 0 ≡ get_or work₁ (mate_part * n + p) 0) → (p : Pass) (a : ℕ) → pass_of n (opened work₂) i ≡ p → greedy (fits s) (remaining n work₁ i) ≡ p ∷ greedy (fits s) (remaining n (opened work₂) (suc i)) → a ≡ pair_count p → a ≤ 1 → v ≡ visits_of s p → Underway s n kept width (i + 1) due last₁ (passes + 1) (pairs + a) (visits + v) (opened work₂)
        step_made openers mates p a is turn a-is a-few v-is =
            record {
              sweeping = next_sweeping;
              up_to = reached.2;
              made = made_more s n i work₁ passes pairs visits m (opened work₂)
                  (λ k h. get_or-set_other work₂ (opener_part * n + passes) (opener_part * n + k) i 0 (λ e. omega arith) ∙ openers k h)
                  (λ y h. get_or-set_other work₂ (opener_part * n + passes) (mate_part * n + y) i 0 (λ e. omega arith) ∙ mates y h)
                  p a v
                  (get_or-set_same work₂ (opener_part * n + passes) i 0 opener_room)
                  is turn a-is a-few v-is c.few_visits;
            }

        mate_opened : get_or (opened work₂) (mate_part * n + i) 0 ≡ get_or work₂ (mate_part * n + i) 0
        mate_opened = get_or-set_other work₂ (opener_part * n + passes) (mate_part * n + i) i 0 (λ e. omega arith)

        -- it finds none
        step_unmatched : q ≡ FFFF → Underway s n kept width (i + 1) due last₁ (passes + 1) pairs (visits + v) (opened work₂)
        step_unmatched e =
            let o = c.none_found e in
            let keeps : (y : ℕ) → y < tree_part * n → y ≢ mate_part * n + i → get_or work₂ y 0 ≡ get_or work₁ y 0 = λ y h other. o.front.kept y h ∙ get_or-set_other work₁ (mate_part * n + i) y FFFF 0 other in
            let mate : get_or work₂ (mate_part * n + i) 0 ≡ FFFF = o.front.kept (mate_part * n + i) (omega arith) ∙ get_or-set_same work₁ (mate_part * n + i) FFFF 0 (omega (arith, room)) in
            let same : remaining n (opened work₂) (suc i) ≡ remaining n work₁ (suc i) = remaining_same n work₁ (opened work₂) (suc i)
            (λ p l h. free_opener s n kept width i due passes i work₂ known early p h ∙ free_kept n (set work₁ (mate_part * n + i) FFFF) work₂ o.front p h ∙ free_alone n i work₁ FFFF p known h (λ e. omega arith)) in
            rw add-zero at
            (step_made
            (λ k h. keeps (opener_part * n + k) (omega (arith, early)) (λ e. omega arith))
            (λ y h. keeps (mate_part * n + y) (omega arith) (λ e. omega arith))
            (single i) 0
            (pass_alone n (opened work₂) i (mate_opened ∙ mate))
            (rw (remaining_free n work₁ i known free_here, same) (greedy_alone (fits s) i (remaining n work₁ (suc i)) o.unfound))
            (pairs_alone i) (omega arith) (c.visits_are ∙ visits_alone s i))

        -- it finds a mate
        step_matched : (q ≡ FFFF → ⊥) → Underway s n kept width (i + 1) due last₁ (passes + 1) (pairs + 1) (visits + v) (opened work₂)
        step_matched other =
            let o = c.one_found other in
            let inside = o.inside in
            let later = o.later in
            let few = w.setting.few in
            let keeps : (y : ℕ) → y < tree_part * n → y ≢ mate_part * n + i → y ≢ mate_part * n + q → y ≢ to_part * n + q → get_or work₂ y 0 ≡ get_or work₁ y 0 = λ y h a b d. o.front.kept y h ∙ paired_other n i q work₁ known inside later room few y a b d in
            let mate : get_or work₂ (mate_part * n + i) 0 ≡ q = o.front.kept (mate_part * n + i) (omega arith) ∙ mate_of_one n i q work₁ known inside later room few in
            let rest : remaining n (opened work₂) (suc i) ≡ without q (remaining n work₁ (suc i)) = remaining_without n work₁ (opened work₂) (suc i) q
            (λ p l h. free_opener s n kept width i due passes i work₂ known early p h ∙ free_kept n (paired n i q work₁) work₂ o.front p h ∙ free_paired n i q work₁ known inside later room few p h (λ e. omega arith)) in
            step_made
            (λ k h. keeps (opener_part * n + k) (omega (arith, early)) (λ e. omega (arith, early)) (λ e. omega (arith, early)) (λ e. omega (arith, early)))
            (λ y h. keeps (mate_part * n + y) (omega arith) (λ e. omega arith) (λ e. omega arith) (λ e. omega arith))
            (pair i q) 1
            (pass_pair n (opened work₂) i q other (mate_opened ∙ mate))
            (rw (remaining_free n work₁ i known free_here, rest) (greedy_with (fits s) i (remaining n work₁ (suc i)) o.first))
            (pairs_two i q) (omega arith) (c.visits_are ∙ visits_two s i q)

        -- the running order stays
        step_front : FrontKept n work (opened work₂)
        step_front =
            let less : FrontKept n work work₁ = front_less n (tree_part * n) work work₁ (omega arith) r.front in
            let chosen : FrontKept n work₁ work₂ = elim (ℕ_discrete q FFFF) [
              | yes e ↦ front_both n work₁ (set work₁ (mate_part * n + i) FFFF) work₂ (front_set n work₁ (mate_part * n + i) FFFF (omega arith)) (front_less n (tree_part * n) (set work₁ (mate_part * n + i) FFFF) work₂ (omega arith) (c.none_found e).front)
              | no e ↦ front_both n work₁ (paired n i q work₁) work₂ paired_order (front_less n (tree_part * n) (paired n i q work₁) work₂ (omega arith) (c.one_found e).front)
            ] in
            front_both n work work₁ (opened work₂) less (front_both n work₁ work₂ (opened work₂) chosen (front_set n work₂ (opener_part * n + passes) i (omega arith)))
          where
            paired_order : FrontKept n work₁ (paired n i q work₁)
            paired_order = front_both n work₁ (taken n i q work₁) (paired n i q work₁)
                (front_both n work₁ (set work₁ (mate_part * n + q) i) (taken n i q work₁) (front_set n work₁ (mate_part * n + q) i (omega arith)) (front_set n (set work₁ (mate_part * n + q) i) (to_part * n + q) 0 (omega arith)))
                (front_set n (taken n i q work₁) (mate_part * n + i) q (omega arith))

-- ---- the whole step, as the code takes it

module _ (n : ℕ) (starts gaps : List ℕ) (kept width i next last passes pairs visits : ℕ) (work : List ℕ) (p : Steppable n starts gaps kept width i next last passes pairs visits work)
    (due last₁ : ℕ) (work₁ : List ℕ) (r : ReachedAt n kept width i next last work due last₁ work₁) (to : ℕ) (to_is : to ≡ get_or work₁ (to_part * n + i) 0) where
  module _ (quiet : to ≤ 0) (mate : ℕ) (mate-is : mate ≡ get_or work₁ (mate_part * n + i) 0) where
    pub stepped_taken : (mate ≡ FFFF → ⊥) → SteppedFrom n starts gaps kept width i next last passes pairs visits work due last₁ passes pairs visits work₁
    stepped_taken other =
        record {
          order = (quiet_order p.0 n kept width i next last passes pairs visits work p.3 p.1 due last₁ work₁ r to to_is quiet mate mate-is).0;
          stepped = λ s o u. step_taken s n kept width i next last passes pairs visits work u p.1 due last₁ work₁ r to to_is quiet mate mate-is other;
        }

    pub stepped_alone : mate ≡ FFFF → SteppedFrom n starts gaps kept width i next last passes pairs visits work due last₁ (passes + 1) pairs visits (set work₁ (opener_part * n + passes) i)
    stepped_alone e =
        record {
          order = (quiet_order p.0 n kept width i next last passes pairs visits work p.3 p.1 due last₁ work₁ r to to_is quiet mate mate-is).1;
          stepped = λ s o u. step_alone s n kept width i next last passes pairs visits work u p.1 due last₁ work₁ r to to_is quiet mate mate-is e;
        }

  -- the shelves stay while places are reached
  shelves : (s : Schedule) → OnShelves s n starts gaps work → OnShelves s n starts gaps work₁
  shelves s o = shelves_kept s n starts gaps work work₁ (front_less n (tree_part * n) work work₁ (omega arith) r.front) o

  module _ (some : 0 < to) where
    pub shelf_known : ShelfKnown starts i work₁
    shelf_known = (n, p.1, omega (arith, r.front.same, p.3.sweeping.cells.room), (shelves p.0 p.2).shelved)

    module _ (base size : ℕ) (h : ShelfAt starts work₁ i base size) (first : ℕ) (first-is : first ≡ i + get_or gaps i 0) where
      asking : (s : Schedule) → OnShelves s n starts gaps work → Underway s n kept width i next last passes pairs visits work → Asking s n kept width base size i first last₁ due to work₁
      asking s o u =
          step_asking s n kept width i next last passes pairs visits work u p.1 due last₁ work₁ r to to_is some base size first gaps
          (h.base_is ∙ (shelves s o).base_at_lem i p.1)
          (h.size_is ∙ (shelves s o).size_at_lem i p.1)
          o.near
          first-is

      pub now_asking : (s : Schedule) × (next : ℕ) × Asking s n kept width base size i first last₁ next to work₁
      now_asking = (p.0, due, asking p.0 p.2 p.3)

      module _ (q v : ℕ) (work₂ : List ℕ) (m : (s : Schedule) (next : ℕ) → Asking s n kept width base size i first last₁ next to work₁ → Chosen s n kept width i next work₁ q v work₂) where
        chosen : (s : Schedule) → OnShelves s n starts gaps work → Underway s n kept width i next last passes pairs visits work → Chosen s n kept width i due work₁ q v work₂
        chosen s o u = m s due (asking s o u)

        pub opener_known : opener_part * n + passes < length work₂
        opener_known = opener_room p.0 n kept width i next last passes pairs visits work p.3 p.1 due last₁ work₁ r to to_is some q v work₂ (chosen p.0 p.2 p.3)

        pub few_visits : visits + v ≤ 49 * job_limit
        few_visits = omega (arith, p.1, p.3.made.few_visits, p.3.sweeping.setting.few, (chosen p.0 p.2 p.3).few_visits)

        order_kept : FrontKept n work (set work₂ (opener_part * n + passes) i)
        order_kept = step_front p.0 n kept width i next last passes pairs visits work p.3 p.1 due last₁ work₁ r to to_is some q v work₂ (chosen p.0 p.2 p.3)

        pub stepped_unmatched : q ≡ FFFF → SteppedFrom n starts gaps kept width i next last passes pairs visits work due last₁ (passes + 1) pairs (visits + v) (set work₂ (opener_part * n + passes) i)
        stepped_unmatched e =
            record {
              order = order_kept;
              stepped = λ s o u. step_unmatched s n kept width i next last passes pairs visits work u p.1 due last₁ work₁ r to to_is some q v work₂ (chosen s o u) e;
            }

        pub stepped_matched : (q ≡ FFFF → ⊥) → SteppedFrom n starts gaps kept width i next last passes pairs visits work due last₁ (passes + 1) (pairs + 1) (visits + v) (set work₂ (opener_part * n + passes) i)
        stepped_matched other =
            record {
              order = order_kept;
              stepped = λ s o u. step_matched s n kept width i next last passes pairs visits work u p.1 due last₁ work₁ r to to_is some q v work₂ (chosen s o u) other;
            }
