-- The step of a place that asks: it leaves the segment tree, and so does each mate that it takes; the sweep is then at the next place.
use Rattle.std.specs.Prelude.{ℕ, suc, ◌+◌, ◌-◌, ◌*◌, ◌<◌, ◌≤◌, ◌≡◌, ◌≢◌, Bool, true, false, not, ◌&&◌, length, get_or, set, take, eqb}
use Rattle.std.proofs.Math.Path.{refl}
use Rattle.std.proofs.Common.{sym, ◌∙◌, true≢false, arith, length-set, get_or-set_same, get_or-set_other}
use mathlib.Core.List.{List, Memᴰ as Mem}
use Rattle.std.proofs.Math.Decide.{ℕ_discrete}
use borrow.Author.Tests.{eq-eqb, ne_eqb, eqb-false, lt-ltb}
use Rattle.model.specs.Tree.{FFFF}
use Rattle.model.specs.Jobs.{job_limit}
use Rattle.model.specs.Visits.{levels, visits}
use Rattle.schedule.specs.Schedule.{Schedule, places, slot_at, from_at, to_at, base_at, fits, visits_at, Near}
use Rattle.schedule.specs.InWork.{slot_part, from_part, to_part, reached_part, due_part, mate_part, tree_part}
use Rattle.sweep_laws.specs.SegmentTree.{ShelfSpan, entries_in, remove_entry, smallest}
use Rattle.sweep_laws.specs.EntryLaws.{smallest_le}
use Rattle.sweep_laws.specs.WorkCells.{FrontKept, front_set_both, tree_in, TreeChanged, tree_set}
use Rattle.sweep_laws.specs.Sweeping.{free_at, Waiting, Open, Setting, Cells, Sweeping, Asking, Turn, taken, paired, Taking, PlaceRemovable, MateTakable, MateTaken, MateSearchable, MateFound}
use Rattle.sweep_laws.specs.WaitingLaws.{waiting_as, waiting_remove}
use Rattle.sweep_laws.specs.Reaching.{free_kept, cells_kept}
use Rattle.sweep_laws.specs.Choice.{fits_true, First, none_chosen, one_chosen}

-- ---- which places are free afterwards

-- a place that asks is free
pub asks_free : (n : ℕ) (work : List ℕ) (p : ℕ) → 0 < get_or work (to_part * n + p) 0 → free_at n work p ≡ true
unfolding free_at
asks_free n work p h = rw (lt-ltb 0 (get_or work (to_part * n + p) 0) h) refl

-- the mate of place i changes no other
pub free_alone : (n i : ℕ) (work : List ℕ) (v p : ℕ) → i < n → p < n → p ≢ i → free_at n (set work (mate_part * n + i) v) p ≡ free_at n work p
unfolding free_at
free_alone n i work v p known h other =
    rw (get_or-set_other work (mate_part * n + i) (to_part * n + p) v 0 (λ e. omega arith), get_or-set_other work (mate_part * n + i) (mate_part * n + p) v 0 (λ e. other (omega arith))) refl

module _ (n i q : ℕ) (work : List ℕ) (known : i < n) (inside : q < n) (later : i < q) (room : tree_part * n ≤ length work) (few : n ≤ job_limit) where
  -- the cells of the place that is taken
  mate_of_other : get_or (taken n i q work) (mate_part * n + q) 0 ≡ i
  mate_of_other = get_or-set_other (set work (mate_part * n + q) i) (to_part * n + q) (mate_part * n + q) 0 0 (λ e. omega arith) ∙ get_or-set_same work (mate_part * n + q) i 0 (omega arith)

  to_of_other : get_or (taken n i q work) (to_part * n + q) 0 ≡ 0
  to_of_other = get_or-set_same (set work (mate_part * n + q) i) (to_part * n + q) 0 0 (rw length-set (omega arith))

  -- and all others
  pub taken_other : (y : ℕ) → y ≢ mate_part * n + q → y ≢ to_part * n + q → get_or (taken n i q work) y 0 ≡ get_or work y 0
  taken_other y a b = get_or-set_other (set work (mate_part * n + q) i) (to_part * n + q) y 0 0 b ∙ get_or-set_other work (mate_part * n + q) y i 0 a

  pub free_taken : (p : ℕ) → p < n → free_at n (taken n i q work) p ≡ (not (eqb p q) && free_at n work p)
  unfolding free_at
  free_taken p h = elim (ℕ_discrete p q) [
    | yes same ↦ rw (same, to_of_other, mate_of_other, ne_eqb i FFFF (λ e. omega arith), eq-eqb q q refl) refl
    | no else ↦ rw (ne_eqb p q else, taken_other (to_part * n + p) (λ e. omega arith) (λ e. else (omega arith)), taken_other (mate_part * n + p) (λ e. else (omega arith)) (λ e. omega arith)) refl
  ]

  -- the cells of the pair
  pub mate_of_one : get_or (paired n i q work) (mate_part * n + i) 0 ≡ q
  mate_of_one = get_or-set_same (taken n i q work) (mate_part * n + i) q 0 (rw (length-set, length-set) (omega arith))

  pub paired_other : (y : ℕ) → y ≢ mate_part * n + i → y ≢ mate_part * n + q → y ≢ to_part * n + q → get_or (paired n i q work) y 0 ≡ get_or work y 0
  paired_other y a b c = get_or-set_other (taken n i q work) (mate_part * n + i) y q 0 a ∙ taken_other y b c

  pub free_paired : (p : ℕ) → p < n → p ≢ i → free_at n (paired n i q work) p ≡ (not (eqb p q) && free_at n work p)
  free_paired p h other = free_alone n i (taken n i q work) q p known h other ∙ free_taken p h

not_and : (a b : Bool) → (not a && b) ≡ true → (a ≡ false) × (b ≡ true)
not_and true b e = absurd (true≢false (sym e))
not_and false b e = (refl, e)

-- ---- the cells of the later places

-- there are fewer of them
cells_later : (s : Schedule) (n width i : ℕ) (work : List ℕ) → Cells s n width i work → Cells s n width (suc i) work
cells_later s n width i work c =
    record {
      room = c.room;
      slot_cell = c.slot_cell;
      reached_cell = c.reached_cell;
      due_cell = λ p l h. c.due_cell p (omega arith) h;
      from_cell = λ p l h f. c.from_cell p (omega arith) h f;
      to_cell = λ p l h f. c.to_cell p (omega arith) h f;
    }

module _ (s : Schedule) (n width i q : ℕ) (work : List ℕ) (known : i < n) (inside : q < n) (later : i < q) (room : tree_part * n ≤ length work) (few : n ≤ job_limit) where
  -- a place that is free afterwards was free, and is not the one taken
  free_else : (p : ℕ) → p < n → free_at n (taken n i q work) p ≡ true → (p ≢ q) × (free_at n work p ≡ true)
  free_else p h e =
      let both = not_and (eqb p q) (free_at n work p) (sym (free_taken n i q work known inside later room few p h) ∙ e) in
      (eqb-false p q both.0, both.1)

  cells_taken : length s.reached ≤ n → Cells s n width (suc i) work → Cells s n width (suc i) (taken n i q work)
  cells_taken few_reached c =
      let other = taken_other n i q work known inside later room few in
      record {
        room = rw (length-set, length-set) c.room;
        slot_cell = λ p h. other (slot_part * n + p) (λ e. omega arith) (λ e. omega arith) ∙ c.slot_cell p h;
        reached_cell = λ r h. other (reached_part * n + r) (λ e. omega arith) (λ e. omega arith) ∙ c.reached_cell r h;
        due_cell = λ p l h. other (due_part * n + p) (λ e. omega arith) (λ e. omega arith) ∙ c.due_cell p l h;
        from_cell = λ p l h f. let o = free_else p h f in other (from_part * n + p) (λ e. o.0 (omega arith)) (λ e. omega arith) ∙ c.from_cell p l h o.1;
        to_cell = λ p l h f. let o = free_else p h f in other (to_part * n + p) (λ e. omega arith) (λ e. o.0 (omega arith)) ∙ c.to_cell p l h o.1;
      }

-- the slot of any place can be emptied
place_removable : (s : Schedule) (n kept width i : ℕ) (work : List ℕ) (waits : ℕ → Type 0) (p : ℕ) → p < n → Setting s n width → Cells s n width i work → Waiting s n kept width waits (tree_in n work) → PlaceRemovable n kept width p work
place_removable s n kept width i work waits p h t c v =
    record {
      inside = h;
      room = omega (arith, c.room);
      tree = v.tree;
      slot_inside = rw (c.slot_cell p h, t.width_is, ← t.places_are) (t.sound.slot_inside p (rw t.places_are h));
    }

-- ---- the place leaves the tree

module _ (s : Schedule) (n kept width base size i first last next to : ℕ) (work : List ℕ) (a : Asking s n kept width base size i first last next to work) where
  abbrev w : Sweeping s n kept width i next work
  w = a.sweeping

  free_here : free_at n work i ≡ true
  free_here = asks_free n work i (rw (← a.to_is) a.asks)

  to_at_lem : to ≡ to_at s i
  to_at_lem = a.to_is ∙ w.cells.to_cell i (omega arith) a.inside free_here

  few_reached : length s.reached ≤ n
  few_reached = rw (← w.setting.places_are) w.setting.sound.reached_length

  place_known : i < places s
  place_known = rw w.setting.places_are a.inside

  pub asking_removable : PlaceRemovable n kept width i work
  asking_removable = place_removable s n kept width i work (Open s n i next work) i a.inside w.setting w.cells w.waiting

  module _ (work₁ : List ℕ) (c : TreeChanged n kept width (remove_entry (get_or work (slot_part * n + i) 0) (entries_in width (tree_in n work))) work work₁) where
    free_same : (p : ℕ) → p < n → free_at n work₁ p ≡ free_at n work p
    free_same p h = free_kept n work work₁ c.front p h

    left : Waiting s n kept width (Open s n (suc i) next work₁) (tree_in n work₁)
    left =
        let c' : TreeChanged n kept width (remove_entry (slot_at s i) (entries_in width (tree_in n work))) work work₁ = rw (w.cells.slot_cell i a.inside) at c in
        waiting_as s n kept width w.setting (λ (p : ℕ). Open s n i next work p × (p ≢ i)) (Open s n (suc i) next work₁) (tree_in n work₁)
        (λ p h o. let other : p ≢ i = o.1 in (omega (arith, o.0.0), free_same p h ∙ o.0.1, o.0.2))
        (λ p h o. ((omega (arith, o.0), sym (free_same p h) ∙ o.1, o.2), λ e. omega (arith, o.0)))
        (waiting_remove s n kept width w.setting (Open s n i next work) work work₁ i a.inside w.waiting c')

    pub turn_begins : Turn s n kept width base size i first last next to work₁
    turn_begins =
        record {
          sweeping =
              record {
                setting = w.setting;
                cells = cells_kept n work work₁ c.front s width (suc i) few_reached (cells_later s n width i work w.cells);
                taken_reached = λ p l h f. w.taken_reached p (omega arith) h (sym (free_same p h) ∙ f);
                next_inside = w.next_inside;
                behind = λ p h. elim (ℕ_discrete p i) [
                  | yes e ↦ rw (e, a.next_is) (omega arith)
                  | no e ↦ w.behind p (omega arith)
                ];
                ahead = λ p l h. w.ahead p (omega arith) h;
                waiting = left;
              };
          inside = a.inside;
          base_is = a.base_is;
          size_is = a.size_is;
          from_cell = c.front.kept (from_part * n + i) (omega (arith, a.inside)) ∙ w.cells.from_cell i (omega arith) a.inside free_here;
          to_is = to_at_lem;
          asks = a.asks;
          first_bounded = omega (arith, a.first_inside);
          none_before = λ q h o begins ends.
              a.none_before q o.0 h
              (omega (arith, w.setting.sound.shelf_begins i place_known (rw (← to_at_lem) a.asks)))
              (omega (arith, w.setting.sound.shelf_ends i place_known));
          up_to = a.up_to;
          next_is = a.next_is;
        }

-- ---- it takes a mate

module _ (s : Schedule) (n kept width base size i first last next to : ℕ) (work : List ℕ) (t : Turn s n kept width base size i first last next to work) where
  abbrev now : Sweeping s n kept width (suc i) next work
  now = t.sweeping

  few : n ≤ job_limit
  few = now.setting.few

  pub turn_room : tree_part * n ≤ length work
  turn_room = omega (arith, now.cells.room)

  reached_few : length s.reached ≤ n
  reached_few = rw (← now.setting.places_are) now.setting.sound.reached_length

  known : i < places s
  known = rw now.setting.places_are t.inside

  span_begins : base_at s i ≤ from_at s i
  span_begins = now.setting.sound.shelf_begins i known (rw (← t.to_is) t.asks)

  few_slots : size ≤ job_limit
  few_slots = omega (arith, t.size_is, now.setting.sound.shelf_inside i known, now.setting.places_are, few)

  -- the visits of its lookup, however many mates it takes
  pub turn_span : ShelfSpan base size (get_or work (from_part * n + i) 0) to
  turn_span = record { few = few_slots; begins = λ _. rw (t.base_is, t.from_cell) span_begins; ends = rw (t.to_is, t.base_is, t.size_is) (now.setting.sound.shelf_ends i known) }

  module _ (v : ℕ) (counted : v ≡ visits (levels size) (get_or work (from_part * n + i) 0 - base) (to - base)) where
    pub turn_visits : v ≡ visits_at s i
    unfolding visits_at
    turn_visits = counted ∙ rw (t.base_is, t.size_is, t.from_cell, t.to_is, ne_eqb (to_at s i) 0 (λ e. omega (arith, t.asks, t.to_is))) refl

  pub turn_searchable : MateSearchable n kept width i first last to work
  turn_searchable =
      record {
        few = few;
        inside = t.inside;
        first_bounded = omega (arith, t.first_bounded);
        last_inside = t.up_to.inside;
        room = turn_room;
        own_slot_lem = λ e m. let o = now.waiting.only e m in o.at ∙ sym (now.cells.slot_cell e.place o.inside);
        search =
            record {
              tree = now.waiting.tree;
              inside = rw (t.to_is, now.setting.width_is, ← now.setting.places_are) (now.setting.sound.to_inside i known);
              some_place = omega (arith, few, t.first_bounded);
              no_smaller = λ e m starts below.
                  let o = now.waiting.only e m in
                  t.none_before e.place o.inside o.waiting (omega (arith, o.at, t.from_cell)) (omega (arith, o.at, t.to_is));
              no_larger = λ e m starts below. t.up_to.none_later e.place (now.waiting.only e m).waiting.2;
            };
      }

  module _ (q : ℕ) (m : MateFound n width i to work q) where
    q_is : q ≡ smallest (entries_in width (tree_in n work)) (from_at s i) (to_at s i)
    q_is = m ∙ rw (t.from_cell, t.to_is) refl

    -- none is found
    taken_none : q ≡ FFFF → Taking s n kept width base size i last next to work q work
    taken_none e =
        record {
          none_found = λ _. (none_chosen s n kept width i next work (tree_in n work) (omega (arith, few)) (rw (← t.to_is) t.asks) t.next_is now.waiting (sym q_is ∙ e), refl);
          one_found = λ other. absurd (other e);
        }

    -- one is found
    module _ (other : q ≡ FFFF → ⊥) where
      choice : First s n kept width i next work (tree_in n work) (omega (arith, few)) (rw (← t.to_is) t.asks) t.next_is now.waiting
      choice = one_chosen s n kept width i next work (tree_in n work) (omega (arith, few)) (rw (← t.to_is) t.asks) t.next_is now.waiting (λ e. other (q_is ∙ e))

      mate_inside : q < n
      mate_inside = rw q_is choice.inside

      mate_later : i < q
      mate_later = rw q_is choice.later

      mate_free : free_at n work q ≡ true
      mate_free = rw q_is choice.free

      mate_reached : Mem q (take next s.reached)
      mate_reached = rw q_is choice.reached

      mate_removable : PlaceRemovable n kept width q work
      mate_removable = place_removable s n kept width (suc i) work (Open s n (suc i) next work) q mate_inside now.setting now.cells now.waiting

      -- it has left the tree
      module _ (work₁ : List ℕ) (d : TreeChanged n kept width (remove_entry (get_or work (slot_part * n + q) 0) (entries_in width (tree_in n work))) work work₁) where
        mate_room : tree_part * n ≤ length work₁
        mate_room = rw d.front.same turn_room

        abbrev new : List ℕ
        new = taken n i q work₁

        front : FrontKept (tree_part * n) (taken n i q work) new
        front =
            front_set_both (tree_part * n) (set work (mate_part * n + q) i) (set work₁ (mate_part * n + q) i) (to_part * n + q) 0 (rw length-set (omega (arith, turn_room, mate_inside)))
            (front_set_both (tree_part * n) work work₁ (mate_part * n + q) i (omega (arith, turn_room, mate_inside)) d.front)

        free_new : (p : ℕ) → p < n → free_at n new p ≡ (not (eqb p q) && free_at n work p)
        free_new p h = free_kept n (taken n i q work) new front p h ∙ free_taken n i q work t.inside mate_inside mate_later turn_room few p h

        gone : Waiting s n kept width (λ (p : ℕ). Open s n (suc i) next work p × (p ≢ q)) (tree_in n work₁)
        gone = waiting_remove s n kept width now.setting (Open s n (suc i) next work) work work₁ q mate_inside now.waiting (rw (now.cells.slot_cell q mate_inside) at d)

        -- a place that waits still is none of those before
        further : (p : ℕ) → p < n → Open s n (suc i) next new p → from_at s i ≤ slot_at s p → slot_at s p < to_at s i → q + 1 ≤ p
        further p h o begins ends =
            let k = not_and (eqb p q) (free_at n work p) (sym (free_new p h) ∙ o.1) in
            let differs : p ≢ q = eqb-false p q k.0 in
            let least : q ≤ p = rw q_is (smallest_le (from_at s i) (to_at s i) (now.waiting.held p h (o.0, k.1, o.2)) begins ends) in
            omega arith

        turn_again : Turn s n kept width base size i (q + 1) last next to new
        turn_again =
            record {
              sweeping =
                  record {
                    setting = now.setting;
                    cells = cells_kept n (taken n i q work) new front s width (suc i) reached_few (cells_taken s n width i q work t.inside mate_inside mate_later turn_room few reached_few now.cells);
                    taken_reached = λ p l h f. elim (ℕ_discrete p q) [
                      | yes same ↦ rw same mate_reached
                      | no else ↦ now.taken_reached p l h (sym (free_new p h ∙ rw (ne_eqb p q else) refl) ∙ f)
                    ];
                    next_inside = now.next_inside;
                    behind = now.behind;
                    ahead = now.ahead;
                    waiting = rw (tree_set n (set work₁ (mate_part * n + q) i) (to_part * n + q) 0 (omega (arith, mate_inside)), tree_set n work₁ (mate_part * n + q) i (omega (arith, mate_inside)))
                        (waiting_as s n kept width now.setting (λ (p : ℕ). Open s n (suc i) next work p × (p ≢ q)) (Open s n (suc i) next new) (tree_in n work₁)
                        (λ p h o. (o.0.0, free_new p h ∙ rw (ne_eqb p q o.1, o.0.1) refl, o.0.2))
                        (λ p h o. let k = not_and (eqb p q) (free_at n work p) (sym (free_new p h) ∙ o.1) in ((o.0, k.1, o.2), eqb-false p q k.0))
                        gone);
                  };
              inside = t.inside;
              base_is = t.base_is;
              size_is = t.size_is;
              from_cell = front.kept (from_part * n + i) (omega (arith, t.inside)) ∙ taken_other n i q work t.inside mate_inside mate_later turn_room few (from_part * n + i) (λ e. omega (arith, mate_later)) (λ e. omega (arith, t.inside)) ∙ t.from_cell;
              to_is = t.to_is;
              asks = t.asks;
              first_bounded = omega (arith, mate_inside);
              none_before = further;
              up_to = t.up_to;
              next_is = t.next_is;
            }

        taken_one : Taking s n kept width base size i last next to work q new
        taken_one =
            record {
              none_found = λ e. absurd (other e);
              one_found = λ _. (record { inside = mate_inside; later = mate_later; free = mate_free; first = rw q_is choice.first; front = front }, turn_again);
            }

    -- what is found can be taken, and is taken so
    pub mate_takable : MateTakable n kept width q work
    mate_takable = record { room = turn_room; inside = λ other. mate_inside other; removable = λ other. mate_removable other }

    pub mate_taking : (new : List ℕ) → MateTaken n kept width i q work new → Taking s n kept width base size i last next to work q new
    mate_taking new g = elim (ℕ_discrete q FFFF) [
      | yes e ↦ rw (g.none e) (taken_none e)
      | no other ↦ let o = g.one other in rw o.2 (taken_one other o.0 o.1)
    ]

-- the next one comes no sooner than the gap of this one tells: they are of one shelf, that of place i
pub turn_near : (s : Schedule) (n kept width base size i q last next to : ℕ) (work gaps : List ℕ) → Near s gaps → q < n → fits s i q ≡ true → (first : ℕ) → first ≡ q + get_or gaps q 0
    → Turn s n kept width base size i (q + 1) last next to work → Turn s n kept width base size i first last next to work
turn_near s n kept width base size i q last next to work gaps g h e first first-is t =
    let setting = t.sweeping.setting in
    let sound = setting.sound in
    let i-known : i < places s = rw setting.places_are t.inside in
    let q-known : q < places s = rw setting.places_are h in
    let asks : 0 < to_at s i = rw (← t.to_is) t.asks in
    let begins = sound.shelf_begins i i-known asks in
    let ends = sound.shelf_ends i i-known in
    let f = fits_true s n kept width i next work (tree_in n work) (omega (arith, setting.few)) asks t.next_is t.sweeping.waiting q e in
    let same = sound.shelf_same i q i-known q-known (omega (arith, begins, f.from)) (omega (arith, ends, f.below)) in
    record {
      sweeping = t.sweeping;
      inside = t.inside;
      base_is = t.base_is;
      size_is = t.size_is;
      from_cell = t.from_cell;
      to_is = t.to_is;
      asks = t.asks;
      first_bounded = omega (arith, first-is, g.inside q q-known, setting.places_are);
      none_before = λ p l o starts below. rw first-is
          (g.first q p (omega (arith, t.none_before p l o starts below)) (rw setting.places_are l) (rw same.0 (omega (arith, begins, starts))) (rw (same.0, same.1) (omega (arith, ends, below))));
      up_to = t.up_to;
      next_is = t.next_is;
    }
