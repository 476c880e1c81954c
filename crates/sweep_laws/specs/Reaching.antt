-- Reaching one place more: it is at or behind the sweep, free, and not in the segment tree yet, and it comes to wait there.
use Rattle.std.specs.Prelude.{ℕ, zero, suc, ◌+◌, ◌*◌, ◌<◌, ◌≤◌, max, ◌≡◌, ◌⊎◌, true, false, length, get_or, take}
use Rattle.std.proofs.Math.Path.{refl}
use Rattle.std.proofs.Common.{sym, ap, ◌∙◌, inl, inr, ⊎_elim, arith, add-one, take-suc}
use mathlib.Core.List.Memᴰ.{append_cases as mem-append}
use mathlib.Core.List.Memᴰ.{append_left as mem-left}
use mathlib.Core.List.Memᴰ.{append_right as mem-right}
use mathlib.Core.List.Memᴰ.{cases_cons as mem-cons}
use mathlib.Core.List.Memᴰ.{eq_of_singleton as mem-only}
use mathlib.Core.List.Memᴰ.{head as here}
use mathlib.Core.List.Memᴰ.{not-nil}
use mathlib.Core.List.{List, [], ◌∷◌, Memᴰ as Mem}
use Rattle.std.proofs.Math.Decide.{dec_lt}
use Rattle.laws.specs.Booleans.{answers}
use Rattle.schedule.specs.Schedule.{Schedule, slot_at, due_at}
use Rattle.schedule.specs.InWork.{slot_part, from_part, to_part, reached_part, due_part, tree_part}
use Rattle.sweep_laws.specs.SegmentTree.{entries_in, insert_entry, Insertable}
use Rattle.sweep_laws.specs.WorkCells.{FrontKept, front_refl, front_both, tree_in, TreeChanged}
use Rattle.sweep_laws.specs.Sweeping.{free_at, OnShelves, Open, Cells, Sweeping, UpTo, PlaceInsertable, ReachedAt}
use Rattle.sweep_laws.specs.WaitingLaws.{waiting_as, waiting_vacant, waiting_insert}

-- ---- cells whose front is kept

module _ (n : ℕ) (old new : List ℕ) (f : FrontKept (tree_part * n) old new) where
  pub free_kept : (p : ℕ) → p < n → free_at n new p ≡ free_at n old p
  unfolding free_at
  free_kept p h = rw (f.kept (to_part * n + p) (omega arith), f.kept (from_part * n + p) (omega arith)) refl

  pub cells_kept : (s : Schedule) (width i : ℕ) → length s.reached ≤ n → Cells s n width i old → Cells s n width i new
  cells_kept s width i few c =
      record {
        room = rw f.same c.room;
        slot_cell = λ p h. f.kept (slot_part * n + p) (omega arith) ∙ c.slot_cell p h;
        reached_cell = λ r h. f.kept (reached_part * n + r) (omega arith) ∙ c.reached_cell r h;
        due_cell = λ p l h. f.kept (due_part * n + p) (omega arith) ∙ c.due_cell p l h;
        from_cell = λ p l h free. f.kept (from_part * n + p) (omega arith) ∙ c.from_cell p l h (sym (free_kept p h) ∙ free);
        to_cell = λ p l h free. f.kept (to_part * n + p) (omega arith) ∙ c.to_cell p l h (sym (free_kept p h) ∙ free);
      }

-- the running order is kept, and with it the shelf of each place
pub shelves_kept : (s : Schedule) (n : ℕ) (starts gaps old new : List ℕ) → FrontKept n old new → OnShelves s n starts gaps old → OnShelves s n starts gaps new
shelves_kept s n starts gaps old new f o =
    record {
      shelved =
          record {
            starts_length = o.shelved.starts_length;
            window_known = λ p h. rw (f.kept p h) (o.shelved.window_known p h);
            shelf_rises = λ p h. rw (f.kept p h) (o.shelved.shelf_rises p h);
          };
      base_at_lem = λ p h. rw (f.kept p h) (o.base_at_lem p h);
      size_at_lem = λ p h. rw (f.kept p h) (o.size_at_lem p h);
      near = o.near;
    }

-- ---- among the first of a list

-- a member of a list's front stands at a place of the front
pub take_place : {x : ℕ} (r : ℕ) (l : List ℕ) → Mem x (take r l) → (t : ℕ) × (t < r) × (t < length l) × (get_or l t 0 ≡ x)
take_place zero l m = absurd (not-nil m)
take_place (suc r) [] m = absurd (not-nil m)
take_place {x} (suc r) (y ∷ l) m = ⊎_elim
    (λ (e : x ≡ y). (0, omega arith, omega arith, sym e))
    (λ (m : Mem x (take r l)). let t = take_place r l m in (suc t.0, omega (arith, t.1), omega (arith, t.2), t.3))
    (mem-cons m)

module _ (s : Schedule) (n kept width i r : ℕ) (work : List ℕ) (w : Sweeping s n kept width i r work) (known : i < n) (due : r < due_at s i) where
  abbrev q : ℕ
  q = get_or s.reached r 0

  few : length s.reached ≤ n
  few = rw (← w.setting.places_are) w.setting.sound.reached_length

  pub reached_inside : r < length s.reached
  reached_inside = omega (arith, w.setting.sound.due_inside i (rw w.setting.places_are known))

  pub reached_known : q < n
  reached_known = rw (← w.setting.places_are) (w.setting.sound.reached_place r reached_inside)

  unreached : Mem q (take r s.reached) → ⊥
  unreached m =
      let t = take_place r s.reached m in
      let same : t.0 ≡ r = w.setting.sound.reached_once t.0 r t.2 reached_inside t.3 in
      omega (arith, t.1)

  reached_late : i ≤ q
  reached_late = elim (dec_lt q i) [
    | yes before ↦ absurd (omega (arith, w.behind q before, w.setting.sound.reached_by r reached_inside))
    | no after ↦ omega arith
  ]

  reached_free : free_at n work q ≡ true
  reached_free = ⊎_elim (λ (e : free_at n work q ≡ true). e) (λ (e : free_at n work q ≡ false). absurd (unreached (w.taken_reached q reached_late reached_known e))) (answers (free_at n work q))

  -- one more is among the first
  front_more : (p : ℕ) → Mem p (take r s.reached) ⊎ (p ≡ q) → Mem p (take (suc r) s.reached)
  front_more p m = rw (take-suc s.reached r 0 reached_inside) (⊎_elim (λ (o : Mem p (take r s.reached)). mem-left (q ∷ []) o) (λ (e : p ≡ q). mem-right (take r s.reached) (here e)) m)

  more_front : (p : ℕ) → Mem p (take (suc r) s.reached) → Mem p (take r s.reached) ⊎ (p ≡ q)
  more_front p m = ⊎_elim (λ (o : Mem p (take r s.reached)). inl o) (λ (o : Mem p (q ∷ [])). inr (mem-only o)) (mem-append (take r s.reached) (rw (take-suc s.reached r 0 reached_inside) at m))

  -- as the code reads it
  module _ (p : ℕ) (p-is : p ≡ get_or work (reached_part * n + r) 0) where
    pub place_is : p ≡ q
    place_is = p-is ∙ w.cells.reached_cell r reached_inside

    pub place_known : p < n
    place_known = rw place_is reached_known

    pub place_insertable : Insertable kept width (tree_in n work) (get_or work (slot_part * n + p) 0) p
    place_insertable =
        let at : get_or work (slot_part * n + p) 0 ≡ slot_at s q = w.cells.slot_cell p place_known ∙ ap (slot_at s) place_is in
        rw (at, place_is)
        (record {
          tree = w.waiting.tree;
          inside = rw (w.setting.width_is, ← w.setting.places_are) (w.setting.sound.slot_inside q (rw w.setting.places_are reached_known));
          some_place = omega (arith, reached_known, w.setting.few);
          vacant = waiting_vacant s n kept width w.setting (Open s n i r work) (tree_in n work) q reached_known (λ o. unreached o.2) w.waiting;
        })

    pub place_reached : (work' : List ℕ) → TreeChanged n kept width (insert_entry (get_or work (slot_part * n + p) 0) p (entries_in width (tree_in n work))) work work' → Sweeping s n kept width i (r + 1) work'
    place_reached work' c =
        let at : get_or work (slot_part * n + p) 0 ≡ slot_at s q = w.cells.slot_cell p place_known ∙ ap (slot_at s) place_is in
        let c' : TreeChanged n kept width (insert_entry (slot_at s q) q (entries_in width (tree_in n work))) work work' = rw (at, place_is) at c in
        let free : (p : ℕ) → p < n → free_at n work' p ≡ free_at n work p = free_kept n work work' c.front in
        rw add-one
        (record {
          setting = w.setting;
          cells = cells_kept n work work' c.front s width i few w.cells;
          taken_reached = λ p l h e. front_more p (inl (w.taken_reached p l h (sym (free p h) ∙ e)));
          next_inside = reached_inside;
          behind = λ p h. omega (arith, w.behind p h);
          ahead = λ p l h. omega (arith, w.setting.sound.due_rises i p l (rw w.setting.places_are h));
          waiting = waiting_as s n kept width w.setting (λ (p : ℕ). Open s n i r work p ⊎ (p ≡ q)) (Open s n i (suc r) work') (tree_in n work')
              (λ p h u. ⊎_elim
              (λ (o : Open s n i r work p). (o.0, free p h ∙ o.1, front_more p (inl o.2)))
              (λ (e : p ≡ q). (rw e reached_late, free p h ∙ rw e reached_free, front_more p (inr e)))
              u)
              (λ p h o. ⊎_elim (λ (m : Mem p (take r s.reached)). inl (o.0, sym (free p h) ∙ o.1, m)) (λ (e : p ≡ q). inr e) (more_front p o.2))
              (waiting_insert s n kept width w.setting (Open s n i r work) work work' q reached_known w.waiting c');
        })

    -- none comes after the last of both
    up_to_reached : (last last' : ℕ) → last' ≡ max last p → UpTo s n r last → UpTo s n (r + 1) last'
    up_to_reached last last' e u =
        record {
          inside = omega (arith, u.inside, place_known);
          none_later = λ x m. ⊎_elim
              (λ (o : Mem x (take r s.reached)). omega (arith, u.none_later x o))
              (λ (same : x ≡ q). omega (arith, place_is))
              (more_front x (rw add-one at m));
        }

    pub place_ready : PlaceInsertable n kept width p work
    place_ready = record { inside = place_known; room = omega (arith, w.cells.room); insertable = place_insertable }

-- ---- reaching all that is due

-- `at` of the places that can be found are reached, up to place last', on the way from `next` to `due`
pub record ReachingTo (n kept width next last due : ℕ) (old : List ℕ) (at last' : ℕ) (work : List ℕ) : Type 0 where
  pub front : FrontKept (tree_part * n) old work
  pub within : at ≤ due
  pub reaching : (s : Schedule) (i : ℕ) → i < n → due ≡ due_at s i → Sweeping s n kept width i next old → UpTo s n next last → Sweeping s n kept width i at work × UpTo s n at last'

module _ (s : Schedule) (n kept width i next last due : ℕ) (old : List ℕ) (known : i < n) (w : Sweeping s n kept width i next old) (u : UpTo s n next last) (due_is : due ≡ get_or old (due_part * n + i) 0) where
  pub due_at_lem : due ≡ due_at s i
  due_at_lem = due_is ∙ w.cells.due_cell i (omega arith) known

  pub reaching_begins : ReachingTo n kept width next last due old next last old
  reaching_begins = record { front = front_refl (tree_part * n) old; within = omega (arith, due_at_lem, w.ahead i (omega arith) known); reaching = λ s i h e w u. (w, u) }

  -- the sweep, with `at` reached
  module _ (at last' : ℕ) (work : List ℕ) (r : ReachingTo n kept width next last due old at last' work) where
    pub now_sweeping : Sweeping s n kept width i at work
    now_sweeping = (r.reaching s i known due_at_lem w u).0

    module _ (more : at < due) where
      soon : at < due_at s i
      soon = omega (arith, due_at_lem)

      pub at_inside : at < n
      at_inside = omega (arith, reached_inside s n kept width i at work now_sweeping known soon, few s n kept width i at work now_sweeping known soon)

      pub reaching_ready : (p : ℕ) → p ≡ get_or work (reached_part * n + at) 0 → PlaceInsertable n kept width p work
      reaching_ready p p-is = place_ready s n kept width i at work now_sweeping known soon p p-is

      pub reaching_further : (p last'' : ℕ) (work' : List ℕ) → last'' ≡ max last' p → p ≡ get_or work (reached_part * n + at) 0 → TreeChanged n kept width (insert_entry (get_or work (slot_part * n + p) 0) p (entries_in width (tree_in n work))) work work' → ReachingTo n kept width next last due old (at + 1) last'' work'
      reaching_further p last'' work' last_is p-is c =
          record {
            front = front_both (tree_part * n) old work work' r.front c.front;
            within = omega arith;
            reaching = λ s i h e w u.
                let b = r.reaching s i h e w u in
                (place_reached s n kept width i at work b.0 h (omega arith) p p-is work' c, up_to_reached s n kept width i at work b.0 h (omega arith) p p-is last' last'' last_is b.1);
          }

    -- all are reached
    pub reaching_done : due ≤ at → ReachedAt n kept width i next last old due last' work
    reaching_done h =
        let all : at ≡ due = omega (arith, r.within) in
        record {
          front = r.front;
          reached = λ s k w u.
              let e : due ≡ due_at s i = due_is ∙ w.cells.due_cell i (omega arith) k in
              let b = r.reaching s i k e w u in
              (e, rw all at b.0, rw all at b.1);
        }
