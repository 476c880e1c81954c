-- Laws of the entries of a segment tree: what the smallest place in a span is, by the entries and by the slots, what a store into a slot makes of the
-- entries, and where the slots stand among the nodes.
use Rattle.std.specs.Prelude.{ℕ, zero, suc, ◌+◌, ◌*◌, ◌<◌, ◌≤◌, min, ◌≡◌, refl, ◌⊎◌, ◌≢◌, true, false, not, length, get_or, set, drop, replicate, leb, eqb}
use Rattle.std.proofs.Common.{sym, ap, ◌∙◌, inl, inr, ⊎_elim, arith, length-drop}
use Rattle.std.proofs.Math.Bool.{and-false}
use mathlib.Core.List.Memᴰ.{cases_cons as mem-cons}
use mathlib.Core.List.Memᴰ.{head as here}
use mathlib.Core.List.Memᴰ.{not-nil}
use mathlib.Core.List.Memᴰ.{tail as there}
use mathlib.Core.List.{List, [], ◌∷◌, Memᴰ as Mem}
use Rattle.std.proofs.Math.Decide.{ℕ_discrete, dec_le, dec_lt}
use Rattle.std.proofs.Math.Seq.{length-take-le, get_or-take, get_or-drop}
use borrow.Author.Tests.{le-leb, lt-leb, lt-ltb, le-ltb, eq-eqb, ne_eqb, eqb-false, not-true}
use Rattle.model.specs.Lists.{select, insert_by}
use Rattle.model.specs.Tree.{FFFF}
use Rattle.laws.specs.Lists.{get_d_inside}
use Rattle.laws.specs.Booleans.{answers}
use Rattle.sweep_laws.specs.SegmentTree.{entries_in, slots, Entry, entries_from, entries, left_of, insert_entry, remove_entry, smallest, Vacant}

-- ---- over the entries

module _ (e : Entry) (es : List Entry) (from to : ℕ) where
  pub inside : from ≤ e.slot → e.slot < to → smallest (e ∷ es) from to ≡ min e.place (smallest es from to)
  unfolding smallest
  inside a b = rw (le-leb from e.slot a, lt-ltb e.slot to b)

  pub before : e.slot < from → smallest (e ∷ es) from to ≡ smallest es from to
  unfolding smallest
  before a = rw (lt-leb from e.slot a)

  pub past : to ≤ e.slot → smallest (e ∷ es) from to ≡ smallest es from to
  unfolding smallest
  past a = rw (le-ltb e.slot to a, and-false (leb from e.slot))

  -- the first entry lies in the span, or it counts for nothing
  by_slot : {R : Type 0} → (from ≤ e.slot → e.slot < to → R) → (smallest (e ∷ es) from to ≡ smallest es from to → R) → R
  by_slot in_span out = elim (dec_le from e.slot) [
    | yes a ↦ elim (dec_lt e.slot to) [
      | yes b ↦ in_span a b
      | no b ↦ out (past (omega arith))
    ]
    | no a ↦ out (before (omega arith))
  ]

-- no place is greater than FFFF
pub smallest_le_FFFF : (es : List Entry) (from to : ℕ) → smallest es from to ≤ FFFF
unfolding smallest
smallest_le_FFFF [] from to = omega arith
smallest_le_FFFF (e ∷ es) from to = by_slot e es from to
    (λ a b. rw (inside e es from to a b) (omega (arith, smallest_le_FFFF es from to)))
    (λ same. rw same (smallest_le_FFFF es from to))

-- no entry in the span has a smaller place
pub smallest_le : (from to : ℕ) {e : Entry} {es : List Entry} → Mem e es → from ≤ e.slot → e.slot < to → smallest es from to ≤ e.place
smallest_le from to {e} (here {x = x} {xs = xs} same) a b =
    let slot : e.slot ≡ x.slot = ap (λ (y : Entry). y.slot) same in
    let place : e.place ≡ x.place = ap (λ (y : Entry). y.place) same in
    omega (arith, inside x xs from to (omega arith) (omega arith))
smallest_le from to {e} (there {x = x} {xs = xs} m) a b =
    let rest : smallest xs from to ≤ e.place = smallest_le from to m a b in
    by_slot x xs from to (λ c d. omega (arith, inside x xs from to c d)) (λ same. omega arith)

-- an entry in the span that has the smallest place
pub record SmallestEntry (es : List Entry) (from to : ℕ) : Type 0 where
  pub entry : Entry
  pub held : Mem entry es
  pub starts : from ≤ entry.slot
  pub below : entry.slot < to
  pub least : entry.place ≡ smallest es from to

later : (e : Entry) (es : List Entry) (from to : ℕ) → smallest (e ∷ es) from to ≡ smallest es from to → SmallestEntry es from to → SmallestEntry (e ∷ es) from to
later e es from to same s = record { entry = s.entry; held = there s.held; starts = s.starts; below = s.below; least = s.least ∙ sym same }

-- other than FFFF, it is the place of an entry in the span
pub smallest_entry : (es : List Entry) (from to : ℕ) → (smallest es from to ≡ FFFF → ⊥) → SmallestEntry es from to
unfolding smallest
smallest_entry [] from to some = absurd (some refl)
smallest_entry (e ∷ es) from to some = by_slot e es from to
    (λ a b. let both = inside e es from to a b in elim (dec_le e.place (smallest es from to)) [
      | yes first ↦ record { entry = e; held = here refl; starts = a; below = b; least = omega arith }
      | no rest ↦
          let same : smallest (e ∷ es) from to ≡ smallest es from to = omega arith in
          later e es from to same (smallest_entry es from to (λ none. some (same ∙ none)))
    ])
    (λ same. later e es from to same (smallest_entry es from to (λ none. some (same ∙ none))))

-- with no entry in the span it is FFFF
pub smallest_none : (es : List Entry) (from to : ℕ) → ((e : Entry) → Mem e es → from ≤ e.slot → e.slot < to → ⊥) → smallest es from to ≡ FFFF
smallest_none es from to none = elim (ℕ_discrete (smallest es from to) FFFF) [
  | yes same ↦ same
  | no some ↦ let s = smallest_entry es from to some in absurd (none s.entry s.held s.starts s.below)
]

-- so it is in an empty span
pub smallest_empty : (es : List Entry) (from to : ℕ) → to ≤ from → smallest es from to ≡ FFFF
smallest_empty es from to h = smallest_none es from to (λ e m a b. omega arith)

-- ---- by the slots

-- what stands in a slot, if it is a place, is an entry
slot_entry_from : (s : ℕ) (ps : List ℕ) (i t : ℕ) → t ≡ s + i → (get_or ps i FFFF ≡ FFFF → ⊥) → Mem {A = Entry} (record { slot = t; place = get_or ps i FFFF }) (entries_from s ps)
unfolding entries_from
slot_entry_from s [] i t e some = absurd (some refl)
slot_entry_from s (p ∷ ps) zero t e some =
    let first : t ≡ s = omega arith in
    rw (ne_eqb p FFFF some) (here (λ j. record { slot = first j; place = p }))
slot_entry_from s (p ∷ ps) (suc i) t e some =
    let rest = slot_entry_from (suc s) ps i t (omega arith) some in
    elim (ℕ_discrete p FFFF) [
      | yes none ↦ rw (eq-eqb p FFFF none) rest
      | no other ↦ rw (ne_eqb p FFFF other) (there rest)
    ]

pub slot_entry : (ps : List ℕ) (s : ℕ) → (get_or ps s FFFF ≡ FFFF → ⊥) → Mem {A = Entry} (record { slot = s; place = get_or ps s FFFF }) (entries ps)
unfolding entries
slot_entry ps s some = slot_entry_from 0 ps s s (omega arith) some

-- an entry stands in its slot
pub record InSlot (ps : List ℕ) (slot place : ℕ) : Type 0 where
  pub within : slot < length ps
  pub holds : get_or ps slot FFFF ≡ place
  pub some : place ≡ FFFF → ⊥

record InSlotFrom (s : ℕ) (ps : List ℕ) (e : Entry) : Type 0 where
  index : ℕ
  at : e.slot ≡ s + index
  stands : InSlot ps index e.place

shifted : (s p : ℕ) (ps : List ℕ) (e : Entry) → InSlotFrom (suc s) ps e → InSlotFrom s (p ∷ ps) e
shifted s p ps e i =
    record {
      index = suc i.index;
      at = omega (arith, i.at);
      stands = record { within = omega (arith, i.stands.within); holds = i.stands.holds; some = i.stands.some };
    }

entry_slot_from : (s : ℕ) (ps : List ℕ) (e : Entry) → Mem e (entries_from s ps) → InSlotFrom s ps e
unfolding entries_from
entry_slot_from s [] e m = absurd (not-nil m)
entry_slot_from s (p ∷ ps) e m = elim (ℕ_discrete p FFFF) [
  | yes none ↦ shifted s p ps e (entry_slot_from (suc s) ps e (rw (eq-eqb p FFFF none) at m))
  | no other ↦ ⊎_elim
      (λ (same : e ≡ record { slot = s; place = p }).
      let place : p ≡ e.place = sym (ap (λ (x : Entry). x.place) same) in
      record {
        index = 0;
        at = omega (arith, ap (λ (x : Entry). x.slot) same);
        stands = record { within = omega arith; holds = place; some = λ none. other (place ∙ none) };
      })
      (λ (rest : Mem e (entries_from (suc s) ps)). shifted s p ps e (entry_slot_from (suc s) ps e rest))
      (mem-cons (rw (ne_eqb p FFFF other) at m))
]

pub entry_slot : (ps : List ℕ) (e : Entry) → Mem e (entries ps) → InSlot ps e.slot e.place
unfolding entries
entry_slot ps e m =
    let i = entry_slot_from 0 ps e m in
    let same : e.slot ≡ i.index = omega (arith, i.at) in
    rw same i.stands

no_entries_from : (s n : ℕ) → entries_from s (replicate n FFFF) ≡ []
unfolding entries_from
no_entries_from s zero = refl
no_entries_from s (suc n) = no_entries_from (suc s) n

-- empty slots hold no entry
pub no_entries : (n : ℕ) → entries (replicate n FFFF) ≡ []
unfolding entries
no_entries n = no_entries_from 0 n

-- no slot in the span holds a smaller place
pub smallest_le_slot : (ps : List ℕ) (from to s : ℕ) → from ≤ s → s < to → smallest (entries ps) from to ≤ get_or ps s FFFF
smallest_le_slot ps from to s a b = elim (ℕ_discrete (get_or ps s FFFF) FFFF) [
  | yes none ↦ rw none (smallest_le_FFFF (entries ps) from to)
  | no some ↦ smallest_le from to (slot_entry ps s some) a b
]

-- a slot of the span that holds the smallest place
pub record SmallestSlot (ps : List ℕ) (from to : ℕ) : Type 0 where
  pub slot : ℕ
  pub starts : from ≤ slot
  pub below : slot < to
  pub least : get_or ps slot FFFF ≡ smallest (entries ps) from to

-- other than FFFF, it stands in a slot of the span
pub smallest_slot : (ps : List ℕ) (from to : ℕ) → (smallest (entries ps) from to ≡ FFFF → ⊥) → SmallestSlot ps from to
smallest_slot ps from to some =
    let s = smallest_entry (entries ps) from to some in
    record {
      slot = s.entry.slot;
      starts = s.starts;
      below = s.below;
      least = (entry_slot ps s.entry s.held).holds ∙ s.least;
    }

-- what is at most every place in the span and, if not FFFF, stands in a slot of it, is the smallest
pub smallest_unique : (ps : List ℕ) (from to m : ℕ) → m ≤ FFFF → ((s : ℕ) → from ≤ s → s < to → m ≤ get_or ps s FFFF) → ((m ≡ FFFF → ⊥) → (s : ℕ) × (from ≤ s) × (s < to) × (get_or ps s FFFF ≡ m)) → m ≡ smallest (entries ps) from to
smallest_unique ps from to m cap bound reached =
    let above : smallest (entries ps) from to ≤ m = elim (ℕ_discrete m FFFF) [
      | yes none ↦ rw none (smallest_le_FFFF (entries ps) from to)
      | no some ↦ let s = reached some in omega (arith, smallest_le_slot ps from to s.0 s.1 s.2, s.3)
    ] in
    let below : m ≤ smallest (entries ps) from to = elim (ℕ_discrete (smallest (entries ps) from to) FFFF) [
      | yes none ↦ rw none cap
      | no some ↦ let s = smallest_slot ps from to some in omega (arith, bound s.slot s.starts s.below, s.least)
    ] in
    omega arith

-- ---- a store into a slot

-- a vacant slot is empty
pub vacant_slot : (ps : List ℕ) (s : ℕ) → Vacant s (entries ps) → get_or ps s FFFF ≡ FFFF
vacant_slot ps s vacant = elim (ℕ_discrete (get_or ps s FFFF) FFFF) [
  | yes none ↦ none
  | no some ↦ absurd (vacant _ (slot_entry ps s some) refl)
]

-- a slot left of all entries comes first
pub insert_first : (ps : List ℕ) (t s p : ℕ) → s < t → insert_entry s p (entries_from t ps) ≡ record { slot = s; place = p } ∷ entries_from t ps
unfolding insert_entry insert_by left_of entries_from
insert_first [] t s p h = refl
insert_first (q ∷ ps) t s p h = elim (ℕ_discrete q FFFF) [
  | yes none ↦ rw (eq-eqb q FFFF none) (insert_first ps (suc t) s p (omega arith))
  | no some ↦ rw (ne_eqb q FFFF some, lt-ltb s t h) refl
]

insert_from : (ps : List ℕ) (t i s p : ℕ) → s ≡ t + i → i < length ps → p < FFFF → get_or ps i FFFF ≡ FFFF → entries_from t (set ps i p) ≡ insert_entry s p (entries_from t ps)
unfolding insert_entry insert_by left_of entries_from
insert_from [] t i s p at inside some vacant = absurd (omega arith)
insert_from (q ∷ ps) t zero s p at inside some vacant =
    let here : s ≡ t = omega arith in
    rw (eq-eqb q FFFF vacant, ne_eqb p FFFF (λ e. omega arith), here) (sym (insert_first ps (suc t) t p (omega arith)))
insert_from (q ∷ ps) t (suc i) s p at inside some vacant =
    let rest = insert_from ps (suc t) i s p (omega arith) (omega arith) some vacant in
    elim (ℕ_discrete q FFFF) [
      | yes none ↦ rw (eq-eqb q FFFF none) rest
      | no other ↦ rw (ne_eqb q FFFF other, le-ltb s t (omega arith)) (ap (λ (es : List Entry). record { slot = t; place = q } ∷ es) rest)
    ]

-- a place stored into a vacant slot is inserted
pub entries_insert : (ps : List ℕ) (s p : ℕ) → s < length ps → p < FFFF → Vacant s (entries ps) → entries (set ps s p) ≡ insert_entry s p (entries ps)
entries_insert ps s p inside some vacant =
    let empty = vacant_slot ps s vacant in
    unfold entries in insert_from ps 0 s s p (omega arith) inside some empty

-- a slot left of all entries has none
remove_first : (ps : List ℕ) (t s : ℕ) → s < t → remove_entry s (entries_from t ps) ≡ entries_from t ps
unfolding remove_entry select entries_from
remove_first [] t s h = refl
remove_first (q ∷ ps) t s h = elim (ℕ_discrete q FFFF) [
  | yes none ↦ rw (eq-eqb q FFFF none) (remove_first ps (suc t) s (omega arith))
  | no some ↦ rw (ne_eqb q FFFF some, ne_eqb t s (λ e. omega arith)) (ap (λ (es : List Entry). record { slot = t; place = q } ∷ es) (remove_first ps (suc t) s (omega arith)))
]

remove_from : (ps : List ℕ) (t i s : ℕ) → s ≡ t + i → entries_from t (set ps i FFFF) ≡ remove_entry s (entries_from t ps)
unfolding remove_entry select entries_from
remove_from [] t i s at = refl
remove_from (q ∷ ps) t zero s at =
    let here : t ≡ s = omega arith in
    elim (ℕ_discrete q FFFF) [
      | yes none ↦ rw (eq-eqb q FFFF none) (sym (remove_first ps (suc t) s (omega arith)))
      | no other ↦ rw (ne_eqb q FFFF other, eq-eqb t s here) (sym (remove_first ps (suc t) s (omega arith)))
    ]
remove_from (q ∷ ps) t (suc i) s at =
    let rest = remove_from ps (suc t) i s (omega arith) in
    elim (ℕ_discrete q FFFF) [
      | yes none ↦ rw (eq-eqb q FFFF none) rest
      | no other ↦ rw (ne_eqb q FFFF other, ne_eqb t s (λ e. omega arith)) (ap (λ (es : List Entry). record { slot = t; place = q } ∷ es) rest)
    ]

-- FFFF stored into a slot removes its entry
pub entries_remove : (ps : List ℕ) (s : ℕ) → entries (set ps s FFFF) ≡ remove_entry s (entries ps)
unfolding entries
entries_remove ps s = remove_from ps 0 s s (omega arith)

-- ---- the entries after it

-- one entry more
pub insert_mem : (s p : ℕ) {e : Entry} (es : List Entry) → Mem e (insert_entry s p es) → (e ≡ record { slot = s; place = p }) ⊎ Mem e es
unfolding insert_entry insert_by
insert_mem s p [] m = mem-cons m
insert_mem s p {e} (x ∷ es) m = ⊎_elim
    (λ (first : left_of (record { slot = s; place = p }) x ≡ true). mem-cons (rw first at m))
    (λ (later : left_of (record { slot = s; place = p }) x ≡ false). ⊎_elim
    (λ (same : e ≡ x). inr (here same))
    (λ (rest : Mem e (insert_entry s p es)). ⊎_elim (λ n. inl n) (λ o. inr (there o)) (insert_mem s p es rest))
    (mem-cons (rw later at m)))
    (answers (left_of (record { slot = s; place = p }) x))

pub mem_inserted : (s p : ℕ) (es : List Entry) → Mem {A = Entry} (record { slot = s; place = p }) (insert_entry s p es)
unfolding insert_entry insert_by
mem_inserted s p [] = here refl
mem_inserted s p (x ∷ es) = ⊎_elim
    (λ (first : left_of (record { slot = s; place = p }) x ≡ true). rw first (here refl))
    (λ (later : left_of (record { slot = s; place = p }) x ≡ false). rw later (there (mem_inserted s p es)))
    (answers (left_of (record { slot = s; place = p }) x))

pub mem_insert : (s p : ℕ) {e : Entry} {es : List Entry} → Mem e es → Mem e (insert_entry s p es)
unfolding insert_entry insert_by
mem_insert s p {e} (here {x = x} {xs = xs} same) = ⊎_elim
    (λ (first : left_of (record { slot = s; place = p }) x ≡ true). rw first (there (here same)))
    (λ (later : left_of (record { slot = s; place = p }) x ≡ false). rw later (here same))
    (answers (left_of (record { slot = s; place = p }) x))
mem_insert s p {e} (there {x = x} {xs = xs} m) = ⊎_elim
    (λ (first : left_of (record { slot = s; place = p }) x ≡ true). rw first (there (there m)))
    (λ (later : left_of (record { slot = s; place = p }) x ≡ false). rw later (there (mem_insert s p m)))
    (answers (left_of (record { slot = s; place = p }) x))

-- those of the other slots
pub remove_mem : (s : ℕ) {e : Entry} (es : List Entry) → Mem e (remove_entry s es) → Mem e es × (e.slot ≢ s)
unfolding remove_entry select
remove_mem s [] m = absurd (not-nil m)
remove_mem s {e} (x ∷ es) m = ⊎_elim
    (λ (kept : not (eqb x.slot s) ≡ true). ⊎_elim
    (λ (same : e ≡ x). (here same, λ at. eqb-false x.slot s (not-true (eqb x.slot s) kept) (sym (ap (λ (y : Entry). y.slot) same) ∙ at)))
    (λ (rest : Mem e (remove_entry s es)). let r = remove_mem s es rest in (there r.0, r.1))
    (mem-cons (rw kept at m)))
    (λ (gone : not (eqb x.slot s) ≡ false). let r = remove_mem s es (rw gone at m) in (there r.0, r.1))
    (answers (not (eqb x.slot s)))

pub mem_remove : (s : ℕ) {e : Entry} {es : List Entry} → Mem e es → e.slot ≢ s → Mem e (remove_entry s es)
unfolding remove_entry select
mem_remove s {e} (here {x = x} {xs = xs} same) other =
    let kept : not (eqb x.slot s) ≡ true = ap not (ne_eqb x.slot s (λ at. other (ap (λ (y : Entry). y.slot) same ∙ at))) in
    rw kept (here same)
mem_remove s {e} (there {x = x} {xs = xs} m) other = ⊎_elim
    (λ (kept : not (eqb x.slot s) ≡ true). rw kept (there (mem_remove s m other)))
    (λ (gone : not (eqb x.slot s) ≡ false). rw gone (mem_remove s m other))
    (answers (not (eqb x.slot s)))

-- ---- the slots among the nodes

module _ (width : ℕ) (nodes : List ℕ) (room : 2 * width ≤ length nodes) where
  pub slots_length : length (slots width nodes) ≡ width
  unfolding slots
  slots_length = length-take-le width (drop width nodes) (rw (length-drop width nodes) (omega arith))

  -- slot s stands at width + s
  pub slot_cell : (s : ℕ) → s < width → get_or (slots width nodes) s FFFF ≡ get_or nodes (width + s) 0
  unfolding slots
  slot_cell s h =
      get_or-take width (drop width nodes) s FFFF h
      ∙ get_or-drop width nodes s FFFF
      ∙ get_d_inside nodes (width + s) FFFF 0 (omega arith)

-- the smallest place that there can be in a span is found in its slot
pub smallest_first : (width : ℕ) (nodes : List ℕ) → 2 * width ≤ length nodes → (from to slot first : ℕ) → from ≤ slot → slot < to → to ≤ width → first < FFFF → ((e : Entry) → Mem e (entries_in width nodes) → from ≤ e.slot → e.slot < to → first ≤ e.place) → get_or nodes (width + slot) 0 ≡ first → first ≡ smallest (entries_in width nodes) from to
smallest_first width nodes room from to slot first starts below top some least holds =
    let at_most : smallest (entries_in width nodes) from to ≤ first = rw (← holds, ← slot_cell width nodes room slot (omega arith)) (smallest_le_slot (slots width nodes) from to slot starts below) in
    let found = smallest_entry (entries_in width nodes) from to (λ e. omega (arith, at_most)) in
    omega (arith, at_most, least found.entry found.held found.starts found.below, found.least)
