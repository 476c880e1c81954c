-- The shelves of all windows stand side by side over one row of slots, in one tree: each behaves, call by call, as a plain list of its own, with its own W (document 01, "The
-- shelf and its cells", as 2026-05 changed it). A law for each call, in the words of its contract.
use Rattle.std.specs.Prelude.{ℕ, suc, ◌+◌, ◌-◌, ◌<◌, ◌≤◌, ◌≡◌, ◌⊎◌, Bool, true, false, ◌&&◌, leb}
use Rattle.std.proofs.Math.Path.{refl, sym, ap}
use Rattle.std.proofs.Common.{◌∙◌, inl, inr, arith}
use Rattle.std.proofs.Math.Logic.{⊎_elim}
use Rattle.std.proofs.Math.Bool.{and-false}
use mathlib.Core.List.{List, [], ◌∷◌}
use Rattle.std.proofs.Math.Decide.{ℕ_discrete, dec_le, dec_lt}
use borrow.Author.Tests.{le-leb, lt-leb, lt-ltb, le-ltb, eq-eqb, ne_eqb}
use Rattle.model.specs.Lists.{select, insert_by}
use Rattle.model.specs.Tree.{FFFF}
use Rattle.laws.specs.Booleans.{answers}
use Rattle.sweep_laws.specs.SegmentTree.{slots, Entry, entries_from, entries, entries_in, left_of, insert_entry, remove_entry, smallest, Cleared, Inserted, Removed, ShelfSpan}
use Rattle.sweep_laws.specs.EntryLaws.{inside, before, past, smallest_empty, insert_first}
use Rattle.sweep_laws.specs.Shelves.{on_shelf, own_slot, shelf_of, shelf_in}

-- ---- over the entries

module _ (base size : ℕ) where
  -- a slot that is none of the shelf's
  abbrev Off : ℕ → Type 0
  Off slot = (slot < base) ⊎ (base + size ≤ slot)

  on_shelf_lem : (slot : ℕ) → base ≤ slot → slot < base + size → on_shelf base size slot ≡ true
  on_shelf_lem slot a b = rw (le-leb base slot a) (lt-ltb slot _ (omega arith))

  off_shelf : (slot : ℕ) → Off slot → on_shelf base size slot ≡ false
  off_shelf slot o = ⊎_elim
      (λ (a : slot < base). rw (lt-leb base slot a))
      (λ (a : base + size ≤ slot). ap (λ (t : Bool). leb base slot && t) (le-ltb slot _ (omega arith)) ∙ and-false (leb base slot))
      o

  module _ (e : Entry) (es : List Entry) where
    on : base ≤ e.slot → e.slot < base + size → shelf_of base size (e ∷ es) ≡ own_slot base e ∷ shelf_of base size es
    unfolding shelf_of select
    on a b = rw (on_shelf_lem e.slot a b)

    off : Off e.slot → shelf_of base size (e ∷ es) ≡ shelf_of base size es
    unfolding shelf_of select
    off o = rw (off_shelf e.slot o)

  by_slot : {R : Type 0} (slot : ℕ) → (base ≤ slot → slot < base + size → R) → (Off slot → R) → R
  by_slot slot yes-on no-off = elim (dec_le base slot) [
    | yes a ↦ elim (dec_lt slot (base + size)) [
      | yes b ↦ yes-on a b
      | no b ↦ no-off (inr (omega arith))
    ]
    | no a ↦ no-off (inl (omega arith))
  ]

  -- the same entry in front of both
  with_entry : (e : Entry) (es es' : List Entry) → shelf_of base size es ≡ shelf_of base size es' → shelf_of base size (e ∷ es) ≡ shelf_of base size (e ∷ es')
  with_entry e es es' same = by_slot e.slot
      (λ a b. rw (on e es a b, on e es' a b, same) refl)
      (λ o. rw (off e es o, off e es' o) same)

  -- ---- a place comes to a slot

  -- in front of entries that all stand right of its slot
  own_first : (ps : List ℕ) (t s p : ℕ) → base + s < t → insert_entry s p (shelf_of base size (entries_from t ps)) ≡ record { slot = s; place = p } ∷ shelf_of base size (entries_from t ps)
  unfolding insert_entry insert_by left_of entries_from
  own_first [] t s p h = unfold shelf_of select in refl
  own_first (q ∷ ps) t s p h =
      let rest = own_first ps (suc t) s p (omega arith) in
      elim (ℕ_discrete q FFFF) [
        | yes none ↦ rw (eq-eqb q FFFF none) rest
        | no some ↦ rw (ne_eqb q FFFF some) (by_slot t
            (λ a b. rw (on (record { slot = t; place = q }) (entries_from (suc t) ps) a b, lt-ltb s (t - base) (omega arith)) refl)
            (λ o. rw (off (record { slot = t; place = q }) (entries_from (suc t) ps) o) rest))
      ]

  -- at the front of the row it is at the front of the shelf
  new_first : (es : List Entry) (s p : ℕ) → s < size → shelf_of base size (record { slot = base + s; place = p } ∷ es) ≡ record { slot = s; place = p } ∷ shelf_of base size es
  new_first es s p h =
      let own : base + s - base ≡ s = omega arith in
      rw (on (record { slot = base + s; place = p }) es (omega arith) (omega arith), own) refl

  insert_from : (ps : List ℕ) (t s p : ℕ) → s < size → shelf_of base size (insert_entry (base + s) p (entries_from t ps)) ≡ insert_entry s p (shelf_of base size (entries_from t ps))
  unfolding insert_entry insert_by left_of entries_from
  insert_from [] t s p h = new_first [] s p h ∙ unfold shelf_of select in refl
  insert_from (q ∷ ps) t s p h = elim (dec_lt (base + s) t) [
    | yes right ↦ ap (shelf_of base size) (insert_first (q ∷ ps) t (base + s) p right) ∙ new_first (entries_from t (q ∷ ps)) s p h ∙ sym (own_first (q ∷ ps) t s p right)
    | no left ↦
        let e : Entry = record { slot = t; place = q } in
        let es : List Entry = entries_from (suc t) ps in
        let rest = insert_from ps (suc t) s p h in
        elim (ℕ_discrete q FFFF) [
          | yes none ↦ rw (eq-eqb q FFFF none) rest
          | no some ↦ rw (ne_eqb q FFFF some, le-ltb (base + s) t (omega arith)) (by_slot t
              (λ a b. rw (on e es a b, on e (insert_entry (base + s) p es) a b, le-ltb s (t - base) (omega arith), rest) refl)
              (λ o. rw (off e es o, off e (insert_entry (base + s) p es) o) rest))
        ]
  ]

  -- the same, of a whole row
  shelf_insert : (ps : List ℕ) (s p : ℕ) → s < size → shelf_of base size (insert_entry (base + s) p (entries ps)) ≡ insert_entry s p (shelf_of base size (entries ps))
  unfolding entries
  shelf_insert ps s p h = insert_from ps 0 s p h

  -- a slot off the shelf
  off_insert : (slot p : ℕ) (es : List Entry) → Off slot → shelf_of base size (insert_entry slot p es) ≡ shelf_of base size es
  unfolding insert_entry insert_by
  off_insert slot p [] o = off (record { slot = slot; place = p }) [] o
  off_insert slot p (e ∷ es) o = ⊎_elim
      (λ (first : left_of (record { slot = slot; place = p }) e ≡ true). rw first (off (record { slot = slot; place = p }) (e ∷ es) o))
      (λ (later : left_of (record { slot = slot; place = p }) e ≡ false). rw later (with_entry e (insert_entry slot p es) es (off_insert slot p es o)))
      (answers (left_of (record { slot = slot; place = p }) e))

  -- ---- a slot is emptied

  shelf_remove : (s : ℕ) (es : List Entry) → shelf_of base size (remove_entry (base + s) es) ≡ remove_entry s (shelf_of base size es)
  unfolding remove_entry select
  shelf_remove s [] = unfold shelf_of in refl
  shelf_remove s (e ∷ es) = elim (ℕ_discrete e.slot (base + s)) [
    | yes gone ↦ rw (eq-eqb e.slot (base + s) gone) (by_slot e.slot
        (λ a b. rw (on e es a b, eq-eqb (e.slot - base) s (omega arith)) (shelf_remove s es))
        (λ o. rw (off e es o) (shelf_remove s es)))
    | no kept ↦ rw (ne_eqb e.slot (base + s) kept) (by_slot e.slot
        (λ a b. rw (on e es a b, on e (remove_entry (base + s) es) a b, ne_eqb (e.slot - base) s (λ same. kept (omega arith)), shelf_remove s es) refl)
        (λ o. rw (off e es o, off e (remove_entry (base + s) es) o) (shelf_remove s es)))
  ]

  off_remove : (slot : ℕ) (es : List Entry) → Off slot → shelf_of base size (remove_entry slot es) ≡ shelf_of base size es
  unfolding remove_entry select
  off_remove slot [] o = refl
  off_remove slot (e ∷ es) o = elim (ℕ_discrete e.slot slot) [
    | yes gone ↦ rw (eq-eqb e.slot slot gone) (off_remove slot es o ∙ sym (off e es (rw gone o)))
    | no kept ↦ rw (ne_eqb e.slot slot kept) (with_entry e (remove_entry slot es) es (off_remove slot es o))
  ]

  -- ---- a span is searched

  shelf_smallest : (from to : ℕ) (es : List Entry) → base ≤ from → to ≤ base + size → smallest (shelf_of base size es) (from - base) (to - base) ≡ smallest es from to
  shelf_smallest from to [] begins ends = unfold shelf_of select smallest in refl
  shelf_smallest from to (e ∷ es) begins ends =
      let rest = shelf_smallest from to es begins ends in
      let own : List Entry = shelf_of base size es in
      by_slot e.slot
      (λ a b. rw (on e es a b) (elim (dec_le from e.slot) [
        | yes c ↦ elim (dec_lt e.slot to) [
          | yes d ↦ rw (inside (own_slot base e) own (from - base) (to - base) (omega arith) (omega arith), inside e es from to c d, rest) refl
          | no d ↦ past (own_slot base e) own (from - base) (to - base) (omega arith) ∙ rest ∙ sym (past e es from to (omega arith))
        ]
        | no c ↦ before (own_slot base e) own (from - base) (to - base) (omega arith) ∙ rest ∙ sym (before e es from to (omega arith))
      ]))
      (λ o. rw (off e es o) (rest ∙ sym (⊎_elim
      (λ (a : e.slot < base). before e es from to (omega arith))
      (λ (a : base + size ≤ e.slot). past e es from to (omega arith))
      o)))

-- ---- call by call

module _ (base size kept width : ℕ) (old new : List ℕ) where
  -- every slot is emptied
  pub shelf_cleared : Cleared kept width old new → shelf_in base size width new ≡ []
  shelf_cleared h = ap (shelf_of base size) h.entries_are ∙ unfold shelf_of select in refl

  -- a place has come to slot s of the shelf
  pub shelf_inserted : (s place : ℕ) → s < size → Inserted kept width old (base + s) place new → shelf_in base size width new ≡ insert_entry s place (shelf_in base size width old)
  shelf_inserted s place inside h = ap (shelf_of base size) h.entries_are ∙ shelf_insert base size (slots width old) s place inside

  -- slot s of the shelf is emptied
  pub shelf_removed : (s : ℕ) → Removed kept width old (base + s) new → shelf_in base size width new ≡ remove_entry s (shelf_in base size width old)
  shelf_removed s h = ap (shelf_of base size) h.entries_are ∙ shelf_remove base size s (entries_in width old)

  -- a place comes or goes in a slot off the shelf
  module _ (slot : ℕ) (other : (slot < base) ⊎ (base + size ≤ slot)) where
    pub other_inserted : (place : ℕ) → Inserted kept width old slot place new → shelf_in base size width new ≡ shelf_in base size width old
    other_inserted place h = ap (shelf_of base size) h.entries_are ∙ off_insert base size slot place (entries_in width old) other

    pub other_removed : Removed kept width old slot new → shelf_in base size width new ≡ shelf_in base size width old
    other_removed h = ap (shelf_of base size) h.entries_are ∙ off_remove base size slot (entries_in width old) other

-- a lookup in the row answers what one in the shelf alone does
pub shelf_found : (width : ℕ) (nodes : List ℕ) (base size from to : ℕ) → ShelfSpan base size from to → smallest (entries_in width nodes) from to ≡ smallest (shelf_in base size width nodes) (from - base) (to - base)
shelf_found width nodes base size from to span = elim (dec_lt from to) [
  | yes some ↦ sym (shelf_smallest base size from to (entries_in width nodes) (span.begins some) span.ends)
  | no none ↦ smallest_empty (entries_in width nodes) from to (omega arith) ∙ sym (smallest_empty (shelf_in base size width nodes) (from - base) (to - base) (omega arith))
]
