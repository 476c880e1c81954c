-- What an insertion and a removal make of the places that wait in the segment tree.
use Rattle.std.specs.Prelude.{ℕ, ◌<◌, ◌≡◌, refl, ◌⊎◌, ◌≢◌}
use Rattle.std.proofs.Common.{sym, ap, ◌∙◌, inl, inr, ⊎_elim}
use mathlib.Core.List.Memᴰ.{not-nil}
use mathlib.Core.List.{List, [], Memᴰ as Mem}
use Rattle.schedule.specs.Schedule.{Schedule, slot_at}
use Rattle.sweep_laws.specs.SegmentTree.{entries_in, insert_entry, remove_entry, Vacant}
use Rattle.sweep_laws.specs.EntryLaws.{insert_mem, mem_inserted, mem_insert, remove_mem, mem_remove}
use Rattle.sweep_laws.specs.WorkCells.{tree_in, TreeChanged}
use Rattle.sweep_laws.specs.Sweeping.{Stands, Waiting, Setting}

module _ (s : Schedule) (n kept width : ℕ) (t : Setting s n width) where
  slot_once : (p q : ℕ) → p < n → q < n → slot_at s p ≡ slot_at s q → p ≡ q
  slot_once p q a b e = t.sound.slot_once p q (rw t.places_are a) (rw t.places_are b) e

  -- the same places by another test
  pub waiting_as : (waits waits' : ℕ → Type 0) (nodes : List ℕ) → ((q : ℕ) → q < n → waits q → waits' q) → ((q : ℕ) → q < n → waits' q → waits q) → Waiting s n kept width waits nodes → Waiting s n kept width waits' nodes
  waiting_as waits waits' nodes f g w =
      record {
        tree = w.tree;
        held = λ q h u. w.held q h (g q h u);
        only = λ e m. let o = w.only e m in record { inside = o.inside; at = o.at; waiting = f e.place o.inside o.waiting };
      }

  -- the slot of a place that does not wait is vacant
  pub waiting_vacant : (waits : ℕ → Type 0) (nodes : List ℕ) (q : ℕ) → q < n → (waits q → ⊥) → Waiting s n kept width waits nodes → Vacant (slot_at s q) (entries_in width nodes)
  waiting_vacant waits nodes q h none w e m at =
      let o = w.only e m in
      let same : e.place ≡ q = slot_once e.place q o.inside h (sym o.at ∙ at) in
      none (rw same at o.waiting)

  -- no place waits in an empty tree
  pub waiting_none : (waits : ℕ → Type 0) (work work' : List ℕ) → ((q : ℕ) → q < n → waits q → ⊥) → TreeChanged n kept width [] work work' → Waiting s n kept width waits (tree_in n work')
  waiting_none waits work work' none c =
      record {
        tree = c.tree;
        held = λ q h u. absurd (none q h u);
        only = λ e m. absurd (not-nil (rw c.entries_are at m));
      }

  module _ (waits : ℕ → Type 0) (work work' : List ℕ) (q : ℕ) (h : q < n) (w : Waiting s n kept width waits (tree_in n work)) where
    -- one more waits
    pub waiting_insert : TreeChanged n kept width (insert_entry (slot_at s q) q (entries_in width (tree_in n work))) work work' → Waiting s n kept width (λ (p : ℕ). waits p ⊎ (p ≡ q)) (tree_in n work')
    waiting_insert c =
        record {
          tree = c.tree;
          held = λ p l u. rw c.entries_are (⊎_elim
              (λ (old : waits p). mem_insert (slot_at s q) q (w.held p l old))
              (λ (new : p ≡ q). rw new (mem_inserted (slot_at s q) q (entries_in width (tree_in n work))))
              u);
          only = λ e m. ⊎_elim
              (λ (new : e ≡ record { slot = slot_at s q; place = q }). rw new (first))
              (λ (old : Mem e (entries_in width (tree_in n work))). let o = w.only e old in record { inside = o.inside; at = o.at; waiting = inl o.waiting })
              (insert_mem (slot_at s q) q (entries_in width (tree_in n work)) (rw c.entries_are at m));
        }
      where
        first : Stands s n (λ (p : ℕ). waits p ⊎ (p ≡ q)) (record { slot = slot_at s q; place = q })
        first = record { inside = h; at = refl; waiting = inr refl }

    -- one waits no longer
    pub waiting_remove : TreeChanged n kept width (remove_entry (slot_at s q) (entries_in width (tree_in n work))) work work' → Waiting s n kept width (λ (p : ℕ). waits p × (p ≢ q)) (tree_in n work')
    waiting_remove c =
        record {
          tree = c.tree;
          held = λ p l u. rw c.entries_are (mem_remove (slot_at s q) (w.held p l u.0) (λ e. u.1 (slot_once p q l h e)));
          only = λ e m.
              let r = remove_mem (slot_at s q) (entries_in width (tree_in n work)) (rw c.entries_are at m) in
              let o = w.only e r.0 in
              record { inside = o.inside; at = o.at; waiting = (o.waiting, λ same. r.1 (o.at ∙ ap (slot_at s) same)) };
        }
