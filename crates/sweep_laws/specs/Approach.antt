-- Along the first places that can wait in a span: one that does not wait there is passed by, and the search may begin after it.
use Rattle.std.specs.Prelude.{ℕ, ◌+◌, ◌*◌, ◌<◌, ◌≤◌, ◌≡◌, length, get_or}
use Rattle.std.proofs.Common.{sym, ap, ◌∙◌, arith, length-drop, get_or-drop}
use mathlib.Core.List.{List, Memᴰ as Mem}
use Rattle.std.proofs.Math.Decide.{ℕ_discrete}
use Rattle.schedule.specs.InWork.{slot_part, from_part, tree_part}
use Rattle.sweep_laws.specs.SegmentTree.{Entry, entries_in, slots}
use Rattle.sweep_laws.specs.EntryLaws.{entry_slot, slot_cell}
use Rattle.sweep_laws.specs.WorkCells.{tree_in}
use Rattle.sweep_laws.specs.Sweeping.{MateSearchable, PassedBy}

module _ (n kept width p first last to : ℕ) (work : List ℕ) (m : MateSearchable n kept width p first last to work) where
  abbrev from : ℕ
  from = get_or work (from_part * n + p) 0

  -- the tree lies within the cells
  pub tree_room : tree_part * n + 2 * width ≤ length work
  tree_room = omega (arith, rw (length-drop (tree_part * n) work) at m.search.tree.room, m.room)

  -- a place that waits in the span stands in the cell of its slot
  stands : (e : Entry) → Mem e (entries_in width (tree_in n work)) → e.slot < to → get_or work (tree_part * n + width + get_or work (slot_part * n + e.place) 0) 0 ≡ e.place
  stands e held below =
      let nodes : List ℕ = tree_in n work in
      let at : tree_part * n + width + get_or work (slot_part * n + e.place) 0 ≡ tree_part * n + (width + e.slot) = omega (arith, m.own_slot_lem e held) in
      ap (λ (y : ℕ). get_or work y 0) at
      ∙ sym (get_or-drop (tree_part * n) work (width + e.slot) 0)
      ∙ sym (slot_cell width nodes m.search.tree.room e.slot (omega (arith, m.search.inside)))
      ∙ (entry_slot (slots width nodes) e held).holds

  module _ (not-past : first ≤ last) (passed : PassedBy n width from to first work) where
    -- so every place that waits in the span comes after the first
    none_before : (e : Entry) → Mem e (entries_in width (tree_in n work)) → from ≤ e.slot → e.slot < to → first + 1 ≤ e.place
    none_before e held starts below = elim (ℕ_discrete first e.place) [
      | yes same ↦
          let slot : get_or work (slot_part * n + first) 0 ≡ e.slot = rw same (sym (m.own_slot_lem e held)) in
          absurd (passed (omega arith) (omega arith) (rw same (stands e held below)))
      | no other ↦ omega (arith, other, m.search.no_smaller e held starts below)
    ]

    pub approach_further : MateSearchable n kept width p (first + 1) last to work
    approach_further =
        record {
          few = m.few;
          inside = m.inside;
          first_bounded = omega (arith, m.last_inside);
          last_inside = m.last_inside;
          room = m.room;
          own_slot_lem = m.own_slot_lem;
          search =
              record {
                tree = m.search.tree;
                inside = m.search.inside;
                some_place = omega (arith, m.last_inside, m.few);
                no_smaller = none_before;
                no_larger = m.search.no_larger;
              };
        }
