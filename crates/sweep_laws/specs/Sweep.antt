-- A sweep from its first place to its last: it begins with the schedule that the work cells hold, and ends with the passes of the greedy rule.
use Rattle.std.specs.Prelude.{ℕ, ◌+◌, ◌-◌, ◌*◌, ◌<◌, ◌≤◌, ◌≡◌, refl, true, List, [], take, drop, ltb}
use Rattle.std.proofs.Math.Path.{sym}
use Rattle.std.proofs.Common.{ap, ◌∙◌, true≢false, arith, length-drop, ext_get_or, eq-eqb}
use Rattle.std.proofs.Math.Bool.{or-true}
use mathlib.Core.List.Memᴰ.{not-nil}
use Rattle.std.proofs.Math.Decide.{dec_lt}
use Rattle.std.proofs.Math.Nat.{sub-zero}
use Rattle.std.proofs.Math.ListN.{length, get_or, length-take}
use Rattle.std.proofs.lemmas.List.{length-map}
use Rattle.std.proofs.Math.Seq.{length-take-le, get_or-take, get_or-drop}
use borrow.Rule.Slice.PartMut.{put_mid}
use Rattle.model.specs.Lists.{numbers_from, numbers, last_d, total}
use Rattle.model.specs.Tree.{FFFF}
use Rattle.model.specs.Greedy.{Pass}
use Rattle.model.specs.Planning.{pair_count}
use Rattle.laws.specs.Lists.{mem_all, select_all}
use Rattle.laws.specs.Numbers.{range_mem, numbers_length, numbers_at}
use Rattle.schedule.specs.Schedule.{Schedule, places, slot_at, from_at, to_at, due_at, passes_by_place, total_visits, visits_of}
use Rattle.schedule.specs.InWork.{slot_part, from_part, to_part, reached_part, due_part, mate_part, tree_part, part, base_in, size_in, schedule_in, pass_at, Swept}
use Rattle.sweep_laws.specs.SegmentTree.{Clearable, Cleared}
use Rattle.sweep_laws.specs.Levels.{ShapeFor}
use Rattle.sweep_laws.specs.WorkCells.{FrontKept, front_refl, front_both, front_less, mid_tail, tree_in, TreeChanged, tree_back}
use Rattle.sweep_laws.specs.Sweeping.{Sweepable, free_at, remaining, OnShelves, Open, Setting, Made, Underway, Steppable, SteppedFrom}
use Rattle.sweep_laws.specs.WaitingLaws.{waiting_none}
use Rattle.sweep_laws.specs.Reaching.{shelves_kept}
use Rattle.sweep_laws.specs.Asking.{asks_free}
use Rattle.sweep_laws.specs.MadeLaws.{made_all}

-- a cell of part k
part_cell : (n k : ℕ) (work : List ℕ) (p : ℕ) → p < n → get_or (part n k work) p 0 ≡ get_or work (k * n + p) 0
part_cell n k work p h = get_or-take n (drop (k * n) work) p 0 h ∙ get_or-drop (k * n) work p 0

-- a place without a mate is free
unmated_free : (n : ℕ) (work : List ℕ) (p : ℕ) → get_or work (mate_part * n + p) 0 ≡ FFFF → free_at n work p ≡ true
unfolding free_at
unmated_free n work p e = rw (eq-eqb (get_or work (mate_part * n + p) 0) FFFF e) (or-true (ltb 0 (get_or work (to_part * n + p) 0)))

visits_total : (s : Schedule) (ps : List Pass) → passes_by_place s ≡ ps → total (visits_of s) ps ≡ total_visits s
unfolding total_visits
visits_total s ps e = ap (total (visits_of s)) (sym e)

-- ---- the first place

module _ (n : ℕ) (starts gaps : List ℕ) (kept width : ℕ) (work work₁ : List ℕ) (b : Sweepable n starts gaps work) (shape : ShapeFor n kept width) (c : TreeChanged n kept width [] work work₁) where
  abbrev s : Schedule
  s = schedule_in n starts work

  pub places_are : places s ≡ n
  unfolding schedule_in
  places_are = length-take-le n (drop (slot_part * n) work) (rw (length-drop (slot_part * n) work) (omega (arith, b.room)))

  setting : Setting s n width
  setting = record { few = b.few; places_are = places_are; sound = b.sound; width_is = shape.width_is }

  few_reached : length s.reached ≤ n
  few_reached = omega (arith, places_are, b.sound.reached_length)

  slot_cell : (p : ℕ) → p < n → get_or work₁ (slot_part * n + p) 0 ≡ slot_at s p
  unfolding schedule_in
  slot_cell p h = c.front.kept (slot_part * n + p) (omega arith) ∙ sym (part_cell n slot_part work p h)

  from_cell : (p : ℕ) → p < n → get_or work₁ (from_part * n + p) 0 ≡ from_at s p
  unfolding schedule_in
  from_cell p h = c.front.kept (from_part * n + p) (omega arith) ∙ sym (part_cell n from_part work p h)

  to_cell : (p : ℕ) → p < n → get_or work₁ (to_part * n + p) 0 ≡ to_at s p
  unfolding schedule_in
  to_cell p h = c.front.kept (to_part * n + p) (omega arith) ∙ sym (part_cell n to_part work p h)

  due_cell : (p : ℕ) → p < n → get_or work₁ (due_part * n + p) 0 ≡ due_at s p
  unfolding schedule_in
  due_cell p h = c.front.kept (due_part * n + p) (omega arith) ∙ sym (part_cell n due_part work p h)

  reached_cell : (r : ℕ) → r < length s.reached → get_or work₁ (reached_part * n + r) 0 ≡ get_or s.reached r 0
  reached_cell r h = c.front.kept (reached_part * n + r) (omega (arith, few_reached)) ∙ unfold schedule_in in sym (taken h)
    where
      taken : r < length (take (last_d (part n due_part work) 0) (drop (reached_part * n) work)) → get_or (take (last_d (part n due_part work) 0) (drop (reached_part * n) work)) r 0 ≡ get_or work (reached_part * n + r) 0
      taken l = get_or-take (last_d (part n due_part work) 0) (drop (reached_part * n) work) r 0 (omega (arith, length-take (last_d (part n due_part work) 0) (drop (reached_part * n) work))) ∙ get_or-drop (reached_part * n) work r 0

  -- every place is free
  all_free : (p : ℕ) → p < n → free_at n work₁ p ≡ true
  all_free p h = elim (dec_lt 0 (get_or work₁ (to_part * n + p) 0)) [
    | yes some ↦ asks_free n work₁ p some
    | no quiet ↦
        let none : to_at s p ≡ 0 = omega (arith, to_cell p h) in
        let alone : get_or work₁ (mate_part * n + p) 0 ≡ FFFF = from_cell p h ∙ b.sound.asks_nobody p (rw places_are h) none in
        unmated_free n work₁ p alone
  ]

  pub all_remain : remaining n work₁ 0 ≡ numbers (places s)
  unfolding remaining numbers
  all_remain = rw (sub-zero n, places_are) (select_all (free_at n work₁) (numbers_from 0 n) (mem_all (λ (p : ℕ). free_at n work₁ p ≡ true) (numbers_from 0 n) (λ p m. all_free p (omega (arith, (range_mem 0 n m).1)))))

  made : Made s n 0 work₁ 0 0 0
  unfolding numbers numbers_from total
  made =
      record {
        made = [];
        rest = unfold passes_by_place in rw all_remain refl;
        stands = refl;
        opener_cell = λ k h. absurd (omega arith);
        few_passes = omega arith;
        pairs_are = refl;
        visits_are = refl;
        few_pairs = omega arith;
        few_visits = omega arith;
      }

  -- the shelves are those of the schedule
  pub shelves_begin : OnShelves s n starts gaps work₁
  unfolding schedule_in
  shelves_begin = shelves_kept s n starts gaps work work₁ (front_less n (tree_part * n) work work₁ (omega arith) c.front)
      (record { shelved = b.shelved; base_at_lem = λ p h. sym (numbers_at (base_in starts work) n p 0 h); size_at_lem = λ p h. sym (numbers_at (size_in starts work) n p 0 h); near = b.near })

  pub sweep_begins : Underway s n kept width 0 0 0 0 0 0 work₁
  sweep_begins =
      record {
        sweeping =
            record {
              setting = setting;
              cells =
                  record {
                    room = rw (c.front.same, shape.width_is) b.room;
                    slot_cell = slot_cell;
                    reached_cell = reached_cell;
                    due_cell = λ p l h. due_cell p h;
                    from_cell = λ p l h f. from_cell p h;
                    to_cell = λ p l h f. to_cell p h;
                  };
              taken_reached = λ q l h e. absurd (true≢false (sym (all_free q h) ∙ e));
              next_inside = omega arith;
              behind = λ p h. absurd (omega arith);
              ahead = λ p l h. omega arith;
              waiting = waiting_none s n kept width setting (Open s n 0 0 work₁) work work₁ (λ q h o. not-nil o.2) c;
            };
        up_to = record { inside = omega arith; none_later = λ q m. absurd (not-nil m) };
        made = made;
      }

-- ---- the last place

pub sweep_ends : (n : ℕ) (starts : List ℕ) (kept width i next last passes pairs visits : ℕ) (work new : List ℕ) → n ≤ length work → i ≡ n → Underway (schedule_in n starts work) n kept width i next last passes pairs visits new → FrontKept n work new → Swept n starts work pairs visits new
sweep_ends n starts kept width i next last passes pairs visits work new room e u f =
    let m : Made (schedule_in n starts work) n n new passes pairs visits = rw e at u.made in
    let all : passes_by_place (schedule_in n starts work) ≡ m.made = made_all (schedule_in n starts work) n new passes pairs visits m in
    let count : length (passes_by_place (schedule_in n starts work)) ≡ passes = ap length (all ∙ sym m.stands) ∙ length-map (numbers passes) (pass_at n new) ∙ numbers_length passes in
    record {
      kept = f.same;
      order_kept = ext_get_or 0 (take n new) (take n work) (length-take-le n new (rw f.same room) ∙ sym (length-take-le n work room))
          (λ y h. let inside : y < n = rw (length-take-le n new (rw f.same room)) at h in rw (get_or-take n new y 0 inside, get_or-take n work y 0 inside) (f.kept y inside));
      passes_are = rw count (m.stands ∙ sym all);
      pairs_are = m.pairs_are ∙ ap (total pair_count) (sym all);
      visits_are = m.visits_are ∙ visits_total (schedule_in n starts work) m.made all;
    }

-- ---- from the first place to the last

-- the sweep has come from the cells `old`, with the tree cleared, to place i
pub record SweptTo (n : ℕ) (starts gaps : List ℕ) (kept width : ℕ) (old : List ℕ) (i next last passes pairs visits : ℕ) (work : List ℕ) : Type 0 where
  pub within : i ≤ n
  pub order : FrontKept n old work
  pub underway : (s : Schedule) → OnShelves s n starts gaps old → Underway s n kept width 0 0 0 0 0 0 old → Underway s n kept width i next last passes pairs visits work

pub swept_first : (n : ℕ) (starts gaps : List ℕ) (kept width : ℕ) (old : List ℕ) → SweptTo n starts gaps kept width old 0 0 0 0 0 0 old
swept_first n starts gaps kept width old = record { within = omega arith; order = front_refl n old; underway = λ s o u. u }

pub swept_next : (n : ℕ) (starts gaps : List ℕ) (kept width : ℕ) (old : List ℕ) (i next last passes pairs visits : ℕ) (work : List ℕ) (next' last' passes' pairs' visits' : ℕ) (work' : List ℕ) → i < n → SteppedFrom n starts gaps kept width i next last passes pairs visits work next' last' passes' pairs' visits' work' → SweptTo n starts gaps kept width old i next last passes pairs visits work → SweptTo n starts gaps kept width old (i + 1) next' last' passes' pairs' visits' work'
swept_next n starts gaps kept width old i next last passes pairs visits work next' last' passes' pairs' visits' work' h t w =
    record {
      within = omega arith;
      order = front_both n old work work' w.order t.order;
      underway = λ s o u. t.stepped s (shelves_kept s n starts gaps old work w.order o) (w.underway s o u);
    }

-- the tree is lent to be cleared
module _ (n : ℕ) (starts gaps : List ℕ) (kept width : ℕ) (work : List ℕ) (b : Sweepable n starts gaps work) (shape : ShapeFor n kept width) where
  pub parts_room : tree_part * n ≤ length work
  parts_room = omega (arith, b.room)

  pub tree_clearable : Clearable kept width (take (length work - tree_part * n) (tree_in n work))
  tree_clearable =
      record {
        some = shape.kept_some;
        within = shape.kept_within;
        room = rw (mid_tail (tree_part * n) work, length-drop (tree_part * n) work, shape.width_is) (omega (arith, b.room));
      }

  module _ (nodes : List ℕ) (same : length nodes ≡ length (take (length work - tree_part * n) (tree_in n work))) (h : Cleared kept width (take (length work - tree_part * n) (tree_in n work)) nodes) where
    abbrev cleared : List ℕ
    cleared = put_mid (tree_part * n) (length work - tree_part * n) work nodes

    pub tree_cleared : TreeChanged n kept width [] work cleared
    tree_cleared = tree_back n kept width (λ (l : List ℕ). []) work nodes parts_room same h

    shelves_cleared : OnShelves (schedule_in n starts work) n starts gaps cleared
    shelves_cleared = shelves_begin n starts gaps kept width work cleared b shape tree_cleared

    module _ (i next last passes pairs visits : ℕ) (new : List ℕ) (w : SweptTo n starts gaps kept width cleared i next last passes pairs visits new) where
      swept_underway : Underway (schedule_in n starts work) n kept width i next last passes pairs visits new
      swept_underway = w.underway (schedule_in n starts work) shelves_cleared (sweep_begins n starts gaps kept width work cleared b shape tree_cleared)

      pub swept_steppable : i < n → Steppable n starts gaps kept width i next last passes pairs visits new
      swept_steppable h = (schedule_in n starts work, h, shelves_kept (schedule_in n starts work) n starts gaps cleared new w.order shelves_cleared, swept_underway)

      pub swept_all : n ≤ i → Swept n starts work pairs visits new
      swept_all end =
          sweep_ends n starts kept width i next last passes pairs visits work new (omega (arith, b.room)) (omega (arith, w.within)) swept_underway
          (front_both n work cleared new (front_less n (tree_part * n) work cleared (omega arith) tree_cleared.front) w.order)
