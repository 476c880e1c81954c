-- A schedule: all that the sweep knows of a table, by place in the running order. Places, slots, spans of slots and shelves; no tree, layout or job. The shelves of all
-- windows stand side by side over one row of slots, so that a slot or a span of one shelf is one of the row; where a shelf begins and how many slots it has count in the
-- visits alone.
use Rattle.std.specs.Prelude.{ℕ, pred, ◌+◌, ◌-◌, ◌^◌, ◌<◌, ◌≤◌, ◌≡◌, Bool, cond, ◌&&◌, List, length, get_or, take, eqb, leb, ltb}
use Rattle.model.specs.Lists.{numbers, elem, total}
use Rattle.model.specs.Tree.{FFFF}
use Rattle.model.specs.Greedy.{Pass, pair, single, greedy}
use Rattle.model.specs.Grouping.{grouping}
use Rattle.model.specs.Visits.{levels, visits}

pub record Schedule : Type 0 where
  -- the slot at each place
  pub slots : List ℕ
  -- the span of slots that a place asks for: those from `froms` up to `tos`, the end itself excluded; a place whose span ends at 0 asks nobody
  pub froms : List ℕ
  pub tos : List ℕ
  -- how many of `reached` are reached at the turn of each place
  pub dues : List ℕ
  -- the places that can be found, in the order in which the sweep reaches them
  pub reached : List ℕ
  -- the slot at which the shelf of each place begins, and how many slots it has
  pub bases : List ℕ
  pub sizes : List ℕ

module _ (s : Schedule) where
  -- how many places there are
  abbrev pub places : ℕ
  places = length s.slots

  abbrev pub slot_at : ℕ → ℕ
  slot_at p = get_or s.slots p 0

  abbrev pub from_at : ℕ → ℕ
  from_at p = get_or s.froms p 0

  abbrev pub to_at : ℕ → ℕ
  to_at p = get_or s.tos p 0

  abbrev pub due_at : ℕ → ℕ
  due_at p = get_or s.dues p 0

  abbrev pub base_at : ℕ → ℕ
  base_at p = get_or s.bases p 0

  abbrev pub size_at : ℕ → ℕ
  size_at p = get_or s.sizes p 0

  -- the relation that the schedule defines: p asks, q is reached at the turn of p, and the slot of q lies in the span that p asks for
  unfoldable pub fits : ℕ → ℕ → Bool
  fits p q =
      ltb 0 (to_at p) && (elem q (take (due_at p) s.reached) && (leb (from_at p) (slot_at q) && ltb (slot_at q) (to_at p)))

  -- the greedy rule over that relation, by place
  unfoldable pub passes_by_place : List Pass
  passes_by_place = greedy fits (numbers places)

  -- the grouping rule over it, for a press with g lanes
  unfoldable pub groups_by_place : ℕ → List (List ℕ)
  groups_by_place g = grouping (pred g) fits (numbers places)

  -- the visits of the lookup at a place, in its own shelf; a place that asks nobody makes none
  unfoldable pub visits_at : ℕ → ℕ
  visits_at p = cond (eqb (to_at p) 0) 0 (visits (levels (size_at p)) (from_at p - base_at p) (to_at p - base_at p))

  -- the place that is free at its turn in a pass makes the lookup
  unfoldable pub visits_of : Pass → ℕ
  visits_of (pair p q) = visits_at p
  visits_of (single p) = visits_at p

  -- summed over the passes
  unfoldable pub total_visits : ℕ
  total_visits = total visits_of passes_by_place

  -- how far ahead of each place to look first for its mate: no later place of its shelf comes before that one. 0 tells nothing
  pub record Near (gaps : List ℕ) : Type 0 where
    pub gaps_length : length gaps ≡ places
    pub inside : (p : ℕ) → p < places → p + get_or gaps p 0 < places
    pub first : (p q : ℕ) → p < q → q < places → base_at p ≤ slot_at q → slot_at q < base_at p + size_at p → p + get_or gaps p 0 ≤ q

  -- what the sweep relies on
  pub record Sound : Type 0 where
    pub froms_length : length s.froms ≡ places
    pub tos_length : length s.tos ≡ places
    pub dues_length : length s.dues ≡ places
    pub slot_inside : (p : ℕ) → p < places → slot_at p < 2 ^ levels places
    pub slot_once : (p q : ℕ) → p < places → q < places → slot_at p ≡ slot_at q → p ≡ q
    pub to_inside : (p : ℕ) → p < places → to_at p ≤ 2 ^ levels places
    pub asks_nobody : (p : ℕ) → p < places → to_at p ≡ 0 → from_at p ≡ FFFF
    -- a span lies in the shelf of its place
    pub shelf_begins : (p : ℕ) → p < places → 0 < to_at p → base_at p ≤ from_at p
    pub shelf_ends : (p : ℕ) → p < places → to_at p ≤ base_at p + size_at p
    pub shelf_inside : (p : ℕ) → p < places → size_at p ≤ places
    -- a place whose slot lies in the shelf of another has that shelf
    pub shelf_same : (p q : ℕ) → p < places → q < places → base_at p ≤ slot_at q → slot_at q < base_at p + size_at p → (base_at q ≡ base_at p) × (size_at q ≡ size_at p)
    pub due_inside : (p : ℕ) → p < places → due_at p ≤ length s.reached
    pub due_rises : (p q : ℕ) → p ≤ q → q < places → due_at p ≤ due_at q
    pub reached_length : length s.reached ≤ places
    pub reached_place : (r : ℕ) → r < length s.reached → get_or s.reached r 0 < places
    pub reached_once : (r t : ℕ) → r < length s.reached → t < length s.reached → get_or s.reached r 0 ≡ get_or s.reached t 0 → r ≡ t
    -- a place that can be found asks itself, and is reached at its own turn at the latest
    pub reached_asks : (r : ℕ) → r < length s.reached → 0 < to_at (get_or s.reached r 0)
    pub reached_by : (r : ℕ) → r < length s.reached → r < due_at (get_or s.reached r 0)
