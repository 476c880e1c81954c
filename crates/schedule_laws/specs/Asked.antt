-- The slots that a lookup asks for (document 01, "The shelf and its cells"): those of its window whose first leaf lies in the leaf span of the job's highest layout. They are
-- the slots from the number of the window's jobs left of the span up to the number of them left of its end.
use Prim.Native.Nat.{ℕ, zero, suc, ◌+◌, ◌-◌, ◌<◌, ◌≤◌}
use Rattle.std.specs.Prelude.{◌≡◌, Bool, true, ◌&&◌, get_or, leb}
use Rattle.std.proofs.Math.Path.{refl, sym, ap}
use Rattle.std.proofs.Common.{◌∙◌}
use Rattle.std.proofs.Math.Logic.{⊎_elim}
use Rattle.std.proofs.Math.Bool.{and-false, and-eq-true_iff}
use mathlib.Core.List.{List, [], ◌∷◌}
use native.Mathlib.Omega.{arith}
use Rattle.std.proofs.Math.Decide.{dec_lt}
use Rattle.std.proofs.Math.Dec.{eqb, ltb}
use borrow.Author.Tests.{eq-eqb, lt-ltb, le-ltb, le-leb, lt-leb, ltb-true}
use Rattle.model.specs.Lists.{numbers_from, numbers, select, count_where}
use Rattle.model.specs.Tree.{first_leaf, last_leaf}
use Rattle.model.specs.Jobs.{Table, jobs, window, highest, bottom_leaf}
use Rattle.model.specs.Order.{leftward, window_size, slot_order, slot, place}
use Rattle.model.specs.Visits.{asks_for, asked_slots, asked_from, asked_to}
use Rattle.laws.specs.Lists.{get_d_mem, mem_all, select_agree}
use Rattle.laws.specs.Numbers.{numbers_mem, range_head, range_length}
use Rattle.laws.specs.Sorting.{irreflexive}
use Rattle.laws.specs.Counting.{count_le, count_lt}
use Rattle.tree_laws.specs.Spans.{ancestor_span}
use Rattle.tree_laws.specs.Sharing.{highest_above}
use Rattle.jobs.specs.Accepted.{Accepted}
use Rattle.matching.specs.RunningOrder.{lexicographic_true, lexicographic_first, leftward_order, size_count, slots_mem, slots_length, slot_count, slot_of_job}

-- ---- a span of numbers

-- s lies from `from` up to `to`
abbrev between : ℕ → ℕ → ℕ → Bool
between from to s = leb from s && ltb s to

module _ (from to : ℕ) where
  -- of the numbers from a on those between: none where a is past the end, all up to the end where a is past the start
  select_past : (a n : ℕ) → to ≤ a → select (between from to) (numbers_from a n) ≡ []
  unfolding numbers_from select
  select_past a zero h = refl
  select_past a (suc n) h = rw (le-ltb a to h, and-false (leb from a)) (select_past (suc a) n (omega arith))

  select_inside : (a n : ℕ) → from ≤ a → a ≤ to → to ≤ a + n → select (between from to) (numbers_from a n) ≡ numbers_from a (to - a)
  unfolding numbers_from select
  select_inside a zero h k l = let none : to - a ≡ 0 = omega arith in rw none refl
  select_inside a (suc n) h k l = elim (dec_lt a to) [
    | yes more ↦
        let rest : to - a ≡ suc (to - suc a) = omega arith in
        rw (le-leb from a h, lt-ltb a to more, rest) (ap (λ (l : List ℕ). a ∷ l) (select_inside (suc a) n (omega arith) (omega arith) (omega arith)))
    | no over ↦
        let none : to - a ≡ 0 = omega arith in
        rw (le-ltb a to (omega arith), and-false (leb from a), none) (select_past (suc a) n (omega arith))
  ]

  select_range : (a n : ℕ) → from ≤ to → a ≤ from → to ≤ a + n → select (between from to) (numbers_from a n) ≡ numbers_from from (to - from)
  unfolding numbers_from select
  select_range a n h k l = go a n (from - a) refl k l
    where
      go : (a n d : ℕ) → from - a ≡ d → a ≤ from → to ≤ a + n → select (between from to) (numbers_from a n) ≡ numbers_from from (to - from)
      go a n zero e k l = let same : a ≡ from = omega arith in rw same (select_inside from n (omega arith) h (omega arith))
      go a zero (suc d) e k l = absurd (omega arith)
      go a (suc n) (suc d) e k l = rw (lt-leb from a (omega arith)) (go (suc a) n d (omega arith) (omega arith) (omega arith))

-- ---- the slots by first leaf

module _ (tb : Table) where
  -- how many of a window's jobs have their first leaves left of x
  unfoldable pub left_of : ℕ → ℕ → ℕ
  left_of v x = count_where (λ (j : ℕ). eqb (window tb j) v && ltb (bottom_leaf tb j) x) (numbers (jobs tb))

  leftward_leaf : (i j : ℕ) → leftward tb i j ≡ true → bottom_leaf tb i ≤ bottom_leaf tb j
  unfolding leftward
  leftward_leaf i j e = ⊎_elim (λ h. omega arith) (λ h. omega arith) (lexicographic_true (bottom_leaf tb i) (bottom_leaf tb j) (place tb i) (place tb j) e)

  leaf_leftward : (i j : ℕ) → bottom_leaf tb i < bottom_leaf tb j → leftward tb i j ≡ true
  unfolding leftward
  leaf_leftward i j h = lexicographic_first (bottom_leaf tb i) (bottom_leaf tb j) (place tb i) (place tb j) h

  -- a slot is below that number exactly if its first leaf is left of x
  slot_left : (j x : ℕ) → j < jobs tb → bottom_leaf tb j < x → slot tb j < left_of (window tb j) x
  unfolding left_of
  slot_left j x h l =
      rw (slot_count tb j h)
      (count_lt (λ (i : ℕ). eqb (window tb i) (window tb j) && leftward tb i j) (λ (i : ℕ). eqb (window tb i) (window tb j) && ltb (bottom_leaf tb i) x) (jobs tb) j
      (λ u k e.
      let b = (and-eq-true_iff (eqb (window tb u) (window tb j)) (leftward tb u j)).0 e in
      rw b.0 (lt-ltb (bottom_leaf tb u) x (omega (arith, leftward_leaf u j b.1))))
      h
      (rw (irreflexive (λ (j : ℕ). j < jobs tb) (leftward tb) (leftward_order tb) j) (and-false (eqb (window tb j) (window tb j))))
      (rw (eq-eqb (window tb j) (window tb j) refl) (lt-ltb (bottom_leaf tb j) x l)))

  slot_right : (j x : ℕ) → j < jobs tb → x ≤ bottom_leaf tb j → left_of (window tb j) x ≤ slot tb j
  unfolding left_of
  slot_right j x h l =
      rw (slot_count tb j h)
      (count_le (λ (i : ℕ). eqb (window tb i) (window tb j) && ltb (bottom_leaf tb i) x) (λ (i : ℕ). eqb (window tb i) (window tb j) && leftward tb i j) (jobs tb)
      (λ u k e.
      let b = (and-eq-true_iff (eqb (window tb u) (window tb j)) (ltb (bottom_leaf tb u) x)).0 e in
      rw b.0 (leaf_leftward u j (omega (arith, ltb-true (bottom_leaf tb u) x b.1)))))

  left_bound : (v x : ℕ) → left_of v x ≤ window_size tb v
  unfolding left_of
  left_bound v x =
      rw (size_count tb v)
      (count_le (λ (j : ℕ). eqb (window tb j) v && ltb (bottom_leaf tb j) x) (λ (j : ℕ). eqb (window tb j) v) (jobs tb)
      (λ u k e. ((and-eq-true_iff (eqb (window tb u) v) (ltb (bottom_leaf tb u) x)).0 e).0))

  module _ (j x : ℕ) (h : j < jobs tb) where
    lower : leb (left_of (window tb j) x) (slot tb j) ≡ leb x (bottom_leaf tb j)
    lower = elim (dec_lt (bottom_leaf tb j) x) [
      | yes left ↦ rw (lt-leb x (bottom_leaf tb j) left, lt-leb (left_of (window tb j) x) (slot tb j) (slot_left j x h left)) refl
      | no right ↦ rw (le-leb x (bottom_leaf tb j) (omega arith), le-leb (left_of (window tb j) x) (slot tb j) (slot_right j x h (omega arith))) refl
    ]

    upper : ltb (slot tb j) (left_of (window tb j) (suc x)) ≡ leb (bottom_leaf tb j) x
    upper = elim (dec_lt x (bottom_leaf tb j)) [
      | yes right ↦ rw (lt-leb (bottom_leaf tb j) x right, le-ltb (slot tb j) (left_of (window tb j) (suc x)) (slot_right j (suc x) h (omega arith))) refl
      | no left ↦ rw (le-leb (bottom_leaf tb j) x (omega arith), lt-ltb (slot tb j) (left_of (window tb j) (suc x)) (slot_left j (suc x) h (omega arith))) refl
    ]

  module _ (i : ℕ) where
    -- the slots asked for as a span: from the number of the window's jobs left of the leaf span up to the number of them left of its end
    abbrev start : ℕ
    start = left_of (window tb i) (first_leaf tb.parents (highest tb i))

    abbrev end : ℕ
    end = left_of (window tb i) (suc (last_leaf tb.parents (highest tb i)))

    -- a slot of the window lies there exactly if the first leaf of its job's bottom lies in the span of the highest layout
    slot_between : (j : ℕ) → j < jobs tb → window tb j ≡ window tb i → between start end (slot tb j) ≡ (leb (first_leaf tb.parents (highest tb i)) (bottom_leaf tb j) && leb (bottom_leaf tb j) (last_leaf tb.parents (highest tb i)))
    slot_between j h w = rw (← w, lower j (first_leaf tb.parents (highest tb i)) h, upper j (last_leaf tb.parents (highest tb i)) h) refl

    asks_between : (s : ℕ) → s < window_size tb (window tb i) → asks_for tb i s ≡ between start end s
    unfolding asks_for
    asks_between s h =
        let order = slot_order tb (window tb i) in
        let known = slots_mem tb (window tb i) (get_d_mem order s 0 (rw (slots_length tb (window tb i)) h)) in
        sym (slot_between (get_or order s 0) known.0 known.1) ∙ ap (between start end) (slot_of_job tb (window tb i) s 0 h)

  module _ (a : Accepted tb) (i : ℕ) (known : i < jobs tb) where
    -- a job asks for its own slot
    own_start : start i ≤ slot tb i
    unfolding bottom_leaf
    own_start =
        let own = ancestor_span tb.parents a.tree (a.bottom_known i known) (highest_above tb a.tree i (a.downward i known)) in
        slot_right i (first_leaf tb.parents (highest tb i)) known own.0.first

    own_end : slot tb i < end i
    unfolding bottom_leaf
    own_end =
        let own = ancestor_span tb.parents a.tree (a.bottom_known i known) (highest_above tb a.tree i (a.downward i known)) in
        slot_left i (suc (last_leaf tb.parents (highest tb i))) known (omega (arith, own.0.last))

    -- the slots asked for are those from `start` up to `end`
    pub asked_range : asked_slots tb i ≡ numbers_from (start i) (end i - start i)
    unfolding asked_slots numbers
    asked_range =
        let size = window_size tb (window tb i) in
        select_agree (asks_for tb i) (between (start i) (end i)) (numbers size) (mem_all (λ (s : ℕ). asks_for tb i s ≡ between (start i) (end i) s) (numbers size) (λ s m. asks_between i s (numbers_mem size m)))
        ∙ select_range (start i) (end i) 0 size (omega (arith, own_start, own_end)) (omega arith) (omega (arith, left_bound (window tb i) (suc (last_leaf tb.parents (highest tb i)))))

    -- so the span begins at the number of the window's jobs left of the leaf span
    pub from_is : asked_from tb i ≡ left_of (window tb i) (first_leaf tb.parents (highest tb i))
    unfolding asked_from
    from_is = rw asked_range (range_head (start i) (end i - start i) 0 (omega (arith, own_start, own_end)))

    -- and ends at the number of them left of its end
    pub to_is : asked_to tb i ≡ left_of (window tb i) (suc (last_leaf tb.parents (highest tb i)))
    unfolding asked_to
    to_is = rw (from_is, asked_range, range_length (start i) (end i - start i)) (omega (arith, own_start, own_end))

    -- the slot of a job of the window is asked for exactly if its first leaf lies in the span of the highest layout of i
    pub asked_slot : (j : ℕ) → j < jobs tb → window tb j ≡ window tb i → (leb (asked_from tb i) (slot tb j) && ltb (slot tb j) (asked_to tb i)) ≡ (leb (first_leaf tb.parents (highest tb i)) (bottom_leaf tb j) && leb (bottom_leaf tb j) (last_leaf tb.parents (highest tb i)))
    asked_slot j h w = rw (from_is, to_is) (slot_between i j h w)

    pub asked_bound : asked_to tb i ≤ window_size tb (window tb i)
    asked_bound = rw to_is (left_bound (window tb i) (suc (last_leaf tb.parents (highest tb i))))

    pub asks_itself : slot tb i < asked_to tb i
    asks_itself = rw to_is own_end
