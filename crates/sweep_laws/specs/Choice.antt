-- The search's answer is the greedy rule's choice (000, Algorithm 2 equals Algorithm 1): the smallest place that waits in the span that a place asks for is
-- the first free later place that fits.
use Rattle.std.specs.Prelude.{ℕ, suc, ◌-◌, ◌<◌, ◌≤◌, ◌≡◌, ◌&&◌, take, leb}
use Rattle.std.proofs.Math.Path.{refl}
use Rattle.std.proofs.Common.{sym, ap, ◌∙◌, ⊎_elim, true≢false, arith}
use Rattle.std.proofs.Math.Bool.{true, and-eq-true_iff}
use Rattle.std.proofs.Math.Option.{none, some}
use mathlib.Core.List.{List, Memᴰ as Mem}
use Rattle.std.proofs.Math.Dec.{ltb}
use borrow.Author.Tests.{lt-ltb, le-leb, leb-true, ltb-true}
use Rattle.model.specs.Lists.{numbers_from, elem, find, AllPairs}
use Rattle.model.specs.Tree.{FFFF}
use Rattle.laws.specs.Lists.{select_mem, mem_select, select_pairwise, elem_mem, mem_elem, found_or_none, find_some, find_none, find_first}
use Rattle.laws.specs.Numbers.{range_mem, mem_range, range_rises}
use Rattle.schedule.specs.Schedule.{Schedule, slot_at, from_at, to_at, due_at, fits}
use Rattle.sweep_laws.specs.SegmentTree.{entries_in, smallest}
use Rattle.sweep_laws.specs.EntryLaws.{smallest_le, smallest_entry}
use Rattle.sweep_laws.specs.Sweeping.{free_at, remaining, Waiting, Open}

-- a place that remains from j on is one of the places, free, and at or after j
pub remaining_mem : {p : ℕ} (n : ℕ) (work : List ℕ) (j : ℕ) → Mem p (remaining n work j) → (j ≤ p) × (p < n) × (free_at n work p ≡ true)
unfolding remaining
remaining_mem n work j m =
    let r = select_mem (free_at n work) (numbers_from j (n - j)) m in
    let i = range_mem j (n - j) r.0 in
    (i.0, omega (arith, i.0, i.1), r.1)

pub mem_remaining : (p n : ℕ) (work : List ℕ) (j : ℕ) → j ≤ p → p < n → free_at n work p ≡ true → Mem p (remaining n work j)
unfolding remaining
mem_remaining p n work j l h free = mem_select (free_at n work) (mem_range p j (n - j) l (omega arith)) free

pub remaining_rises : (n : ℕ) (work : List ℕ) (j : ℕ) → AllPairs ◌<◌ (remaining n work j)
unfolding remaining
remaining_rises n work j = select_pairwise (free_at n work) ◌<◌ (numbers_from j (n - j)) (range_rises j (n - j))

module _ (s : Schedule) (n kept width i next : ℕ) (work nodes : List ℕ) (few : n ≤ FFFF) (asks : 0 < to_at s i) (next_is : next ≡ due_at s i) (w : Waiting s n kept width (Open s n (suc i) next work) nodes) where
  -- q is reached, and its slot lies in the span
  pub record Fitting (q : ℕ) : Type 0 where
    pub reached : Mem q (take next s.reached)
    pub from : from_at s i ≤ slot_at s q
    pub below : slot_at s q < to_at s i

  pub fits_true : (q : ℕ) → fits s i q ≡ true → Fitting q
  fits_true q e =
      let whole : (ltb 0 (to_at s i) && (elem q (take (due_at s i) s.reached) && (leb (from_at s i) (slot_at s q) && ltb (slot_at s q) (to_at s i)))) ≡ true = unfold fits in e in
      let one = (and-eq-true_iff (ltb 0 (to_at s i)) (elem q (take (due_at s i) s.reached) && (leb (from_at s i) (slot_at s q) && ltb (slot_at s q) (to_at s i)))).0 whole in
      let two = (and-eq-true_iff (elem q (take (due_at s i) s.reached)) (leb (from_at s i) (slot_at s q) && ltb (slot_at s q) (to_at s i))).0 one.1 in
      let three = (and-eq-true_iff (leb (from_at s i) (slot_at s q)) (ltb (slot_at s q) (to_at s i))).0 two.1 in
      record {
        reached = rw next_is (elem_mem q (take (due_at s i) s.reached) two.0);
        from = leb-true (from_at s i) (slot_at s q) three.0;
        below = ltb-true (slot_at s q) (to_at s i) three.1;
      }

  true_fits : (q : ℕ) → Fitting q → fits s i q ≡ true
  unfolding fits
  true_fits q f =
      let reached : elem q (take (due_at s i) s.reached) ≡ true = rw next_is at (mem_elem f.reached) in
      rw (lt-ltb 0 (to_at s i) asks, reached, le-leb (from_at s i) (slot_at s q) f.from, lt-ltb (slot_at s q) (to_at s i) f.below) refl

  abbrev found : ℕ
  found = smallest (entries_in width nodes) (from_at s i) (to_at s i)

  -- a free later place that fits is no smaller
  found_least : {q : ℕ} → Mem q (remaining n work (suc i)) → fits s i q ≡ true → found ≤ q
  found_least {q} m e =
      let r = remaining_mem n work (suc i) m in
      let f = fits_true q e in
      smallest_le (from_at s i) (to_at s i) (w.held q r.1 (r.0, r.2, f.reached)) f.from f.below

  pub none_chosen : found ≡ FFFF → find (fits s i) (remaining n work (suc i)) ≡ none
  none_chosen e = ⊎_elim
      (λ (o : (j : ℕ) × (find (fits s i) (remaining n work (suc i)) ≡ some j)).
      let m = find_some (fits s i) (remaining n work (suc i)) o.1 in
      absurd (omega (arith, found_least m.0 m.1, (remaining_mem n work (suc i) m.0).1)))
      (λ e. e)
      (found_or_none (find (fits s i) (remaining n work (suc i))))

  -- the place that is found waits, and fits
  record Here (q : ℕ) : Type 0 where
    inside : q < n
    waits : Open s n (suc i) next work q
    fitting : Fitting q

  here : (found ≡ FFFF → ⊥) → Here found
  here other =
      let e = smallest_entry (entries_in width nodes) (from_at s i) (to_at s i) other in
      let o = w.only e.entry e.held in
      rw (← e.least)
      (record {
        inside = o.inside;
        waits = o.waiting;
        fitting = record { reached = o.waiting.2; from = rw (← o.at) e.starts; below = rw (← o.at) e.below };
      })

  pub record First : Type 0 where
    pub inside : found < n
    pub later : i < found
    pub free : free_at n work found ≡ true
    pub reached : Mem found (take next s.reached)
    pub first : find (fits s i) (remaining n work (suc i)) ≡ some found

  pub one_chosen : (found ≡ FFFF → ⊥) → First
  one_chosen other =
      let h = here other in
      let m : Mem found (remaining n work (suc i)) = mem_remaining found n work (suc i) h.waits.0 h.inside h.waits.1 in
      let e : fits s i found ≡ true = true_fits found h.fitting in
      record {
        inside = h.inside;
        later = h.waits.0;
        free = h.waits.1;
        reached = h.waits.2;
        first = ⊎_elim
            (λ (o : (j : ℕ) × (find (fits s i) (remaining n work (suc i)) ≡ some j)).
            let l = find_some (fits s i) (remaining n work (suc i)) o.1 in
            ⊎_elim
            (λ (same : found ≡ o.0). o.1 ∙ ap some (sym same))
            (λ (less : o.0 < found). absurd (omega (arith, found_least l.0 l.1)))
            (find_first (fits s i) ◌<◌ (remaining_rises n work (suc i)) m o.1 e))
            (λ (o : find (fits s i) (remaining n work (suc i)) ≡ none). absurd (true≢false (sym e ∙ find_none (fits s i) m o)))
            (found_or_none (find (fits s i) (remaining n work (suc i))));
      }
