-- One step of the sweep makes one step of the greedy rule: the place is taken already, runs alone, or takes a mate.
use Prim.Native.Nat.{ℕ, suc, ◌+◌, ◌-◌, ◌*◌, ◌<◌, ◌≤◌}
use Rattle.std.specs.Prelude.{◌≡◌, Bool, true, false, ◌&&◌, get_or, eqb}
use Rattle.std.proofs.Math.Path.{refl, sym, ap}
use Rattle.std.proofs.Common.{◌∙◌, arith}
use Rattle.std.proofs.Math.Bool.{not}
use mathlib.Core.List.Memᴰ.{head as here}
use mathlib.Core.List.Memᴰ.{tail as there}
use mathlib.Core.List.{List, [], ◌∷◌, ◌++◌, map, append_assoc, append-nil, Memᴰ as Mem}
use Rattle.std.proofs.Math.Decide.{ℕ_discrete}
use Rattle.std.proofs.Math.Numerals.{add-one}
use Rattle.model.specs.Lists.{numbers_from, numbers, select, without}
use Rattle.model.specs.Greedy.{Pass, greedy}
use Rattle.model.specs.Planning.{pair_count}
use Rattle.laws.specs.Lists.{select_yes, select_no, select_agree, mem_all, total_more}
use Rattle.laws.specs.Numbers.{range_mem, range_first, numbers_more, range_agree}
use Rattle.matching.specs.Passes.{greedy_done}
use Rattle.schedule.specs.Schedule.{Schedule, fits, passes_by_place, visits_of}
use Rattle.schedule.specs.InWork.{mate_part, opener_part, pass_of, pass_at}
use Rattle.sweep_laws.specs.Sweeping.{free_at, remaining, Made}

-- ---- what remains

-- a selection by two tests, one after the other
select_both : (p q r : ℕ → Bool) (x : ℕ) (l : List ℕ) (a b : Bool) → q x ≡ a → r x ≡ b → p x ≡ (b && a) → select p l ≡ select r (select q l) → select p (x ∷ l) ≡ select r (select q (x ∷ l))
unfolding select
select_both p q r x l true true qx rx px e = rw (qx, rx, px, e) refl
select_both p q r x l true false qx rx px e = rw (qx, rx, px, e) refl
select_both p q r x l false true qx rx px e = rw (qx, px, e) refl
select_both p q r x l false false qx rx px e = rw (qx, px, e) refl

select_twice : (p q r : ℕ → Bool) (l : List ℕ) → ((x : ℕ) → Mem x l → p x ≡ (r x && q x)) → select p l ≡ select r (select q l)
select_twice p q r [] h = unfold select in refl
select_twice p q r (x ∷ l) h = select_both p q r x l (q x) (r x) refl refl (h x (here refl)) (select_twice p q r l (λ y m. h y (there m)))

module _ (n : ℕ) (work : List ℕ) (i : ℕ) (known : i < n) where
  pub remaining_free : free_at n work i ≡ true → remaining n work i ≡ i ∷ remaining n work (suc i)
  unfolding remaining
  remaining_free e = rw (range_first n i known) (select_yes (free_at n work) i (numbers_from (suc i) (n - suc i)) e)

  pub remaining_taken : free_at n work i ≡ false → remaining n work i ≡ remaining n work (suc i)
  unfolding remaining
  remaining_taken e = rw (range_first n i known) (select_no (free_at n work) i (numbers_from (suc i) (n - suc i)) e)

module _ (n : ℕ) (work work' : List ℕ) (j : ℕ) where
  -- the same are free from place j on
  pub remaining_same : ((p : ℕ) → j ≤ p → p < n → free_at n work' p ≡ free_at n work p) → remaining n work' j ≡ remaining n work j
  unfolding remaining
  remaining_same same = select_agree (free_at n work') (free_at n work) (numbers_from j (n - j)) (mem_all (λ (p : ℕ). free_at n work' p ≡ free_at n work p) (numbers_from j (n - j)) (λ p m. let r = range_mem j (n - j) m in same p r.0 (omega (arith, r.0, r.1))))

  -- or all but q
  pub remaining_without : (q : ℕ) → ((p : ℕ) → j ≤ p → p < n → free_at n work' p ≡ (not (eqb p q) && free_at n work p)) → remaining n work' j ≡ without q (remaining n work j)
  unfolding remaining without
  remaining_without q same = select_twice (free_at n work') (free_at n work) (λ (p : ℕ). not (eqb p q)) (numbers_from j (n - j)) (λ p m. let r = range_mem j (n - j) m in same p r.0 (omega (arith, r.0, r.1)))

-- no place remains past the last
pub remaining_end : (n : ℕ) (work : List ℕ) → remaining n work n ≡ []
unfolding remaining numbers_from select
remaining_end n work = let none : n - n ≡ 0 = omega arith in rw none refl

-- ---- the passes made

numbers_agree : (f g : ℕ → Pass) (m : ℕ) → ((k : ℕ) → k < m → f k ≡ g k) → map f (numbers m) ≡ map g (numbers m)
unfolding numbers
numbers_agree f g m h = range_agree f g 0 m (λ k l r. h k (omega arith))

-- a pass stands as it did where its opener and the opener's mate do
pass_same : (n : ℕ) (work work' : List ℕ) (k : ℕ) → get_or work' (opener_part * n + k) 0 ≡ get_or work (opener_part * n + k) 0 → get_or work' (mate_part * n + get_or work (opener_part * n + k) 0) 0 ≡ get_or work (mate_part * n + get_or work (opener_part * n + k) 0) 0 → pass_at n work' k ≡ pass_at n work k
unfolding pass_at pass_of
pass_same n work work' k o m = rw (o, m) refl

module _ (s : Schedule) (n i : ℕ) (work : List ℕ) (passes pairs visits : ℕ) (m : Made s n i work passes pairs visits) (work' : List ℕ)
    (same-openers : (k : ℕ) → k < passes → get_or work' (opener_part * n + k) 0 ≡ get_or work (opener_part * n + k) 0)
    (same-mates : (p : ℕ) → p < i → get_or work' (mate_part * n + p) 0 ≡ get_or work (mate_part * n + p) 0) where
  stands_still : map (pass_at n work') (numbers passes) ≡ m.made
  stands_still = numbers_agree (pass_at n work') (pass_at n work) passes (λ k h. pass_same n work work' k (same-openers k h) (same-mates (get_or work (opener_part * n + k) 0) (m.opener_cell k h))) ∙ m.stands

  -- no pass more, and the same remain
  pub made_same : (j : ℕ) → i ≤ j → remaining n work' j ≡ remaining n work i → Made s n j work' passes pairs visits
  made_same j h same =
      record {
        made = m.made;
        rest = m.rest ∙ ap (λ (l : List ℕ). m.made ++ greedy (fits s) l) (sym same);
        stands = stands_still;
        opener_cell = λ k l. rw (same-openers k l) (omega (arith, m.opener_cell k l));
        few_passes = omega (arith, m.few_passes);
        pairs_are = m.pairs_are;
        visits_are = m.visits_are;
        few_pairs = omega (arith, m.few_pairs);
        few_visits = omega (arith, m.few_visits);
      }

  -- one pass more, which place i opens
  pub made_more : (p : Pass) (a v : ℕ) → get_or work' (opener_part * n + passes) 0 ≡ i → pass_of n work' i ≡ p → greedy (fits s) (remaining n work i) ≡ p ∷ greedy (fits s) (remaining n work' (suc i)) → a ≡ pair_count p → a ≤ 1 → v ≡ visits_of s p → v ≤ 49 → Made s n (i + 1) work' (passes + 1) (pairs + a) (visits + v)
  made_more p a v opens is next a-is a-few v-is v-few =
      let last : pass_at n work' passes ≡ p = unfold pass_at in ap (pass_of n work') opens ∙ is in
      rw (add-one i, add-one passes)
      (record {
        made = m.made ++ p ∷ [];
        rest = m.rest ∙ ap (λ (l : List Pass). m.made ++ l) next ∙ sym (append_assoc m.made (p ∷ []) (greedy (fits s) (remaining n work' (suc i))));
        stands = numbers_more (pass_at n work') passes ∙ rw (stands_still, last) refl;
        opener_cell = λ k l. elim (ℕ_discrete k passes) [
          | yes e ↦ rw (e, opens) (omega arith)
          | no e ↦ rw (same-openers k (omega arith)) (omega (arith, m.opener_cell k (omega arith)))
        ];
        few_passes = omega (arith, m.few_passes);
        pairs_are = rw (total_more pair_count m.made p, m.pairs_are, a-is) refl;
        visits_are = rw (total_more (visits_of s) m.made p, m.visits_are, v-is) refl;
        few_pairs = omega (arith, m.few_pairs);
        few_visits = omega (arith, m.few_visits);
      })

-- every place has had its turn: the passes made are all
pub made_all : (s : Schedule) (n : ℕ) (work : List ℕ) (passes pairs visits : ℕ) (m : Made s n n work passes pairs visits) → passes_by_place s ≡ m.made
made_all s n work passes pairs visits m = m.rest ∙ rw (remaining_end n work, greedy_done (fits s)) (append-nil m.made)
