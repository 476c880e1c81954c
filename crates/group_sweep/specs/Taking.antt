-- A place takes its group, mate by mate.
use Rattle.std.specs.Prelude.{ℕ, suc, pred, ◌+◌, ◌-◌, ◌*◌, ◌<◌, ◌≤◌, ◌≡◌, ◌≢◌, true, false, List, [], ◌∷◌, ◌++◌, length, get_or, set, take}
use Rattle.std.proofs.Math.Path.{refl}
use Rattle.std.proofs.Common.{sym, ap, ◌∙◌, true≢false, append_assoc, append-nil, arith, add-one, length-append, take-suc-set}
use Rattle.model.specs.Lists.{without, without_all, first_passing}
use Rattle.model.specs.Tree.{FFFF}
use Rattle.laws.specs.Lists.{Distinct, find_some, pairwise_imply}
use Rattle.laws.specs.Without.{without_one}
use Rattle.laws.specs.Firsts.{first_zero, first_none, first_found, others_more}
use Rattle.schedule.specs.Schedule.{Schedule, fits, Near}
use Rattle.schedule.specs.InWork.{to_part, mate_part, tree_part}
use Rattle.sweep_laws.specs.WorkCells.{FrontKept, front_both, front_less, front_set}
use Rattle.sweep_laws.specs.Sweeping.{remaining, Turn, taken, Mate, Taking}
use Rattle.sweep_laws.specs.Reaching.{free_kept}
use Rattle.sweep_laws.specs.Choice.{remaining_rises}
use Rattle.sweep_laws.specs.Asking.{turn_room, turn_near, free_taken, asks_free}
use Rattle.sweep_laws.specs.MadeLaws.{remaining_free, remaining_same, remaining_without}
use Rattle.group_sweep.specs.Grouped.{got_by, SoFar, GroupAsking, GroupFilled, GroupTaken}

-- each place remains once
pub remaining_distinct : (n : ℕ) (work : List ℕ) (j : ℕ) → Distinct (remaining n work j)
remaining_distinct n work j = pairwise_imply ◌<◌ ◌≢◌ (remaining n work j) (λ x y m k h e. omega arith) (remaining_rises n work j)

module _ (s : Schedule) (n g : ℕ) (gaps : List ℕ) (kept width base size i first last next to at : ℕ) (before old : List ℕ) (a : GroupAsking s n g gaps kept width base size i first last next to at before old) where
  -- place i remains, with those after it
  here_left : remaining n old i ≡ i ∷ remaining n old (suc i)
  here_left = remaining_free n old i a.asking.inside (asks_free n old i (rw (← a.asking.to_is) a.asking.asks))

  pub at_inside : at < n
  at_inside = omega (arith, a.left, ap length here_left)

  -- it has left the tree, and stands first in the members' cells
  -- none taken yet, none left out
  none_out : (l : List ℕ) → l ≡ without_all [] l
  unfolding without_all
  none_out l = refl

  pub so_far_first : (work : List ℕ) → FrontKept (tree_part * n) old work → Turn s n kept width base size i first last next to work → SoFar s n g kept width base size i first last next to at 1 old before work (set before at i)
  so_far_first work f t =
      let same : remaining n work (suc i) ≡ remaining n old (suc i) = remaining_same n old work (suc i) (λ p l h. free_kept n old work f p h) in
      let one : g - 1 ≡ pred g = omega arith in
      record {
        got = [];
        turn = t;
        firsts = rw (one, same) refl;
        others = same ∙ none_out (remaining n old (suc i));
        taken = refl;
        stands = rw add-one (take-suc-set before at i (omega (arith, at_inside, a.members_length)));
        left = omega (arith, a.left, ap length here_left, ap length same);
        order = front_less n (tree_part * n) old work (omega arith) f;
      }

module _ (s : Schedule) (n g kept width base size i first last next to at m : ℕ) (old before work members : List ℕ) (f : SoFar s n g kept width base size i first last next to at m old before work members)
    (short : m < g) (q : ℕ) (new : List ℕ) (t : Taking s n kept width base size i last next to work q new) where
  some_left : g - m ≡ suc (g - (m + 1))
  some_left = omega arith

  -- none is found: it took too few
  pub too_few : q ≡ FFFF → length (got_by s n g old i) < pred g
  too_few e =
      let none_more : first_passing (g - m) (fits s i) (remaining n work (suc i)) ≡ [] = first_none (g - m) (fits s i) (remaining n work (suc i)) (t.none_found e).0 in
      omega (arith, f.taken, ap length f.firsts, length-append f.got (first_passing (g - m) (fits s i) (remaining n work (suc i))), ap length none_more)

  module _ (other : q ≡ FFFF → ⊥) where
    mate : Mate s n i q work (taken n i q work) new
    mate = (t.one_found other).0

    q_left : remaining n new (suc i) ≡ without q (remaining n work (suc i))
    q_left = remaining_without n work new (suc i) q (λ p l h. free_kept n (taken n i q work) new mate.front p h
        ∙ free_taken n i q work f.turn.inside mate.inside mate.later (turn_room s n kept width base size i first last next to work f.turn) f.turn.sweeping.setting.few p h)

    one_less : length (remaining n work (suc i)) ≡ suc (length (remaining n new (suc i)))
    one_less = rw q_left (without_one q (remaining_distinct n work (suc i)) (find_some (fits s i) (remaining n work (suc i)) mate.first).0)

    pub next_inside : at + m < n
    next_inside = omega (arith, f.left, one_less)

    order_kept : FrontKept (tree_part * n) (taken n i q work) new → FrontKept n work new
    order_kept h = front_both n work (taken n i q work) new
        (front_both n work (set work (mate_part * n + q) i) (taken n i q work) (front_set n work (mate_part * n + q) i (omega arith)) (front_set n (set work (mate_part * n + q) i) (to_part * n + q) 0 (omega arith)))
        (front_less n (tree_part * n) (taken n i q work) new (omega arith) h)

    -- one is found: it is one more, and the next is looked for from its gap on
    pub so_far_more : length members ≡ n → (gaps : List ℕ) → Near s gaps → (further : ℕ) → further ≡ q + get_or gaps q 0 → SoFar s n g kept width base size i further last next to at (m + 1) old before new (set members (at + m) q)
    so_far_more long gaps near further further-is =
        record {
          got = f.got ++ q ∷ [];
          turn = turn_near s n kept width base size i q last next to new gaps near mate.inside (find_some (fits s i) (remaining n work (suc i)) mate.first).1 further further-is (t.one_found other).1;
          firsts = f.firsts ∙ ap (λ (l : List ℕ). f.got ++ l)
              (ap (λ (k : ℕ). first_passing k (fits s i) (remaining n work (suc i))) some_left
              ∙ first_found (g - (m + 1)) (fits s i) (remaining n work (suc i)) (remaining_distinct n work (suc i)) mate.first
              ∙ ap (λ (l : List ℕ). q ∷ first_passing (g - (m + 1)) (fits s i) l) (sym q_left))
              ∙ sym (append_assoc f.got (q ∷ []) (first_passing (g - (m + 1)) (fits s i) (remaining n new (suc i))));
          others = q_left ∙ ap (without q) f.others ∙ sym (others_more f.got q (remaining n old (suc i)));
          taken = omega (arith, f.taken, length-append f.got (q ∷ []));
          stands =
              let next : at + (m + 1) ≡ suc (at + m) = omega arith in
              rw next (take-suc-set members (at + m) q (omega (arith, next_inside)) ∙ rw f.stands (append_assoc (take at before) (i ∷ f.got) (q ∷ [])));
          left = omega (arith, f.left, one_less);
          order = front_both n old work new f.order (order_kept mate.front);
        }

-- it has all
pub group_filled : (s : Schedule) (n g kept width base size i first last next to at m : ℕ) (old before work members : List ℕ) → 1 ≤ g → m ≤ g → g ≤ m → SoFar s n g kept width base size i first last next to at m old before work members → GroupFilled s n g kept width i next at old before members work
group_filled s n g kept width base size i first last next to at m old before work members least low high f =
    let none_more : g - m ≡ 0 = omega arith in
    let all : got_by s n g old i ≡ f.got = f.firsts ∙ ap (λ (k : ℕ). f.got ++ first_passing k (fits s i) (remaining n work (suc i))) none_more ∙ ap (λ (l : List ℕ). f.got ++ l) (first_zero (fits s i) (remaining n work (suc i))) ∙ append-nil f.got in
    let as_many : m ≡ g = omega arith in
    record {
      sweeping = f.turn.sweeping;
      size = rw all (omega (arith, f.taken));
      others = rw all f.others;
      stands = rw (all, ← as_many) f.stands;
      left = rw (← as_many) f.left;
    }

-- so the group is taken, or there are too few
pub group_full : (s : Schedule) (n g kept width base size i first last next to at m : ℕ) (old before work members : List ℕ) → 1 ≤ g → m ≤ g → g ≤ m → SoFar s n g kept width base size i first last next to at m old before work members → GroupTaken s n g kept width i next at old before true members work
group_full s n g kept width base size i first last next to at m old before work members least low high f =
    record {
      full = λ _. group_filled s n g kept width base size i first last next to at m old before work members least low high f;
      short = λ e. absurd (true≢false e);
      order = f.order;
    }

pub group_short : (s : Schedule) (n g kept width base size i first last next to at m : ℕ) (old before work members : List ℕ) (f : SoFar s n g kept width base size i first last next to at m old before work members) → m < g
    → (q : ℕ) (new : List ℕ) → Taking s n kept width base size i last next to work q new → q ≡ FFFF → GroupTaken s n g kept width i next at old before false members new
group_short s n g kept width base size i first last next to at m old before work members f less q new t e =
    record {
      full = λ same. absurd (true≢false (sym same));
      short = λ _. too_few s n g kept width base size i first last next to at m old before work members f less q new t e;
      order = rw (t.none_found e).1 f.order;
    }
