-- The place that asked has its mate, or none: the sweep is then at the next place, and the visits of its lookup are few.
use Rattle.std.specs.Prelude.{ℕ, suc, ◌+◌, ◌-◌, ◌*◌, ◌<◌, ◌≤◌, ◌≡◌, length, get_or, set}
use Rattle.std.proofs.Common.{sym, ◌∙◌, arith, length-set, get_or-set_other}
use mathlib.Core.List.{List}
use Rattle.model.specs.Tree.{FFFF}
use Rattle.model.specs.Visits.{levels, visits}
use Rattle.laws.specs.Levels.{levels_least}
use Rattle.schedule.specs.Schedule.{Schedule}
use Rattle.schedule.specs.InWork.{slot_part, from_part, to_part, reached_part, due_part, mate_part, tree_part}
use Rattle.sweep_laws.specs.VisitBound.{visits_bound}
use Rattle.sweep_laws.specs.WorkCells.{FrontKept, front_both, front_set_both, tree_in, tree_set}
use Rattle.sweep_laws.specs.Sweeping.{free_at, remaining, Open, Cells, Sweeping, Turn, taken, Taking, Chosen}
use Rattle.sweep_laws.specs.WaitingLaws.{waiting_as}
use Rattle.sweep_laws.specs.Reaching.{free_kept}
use Rattle.sweep_laws.specs.MadeLaws.{remaining_same}
use Rattle.sweep_laws.specs.Asking.{free_alone, turn_room, turn_span, turn_visits}

module _ (s : Schedule) (n kept width base size i first last next to : ℕ) (work : List ℕ) (t : Turn s n kept width base size i first last next to work) (v : ℕ) (counted : v ≡ visits (levels size) (get_or work (from_part * n + i) 0 - base) (to - base)) where
  pub few_visits : v ≤ 49
  few_visits = omega (arith, counted, visits_bound (levels size) (get_or work (from_part * n + i) 0 - base) (to - base), levels_least size 12 (turn_span s n kept width base size i first last next to work t).few)

-- the mate of place i leaves them as they are
cells_alone : (s : Schedule) (n width i : ℕ) (work : List ℕ) (v : ℕ) → i < n → length s.reached ≤ n → Cells s n width (suc i) work → Cells s n width (suc i) (set work (mate_part * n + i) v)
cells_alone s n width i work v known few c =
    record {
      room = rw length-set c.room;
      slot_cell = λ p h. get_or-set_other work (mate_part * n + i) (slot_part * n + p) v 0 (λ e. omega arith) ∙ c.slot_cell p h;
      reached_cell = λ r h. get_or-set_other work (mate_part * n + i) (reached_part * n + r) v 0 (λ e. omega arith) ∙ c.reached_cell r h;
      due_cell = λ p l h. get_or-set_other work (mate_part * n + i) (due_part * n + p) v 0 (λ e. omega arith) ∙ c.due_cell p l h;
      from_cell = λ p l h f. get_or-set_other work (mate_part * n + i) (from_part * n + p) v 0 (λ e. omega arith) ∙ c.from_cell p l h (sym (free_alone n i work v p known h (λ e. omega arith)) ∙ f);
      to_cell = λ p l h f. get_or-set_other work (mate_part * n + i) (to_part * n + p) v 0 (λ e. omega arith) ∙ c.to_cell p l h (sym (free_alone n i work v p known h (λ e. omega arith)) ∙ f);
    }

-- the mate of place i changes nothing for the later places
sweeping_mate : (s : Schedule) (n kept width i next : ℕ) (work : List ℕ) (v : ℕ) → i < n → Sweeping s n kept width (suc i) next work → Sweeping s n kept width (suc i) next (set work (mate_part * n + i) v)
sweeping_mate s n kept width i next work v known w =
    let few : length s.reached ≤ n = rw (← w.setting.places_are) w.setting.sound.reached_length in
    let free : (p : ℕ) → suc i ≤ p → p < n → free_at n (set work (mate_part * n + i) v) p ≡ free_at n work p = λ p l h. free_alone n i work v p known h (λ e. omega arith) in
    record {
      setting = w.setting;
      cells = cells_alone s n width i work v known few w.cells;
      taken_reached = λ p l h f. w.taken_reached p l h (sym (free p l h) ∙ f);
      next_inside = w.next_inside;
      behind = w.behind;
      ahead = w.ahead;
      waiting = rw (tree_set n work (mate_part * n + i) v (omega arith))
          (waiting_as s n kept width w.setting (Open s n (suc i) next work) (Open s n (suc i) next (set work (mate_part * n + i) v)) (tree_in n work)
          (λ p h o. (o.0, free p o.0 h ∙ o.1, o.2))
          (λ p h o. (o.0, sym (free p o.0 h) ∙ o.1, o.2))
          w.waiting);
    }

module _ (s : Schedule) (n kept width base size i first last next to : ℕ) (work work₁ : List ℕ) (f : FrontKept (tree_part * n) work work₁) (t : Turn s n kept width base size i first last next to work₁)
    (q : ℕ) (work₂ : List ℕ) (g : Taking s n kept width base size i last next to work₁ q work₂) (v : ℕ) (counted : v ≡ visits (levels size) (get_or work₁ (from_part * n + i) 0 - base) (to - base)) where
  -- what remains is as it was before the place left the tree
  remains : remaining n work₁ (suc i) ≡ remaining n work (suc i)
  remains = remaining_same n work work₁ (suc i) (λ p l h. free_kept n work work₁ f p h)

  first_room : tree_part * n ≤ length work
  first_room = rw f.same at (turn_room s n kept width base size i first last next to work₁ t)

  pub chosen_none : q ≡ FFFF → Chosen s n kept width i next work q v (set work₂ (mate_part * n + i) q)
  chosen_none e =
      let o = g.none_found e in
      record {
        sweeping = rw o.1 (sweeping_mate s n kept width i next work₁ q t.inside t.sweeping);
        visits_are = turn_visits s n kept width base size i first last next to work₁ t v counted;
        few_visits = few_visits s n kept width base size i first last next to work₁ t v counted;
        none_found = λ _. record { unfound = rw remains at o.0; front = rw (o.1, e) (front_set_both (tree_part * n) work work₁ (mate_part * n + i) FFFF (omega (arith, first_room, t.inside)) f) };
        one_found = λ other. absurd (other e);
      }

  pub chosen_one : (q ≡ FFFF → ⊥) → Chosen s n kept width i next work q v (set work₂ (mate_part * n + i) q)
  chosen_one other =
      let o = g.one_found other in
      let mate = o.0 in
      record {
        sweeping = sweeping_mate s n kept width i next work₂ q t.inside o.1.sweeping;
        visits_are = turn_visits s n kept width base size i first last next to work₁ t v counted;
        few_visits = few_visits s n kept width base size i first last next to work₁ t v counted;
        none_found = λ e. absurd (other e);
        one_found = λ _.
            record {
              inside = mate.inside;
              later = mate.later;
              free = sym (free_kept n work work₁ f q mate.inside) ∙ mate.free;
              first = rw remains at mate.first;
              front = front_set_both (tree_part * n) (taken n i q work) work₂ (mate_part * n + i) q (rw (length-set, length-set) (omega (arith, first_room, t.inside)))
                  (front_both (tree_part * n) (taken n i q work) (taken n i q work₁) work₂
                  (front_set_both (tree_part * n) (set work (mate_part * n + q) i) (set work₁ (mate_part * n + q) i) (to_part * n + q) 0 (rw length-set (omega (arith, first_room, mate.inside)))
                  (front_set_both (tree_part * n) work work₁ (mate_part * n + q) i (omega (arith, first_room, mate.inside)) f))
                  mate.front);
            };
      }
