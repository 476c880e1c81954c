-- Both ends of what two partners share reach the plan (document 02, 2026-02): in what *Plan* hands back, U and L of a pair are the first and the last number of the shared
-- stretch of their paths, and U is the highest layout other than 0 of the earlier job.
use Rattle.std.specs.Prelude.{ℕ, ◌<◌, ◌≡◌, refl, true, length, get_or, drop, Ok}
use Rattle.std.proofs.Math.Path.{sym}
use Rattle.std.proofs.Common.{◌∙◌, arith}
use Rattle.std.proofs.Math.Bool.{and-eq-true_iff}
use mathlib.Core.List.{List, [], ◌∷◌, ◌++◌}
use Rattle.model.specs.Lists.{elem}
use Rattle.model.specs.Verdict.{Verdict, accepted, refused}
use Rattle.model.specs.Tree.{FFFF}
use Rattle.model.specs.Jobs.{Table, jobs, own_path, highest_shared, deepest_shared}
use Rattle.model.specs.Order.{place}
use Rattle.model.specs.Greedy.{passes}
use Rattle.model.specs.Planning as Planning
use Rattle.model.specs.Planning.{partner_in, upper, printed}
use Rattle.model.specs.Outcomes.{PlannedAs}
use Rattle.model.specs.declared.Totals.{Totals}
use Rattle.laws.specs.Numbers.{numbers_before}
use Rattle.tree_laws.specs.Sharing.{on_own, shares_meet}
use Rattle.stretch.specs.SharedLayouts.{stretch_of_paths, shared_layouts_lem, stretch_begins, stretch_ends}
use Rattle.matching.specs.Partners.{partner_cell}
use Rattle.matching.specs.PartnersShare.{told, partners_share, upper_earlier, upper_later}
use Rattle.matching.specs.PartnersFront.{partners_front}
use Rattle.jobs.specs.Accepted.{Accepted}
use Rattle.jobs.specs.PlanVerdict.{plan_accepted}
use Rattle.both_ends.specs.Ends.{BothEnds}

member_counted : (x : ℕ) (l : List ℕ) → elem x l ≡ true → 0 < length l
unfolding elem
member_counted x [] e = let apart : ◌≡◌ {A = ℕ} 0 1 = cc in absurd (omega arith)
member_counted x (y ∷ l) e = omega arith

module _ (tb : Table) (a : Accepted tb) (i j : ℕ) (hi : i < jobs tb) (hj : j < jobs tb) (partner : partner_in (passes tb) i ≡ j) where
  in-stretch : 0 < length (stretch_of_paths tb i j)
  in-stretch =
      let met = shares_meet tb a.tree i j (a.downward i hi) (a.downward j hj) (partners_share tb a.tree a.downward a.few i j hi hj partner) in
      let both = (and-eq-true_iff (elem met.0 (own_path tb i)) (elem met.0 (own_path tb j))).1 (on_own tb a.tree i met.1.0, on_own tb a.tree j met.1.1) in
      member_counted met.0 (stretch_of_paths tb i j) (shared_layouts_lem tb a.tree i j (a.downward i hi) (a.downward j hj) met.0 ∙ both)

  ends_told : BothEnds tb i j (upper tb i) (printed tb i)
  unfolding upper printed
  ends_told =
      record {
        some = in-stretch;
        begins = told tb a.tree a.downward a.few i j hi hj partner (highest_shared tb) ∙ sym (stretch_begins tb a.tree i j (a.downward i hi) (a.downward j hj));
        ends = told tb a.tree a.downward a.few i j hi hj partner (deepest_shared tb) ∙ sym (stretch_ends tb a.tree i j (a.downward i hi) (a.downward j hj));
        of_earlier = upper_earlier tb a.tree a.downward a.few i j hi hj partner;
        of_partner = upper_later tb a.tree a.downward a.few i j hi hj partner;
      }

-- our pairs are read from the partner result: I and J, both below M, are a pair if cell I holds J
pub both_ends :
    (tb : Table) (partners uppers printed work : List ℕ) (t : Totals) (partners' uppers' printed' work' : List ℕ)
    → PlannedAs (Planning.plan_verdict tb (length partners) (length uppers) (length printed) (length work)) tb partners uppers printed work (Ok t) partners' uppers' printed' work'
    → (i j : ℕ)
    → i < jobs tb
    → j < jobs tb
    → get_or partners' i FFFF ≡ j
    → BothEnds tb i j (get_or uppers' i FFFF) (get_or printed' i FFFF)
unfolding Planning.upper_layouts Planning.printed_layouts
both_ends tb partners uppers printed work t partners' uppers' printed' work' o i j hi hj e = go (Planning.plan_verdict tb (length partners) (length uppers) (length printed) (length work)) refl o
  where
    go : (v : Verdict) → Planning.plan_verdict tb (length partners) (length uppers) (length printed) (length work) ≡ v → PlannedAs v tb partners uppers printed work (Ok t) partners' uppers' printed' work'
        → BothEnds tb i j (get_or uppers' i FFFF) (get_or printed' i FFFF)
    go (refused number place) v o = let apart : ◌≡◌ {A = ℕ} 0 1 = let r = o.answered in cc in absurd (omega arith)
    go accepted v o =
        let held : get_or (Planning.partners tb ++ drop (jobs tb) partners) i FFFF ≡ j = rw o.partners_hold at e in
        rw (o.uppers_hold, o.printed_hold, numbers_before (upper tb) (jobs tb) i FFFF (drop (jobs tb) uppers) hi, numbers_before (Planning.printed tb) (jobs tb) i FFFF (drop (jobs tb) printed) hi)
        (ends_told tb (plan_accepted tb (length partners) (length uppers) (length printed) (length work) v) i j hi hj (sym (partners_front tb (drop (jobs tb) partners) i hi ∙ partner_cell tb i hi) ∙ held))
