-- What is printed is what *Plan* gives for the numbers read (document 01, "The plan"): the lines of the partners and layouts that it hands back, by the
-- running order, and its totals.
use Rattle.std.specs.Prelude.{ℕ, ◌<◌, ◌≡◌, Bool, true, false, cond, Ok, length, get_or, drop, eqb, ltb}
use Rattle.std.proofs.Math.Path.{refl}
use Rattle.std.proofs.Common.{ap, ◌∙◌, ⊎_elim, arith}
use mathlib.Core.List.{List, [], ◌∷◌, ◌++◌, flat_map}
use borrow.Author.Tests.{eqb-true, ne_eqb, lt-ltb, le-ltb}
use Rattle.model.specs.Lists.{select, All, without}
use Rattle.model.specs.Verdict.{Verdict, accepted, refused}
use Rattle.model.specs.Tree.{FFFF}
use Rattle.model.specs.Jobs.{Table, jobs}
use Rattle.model.specs.Order.{running_order, place}
use Rattle.model.specs.Greedy.{Pass, pair, single, greedy, compatible, passes}
use Rattle.model.specs.Planning as Planning
use Rattle.model.specs.Planning.{partner_in, upper, printed}
use Rattle.model.specs.Visits.{cell_count}
use Rattle.model.specs.Table.{read, read_table}
use Rattle.model.specs.Output.{pair_line, single_line, totals_line, pass_line, plan_bytes, reading_bytes, run_bytes}
use Rattle.model.specs.Outcomes.{PlannedAs}
use Rattle.model.specs.declared.Totals.{Totals}
use Rattle.model.specs.Rival.{Pair}
use Rattle.laws.specs.Booleans.{answers}
use Rattle.laws.specs.Numbers.{numbers_before}
use Rattle.laws.specs.Lists.{all_mem, at_all}
use Rattle.matching.specs.Passes.{Run, done, matched, alone, greedy_run}
use Rattle.matching.specs.Partners.{passes_places, partner_cell}
use Rattle.matching.specs.PartnersFront.{partners_front}
use Rattle.jobs.specs.Accepted.{Accepted}
use Rattle.run.specs.Sound.{read_table_lem}
use Rattle.passes.specs.OfTable.{plan_pass, pass_among}
use Rattle.passes.specs.PlanPass.{one_known, other_known, one_partner, other_partner, single_known, single_partner}

-- the line at the turn of job i, by the partners and layouts handed back: alone without a partner; with a later partner both jobs and their two layouts; with an
-- earlier one none, since the pair has its line already
unfoldable pub held_line : Table → List ℕ → List ℕ → List ℕ → ℕ → List ℕ
held_line tb partners uppers layouts i =
    cond (eqb (get_or partners i FFFF) FFFF) (single_line i)
    (cond (ltb (place tb i) (place tb (get_or partners i FFFF))) (pair_line i (get_or partners i FFFF) (get_or uppers i FFFF) (get_or layouts i FFFF)) [])

-- ---- lines by pass and lines by turn

without_silent : (h : ℕ → List ℕ) (j : ℕ) → h j ≡ [] → (vs : List ℕ) → flat_map h (without j vs) ≡ flat_map h vs
unfolding without select flat_map
without_silent h j e [] = refl
without_silent h j e (x ∷ xs) = ⊎_elim
    (λ (q : eqb x j ≡ true). let same : x ≡ j = eqb-true x j q in rw (q, same, e) (without_silent h j e xs))
    (λ (q : eqb x j ≡ false). rw q (ap (λ (l : List ℕ). h x ++ l) (without_silent h j e xs)))
    (answers (eqb x j))

module _ (fit : ℕ → ℕ → Bool) (f : Pass → List ℕ) (h : ℕ → List ℕ) where
  -- the opening job has the line of the pass, the other none
  abbrev Agrees : Pass → Type 0
  Agrees (pair i j) = (f (pair i j) ≡ h i) × (h j ≡ [])
  Agrees (single i) = f (single i) ≡ h i

  by_turn : {vs : List ℕ} {ps : List Pass} → Run fit vs ps → All Agrees ps → flat_map f ps ≡ flat_map h vs
  unfolding flat_map
  by_turn done a = refl
  by_turn (matched {v = v} {j = j} {vs = vs} e r) a = rw a.0.0 (ap (λ (l : List ℕ). h v ++ l) (by_turn r a.1 ∙ without_silent h j a.0.1 vs))
  by_turn (alone {v = v} e r) a = rw a.0 (ap (λ (l : List ℕ). h v ++ l) (by_turn r a.1))

-- ---- the plan handed back

module _ (tb : Table) (a : Accepted tb) (rest above more : List ℕ) where
  partner_held : (i : ℕ) → i < jobs tb → get_or (Planning.partners tb ++ rest) i FFFF ≡ partner_in (passes tb) i
  partner_held i h = partners_front tb rest i h ∙ partner_cell tb i h

  upper_held : (i : ℕ) → i < jobs tb → get_or (Planning.upper_layouts tb ++ above) i FFFF ≡ upper tb i
  unfolding Planning.upper_layouts
  upper_held i h = numbers_before (upper tb) (jobs tb) i FFFF above h

  layout_held : (i : ℕ) → i < jobs tb → get_or (Planning.printed_layouts tb ++ more) i FFFF ≡ printed tb i
  unfolding Planning.printed_layouts
  layout_held i h = numbers_before (printed tb) (jobs tb) i FFFF more h

  line_agrees : (k : ℕ) → k < length (passes tb) → (p : Pass) → plan_pass tb k ≡ p → Agrees (compatible tb) (pass_line tb) (held_line tb (Planning.partners tb ++ rest) (Planning.upper_layouts tb ++ above) (Planning.printed_layouts tb ++ more)) p
  unfolding held_line pass_line
  line_agrees k h (pair i j) is =
      let one = one_known tb a k i j h is in
      let other = other_known tb a k i j h is in
      let forth = partner_held i one ∙ one_partner tb a k i j h is in
      let back = partner_held j other ∙ other_partner tb a k i j h is in
      let before = all_mem (λ (p : Pair). place tb p.one < place tb p.other) (passes_places tb) (rw is at (pass_among (passes tb) k (single 0) h)).2 in (
        rw (forth, ne_eqb j FFFF (λ e. omega (arith, a.few)), lt-ltb (place tb i) (place tb j) before, upper_held i one, layout_held i one) refl,
        rw (back, ne_eqb i FFFF (λ e. omega (arith, a.few)), le-ltb (place tb j) (place tb i) (omega arith)) refl,
      )
  line_agrees k h (single i) is = rw (partner_held i (single_known tb a k i h is) ∙ single_partner tb a k i h is) refl

  passes_run : passes tb ≡ greedy (compatible tb) (running_order tb)
  unfolding passes
  passes_run = refl

  lines_held : flat_map (pass_line tb) (passes tb) ≡ flat_map (held_line tb (Planning.partners tb ++ rest) (Planning.upper_layouts tb ++ above) (Planning.printed_layouts tb ++ more)) (running_order tb)
  lines_held =
      by_turn (compatible tb) (pass_line tb) (held_line tb (Planning.partners tb ++ rest) (Planning.upper_layouts tb ++ above) (Planning.printed_layouts tb ++ more)) (rw passes_run (greedy_run (compatible tb) (running_order tb)))
      (at_all (Agrees (compatible tb) (pass_line tb) (held_line tb (Planning.partners tb ++ rest) (Planning.upper_layouts tb ++ above) (Planning.printed_layouts tb ++ more))) (passes tb) (single 0) (λ k h. line_agrees k h (plan_pass tb k) refl))

-- document 01: all lines are those that *Plan* gives for the numbers read
pub run_prints_plan :
    (bytes : List ℕ) (tb : Table)
    → read_table bytes ≡ read tb
    → (partners uppers layouts work : List ℕ) (t : Totals) (partners' uppers' layouts' work' : List ℕ)
    → PlannedAs (Planning.plan_verdict tb (length partners) (length uppers) (length layouts) (length work)) tb partners uppers layouts work (Ok t) partners' uppers' layouts' work'
    → run_bytes bytes ≡ flat_map (held_line tb partners' uppers' layouts') (running_order tb) ++ totals_line t.pairs t.singles t.visits
unfolding run_bytes reading_bytes plan_bytes
run_prints_plan bytes tb e partners uppers layouts work t partners' uppers' layouts' work' o = go (Planning.plan_verdict tb (length partners) (length uppers) (length layouts) (length work)) refl o
  where
    go : (v : Verdict) → Planning.plan_verdict tb (length partners) (length uppers) (length layouts) (length work) ≡ v → PlannedAs v tb partners uppers layouts work (Ok t) partners' uppers' layouts' work'
        → run_bytes bytes ≡ flat_map (held_line tb partners' uppers' layouts') (running_order tb) ++ totals_line t.pairs t.singles t.visits
    go (refused number place) v o = let apart : ◌≡◌ {A = ℕ} 0 1 = let r = o.answered in cc in absurd (omega arith)
    go accepted v o =
        let given = o.answered in
        let p : t.pairs ≡ Planning.pairs tb = cc in
        let s : t.singles ≡ Planning.singles tb = cc in
        let c : t.visits ≡ cell_count tb = cc in
        rw (e, p, s, c, o.partners_hold, o.uppers_hold, o.printed_hold) (ap (λ (l : List ℕ). l ++ totals_line (Planning.pairs tb) (Planning.singles tb) (cell_count tb)) (lines_held tb (read_table_lem bytes tb e) (drop (jobs tb) partners) (drop (jobs tb) uppers) (drop (jobs tb) layouts)))
