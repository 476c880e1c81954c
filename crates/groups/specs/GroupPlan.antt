-- The groups of an accepted table in the members' cells, and what is read off them (document 02, 2026-07).
use Rattle.std.specs.Prelude.{ℕ, zero, suc, ◌+◌, ◌*◌, ◌<◌, ◌≤◌, ◌≡◌, true, false, Option, Some, None, length, get_or, take, drop, eqb}
use Rattle.std.proofs.Common.{sym, ap, ◌∙◌, suc-mul, zero-mul, arith, length-append, take_at, drop_at, drop-drop, eqb-true}
use Rattle.std.proofs.Math.Bool.{and-eq-true_iff}
use mathlib.Core.List.{List, [], ◌∷◌, ◌++◌, map, flatten}
use Rattle.std.proofs.lemmas.List.{length-map}
use Rattle.model.specs.Lists.{all_of}
use Rattle.model.specs.Jobs.{Table, jobs}
use Rattle.model.specs.Grouping.{all_full, groups_of}
use Rattle.settle.specs.Spanned.{Spanned}
use Rattle.jobs.specs.Accepted.{Accepted}
use Rattle.matching.specs.Renamed.{full_renamed}
use Rattle.schedule.specs.Schedule.{groups_by_place}
use Rattle.schedule.specs.OfTable.{job_at, schedule_of, order_cells, Prepared}
use Rattle.schedule_laws.proofs.Theorem.{schedule_groups}
use Rattle.group_sweep.specs.Grouped.{GroupsAre, GroupSwept}
use Rattle.settle.specs.declared.SettledTree.{SettledTree}

-- the groups of a table stand in the members' cells by place, all full, `count` of them, and its running order in the work cells
pub record GroupPlan (tb : Table) (g : ℕ) (ps : List ℕ) (tree : SettledTree) (members bottoms work : List ℕ) (count : ℕ) : Type 0 where
  pub parents_are : tb.parents ≡ ps
  pub bottoms_are : tb.bottoms ≡ bottoms
  pub table : Accepted tb
  pub spanned : Spanned ps tree
  pub least : 2 ≤ g
  pub most : g ≤ 8
  pub room : jobs tb ≤ length work
  pub order_is : take (jobs tb) work ≡ order_cells tb
  pub full : all_full g (groups_of tb g) ≡ true
  pub members_are : members ≡ flatten (groups_by_place (schedule_of tb) g)
  pub count_is : count ≡ length (groups_of tb g)

-- what is made of a table: its groups, or the word that one of them is not full
abbrev pub GroupsMade : Table → ℕ → List ℕ → SettledTree → List ℕ → Option ℕ → List ℕ → List ℕ → Type 0
GroupsMade tb g ps tree bottoms (Some k) members work = GroupPlan tb g ps tree members bottoms work k
GroupsMade tb g ps tree bottoms None members work = all_full g (groups_of tb g) ≡ false

module _ (tb : Table) (a : Accepted tb) (g : ℕ) where
  -- as many members in each by place as by job
  pub same_full : all_full g (groups_by_place (schedule_of tb) g) ≡ all_full g (groups_of tb g)
  same_full = sym (full_renamed (job_at tb) g (groups_by_place (schedule_of tb) g)) ∙ ap (all_full g) (schedule_groups tb a g)

  pub same_count : length (groups_by_place (schedule_of tb) g) ≡ length (groups_of tb g)
  same_count = sym (length-map (groups_by_place (schedule_of tb) g) (map (job_at tb))) ∙ ap length (schedule_groups tb a g)

  pub groups_made : (starts gaps old new : List ℕ) (r : Option ℕ) (members : List ℕ) → Prepared tb starts gaps old → GroupSwept (jobs tb) g starts old r members new
      → (ps : List ℕ) (tree : SettledTree) (bottoms : List ℕ) → tb.parents ≡ ps → tb.bottoms ≡ bottoms → Spanned ps tree → 2 ≤ g → g ≤ 8 → jobs tb ≤ length old → GroupsMade tb g ps tree bottoms r members new
  groups_made starts gaps old new r members p w ps tree bottoms parents_are bottoms_are s low high room = by r (rw p.schedule_is at w.groups_are)
    where
      by : (r : Option ℕ) → GroupsAre g (groups_by_place (schedule_of tb) g) members r → GroupsMade tb g ps tree bottoms r members new
      by (Some k) o =
          record {
            parents_are = parents_are;
            bottoms_are = bottoms_are;
            table = a;
            spanned = s;
            least = low;
            most = high;
            room = rw w.kept room;
            order_is = w.order_kept ∙ p.order_is;
            full = sym same_full ∙ o.0;
            members_are = o.2;
            count_is = o.1 ∙ same_count;
          }
      by None o = sym same_full ∙ o

-- ---- one group after the other

-- in full groups, one after the other, group k begins k times g on
pub flatten_part : (g : ℕ) (gs : List (List ℕ)) (k : ℕ) → all_full g gs ≡ true → k < length gs → take g (drop (k * g) (flatten gs)) ≡ get_or gs k []
unfolding all_full all_of flatten
flatten_part g [] k e h = absurd (omega arith)
flatten_part g (group ∷ gs) zero e h =
    let both = (and-eq-true_iff (eqb (length group) g) (all_full g gs)).0 e in
    rw zero-mul (take_at group (flatten gs) g (eqb-true (length group) g both.0))
flatten_part g (group ∷ gs) (suc k) e h =
    let both = (and-eq-true_iff (eqb (length group) g) (all_full g gs)).0 e in
    let next : suc k * g ≡ g + k * g = omega (arith, suc-mul k g) in
    rw next (ap (take g) (sym (drop-drop (k * g) g (group ++ flatten gs)) ∙ ap (drop (k * g)) (drop_at group (flatten gs) g (eqb-true (length group) g both.0))) ∙ flatten_part g gs k both.1 (omega arith))

-- and there are as many members as groups times g
pub flatten_length : (g : ℕ) (gs : List (List ℕ)) → all_full g gs ≡ true → length (flatten gs) ≡ length gs * g
unfolding all_full all_of flatten
flatten_length g [] e = sym (zero-mul g)
flatten_length g (group ∷ gs) e =
    let both = (and-eq-true_iff (eqb (length group) g) (all_full g gs)).0 e in
    length-append group (flatten gs) ∙ omega (arith, eqb-true (length group) g both.0, flatten_length g gs both.1, suc-mul (length gs) g)
