-- The passes of an accepted table in the work cells: pass k, as it is read, is pass k of the plan, with the layout that it prints on.
use Rattle.std.specs.Prelude.{ℕ, zero, suc, ◌*◌, ◌≤◌, ◌<◌, ◌≡◌, ◌≢◌, true, length, get_or, take, eqb}
use Rattle.std.proofs.Math.Path.{refl, ap}
use Rattle.std.proofs.Common.{sym, ◌∙◌, ⊎_elim, arith, eq-eqb, ne_eqb, eqb-true}
use mathlib.Core.List.Memᴰ.{head as here}
use mathlib.Core.List.Memᴰ.{tail as there}
use mathlib.Core.List.{List, [], ◌∷◌, map, Memᴰ as Mem}
use Rattle.std.proofs.lemmas.Bool.{eqb-false}
use Rattle.model.specs.Lists.{numbers}
use Rattle.model.specs.Tree.{FFFF}
use Rattle.model.specs.Jobs.{Table, jobs, deepest_shared}
use Rattle.model.specs.Greedy.{Pass, pair, single, compatible, passes}
use Rattle.model.specs.Planning.{pairs}
use Rattle.model.specs.Visits.{cell_count}
use Rattle.model.specs.Rival.{Pair}
use Rattle.laws.specs.Booleans.{answers}
use Rattle.laws.specs.Lists.{all_mem}
use Rattle.laws.specs.Numbers.{numbers_mem, numbers_at}
use Rattle.jobs.specs.Accepted.{Accepted}
use Rattle.ancestry.specs.Ancestry.{common_shared}
use Rattle.matching.specs.Renamed.{renamed}
use Rattle.matching.specs.Passes.{pairs_in, vertices, mem_greedy}
use Rattle.matching.specs.Partners.{passes_compatible, passes_length, jobs_counted}
use Rattle.matching.specs.Compatible.{compatible_true}
use Rattle.schedule.specs.Schedule.{fits, passes_by_place}
use Rattle.schedule.specs.InWork.{job_in, pass_of, pass_at, Swept}
use Rattle.schedule.specs.OfTable.{job_at, schedule_of, order_cells, Prepared}
use Rattle.schedule_laws.specs.Places.{job_known, job_in_lem}
use Rattle.schedule_laws.proofs.Theorem.{places_are, schedule_passes, schedule_length, schedule_pairs, schedule_visits}
use Rattle.passes.specs.Read.{opener_in, mate_in, PassCells, PairRead, SingleRead, PassRead}
use Rattle.passes.specs.declared.Pass as declared
use Rattle.passes.specs.declared.Pass.TheVariants as pass

-- the plan of a table stands in the work cells: its running order, and its passes by place
pub record PlanIn (tb : Table) (work : List ℕ) : Type 0 where
  pub room : 6 * jobs tb ≤ length work
  pub order_is : take (jobs tb) work ≡ order_cells tb
  pub passes_are : map (pass_at (jobs tb) work) (numbers (length (passes tb))) ≡ passes_by_place (schedule_of tb)

-- the pass r is that of the plan, by job numbers, on its deepest shared layout
abbrev pub PassIs : Table → Pass → declared.Pass → Type 0
PassIs tb (pair i j) (pass.Pair one other layout) = (one.0 ≡ i) × (other.0 ≡ j) × (layout.0 ≡ deepest_shared tb i j)
PassIs tb (pair i j) (pass.Single job) = ⊥
PassIs tb (single i) (pass.Pair one other layout) = ⊥
PassIs tb (single i) (pass.Single job) = job.0 ≡ i

-- pass k of the plan
abbrev pub plan_pass : Table → ℕ → Pass
plan_pass tb k = get_or (passes tb) k (single 0)

-- ---- lists of passes

get_d_map : (g : Pass → Pass) (l : List Pass) (k : ℕ) (d e : Pass) → k < length l → get_or (map g l) k d ≡ g (get_or l k e)
get_d_map g [] k d e h = absurd (omega arith)
get_d_map g (x ∷ xs) zero d e h = refl
get_d_map g (x ∷ xs) (suc k) d e h = get_d_map g xs k d e (omega arith)

-- the vertices of a pass are among those of the list, and a pair is among its pairs
abbrev Among : List Pass → Pass → Type 0
Among l (pair i j) = Mem i (vertices l) × Mem j (vertices l) × Mem (record { one = i; other = j }) (pairs_in l)
Among l (single i) = Mem i (vertices l)

among_more : (x p : Pass) (l : List Pass) → Among l p → Among (x ∷ l) p
unfolding vertices pairs_in
among_more (pair a b) (pair i j) l m = (there (there m.0), there (there m.1), there m.2)
among_more (single a) (pair i j) l m = (there m.0, there m.1, m.2)
among_more (pair a b) (single i) l m = there (there m)
among_more (single a) (single i) l m = there m

among_first : (p : Pass) (l : List Pass) → Among (p ∷ l) p
unfolding vertices pairs_in
among_first (pair i j) l = (here refl, there (here refl), here refl)
among_first (single i) l = here refl

pub pass_among : (l : List Pass) (k : ℕ) (d : Pass) → k < length l → Among l (get_or l k d)
pass_among [] k d h = absurd (omega arith)
pass_among (x ∷ xs) zero d h = among_first x xs
pass_among (x ∷ xs) (suc k) d h = among_more x (get_or xs k d) xs (pass_among xs k d (omega arith))

-- ---- the plan in the work cells

module _ (tb : Table) (a : Accepted tb) where
  -- what a sweep over the prepared work cells leaves
  pub swept_plan : (starts gaps old new : List ℕ) (p v : ℕ) → 6 * jobs tb ≤ length old → Prepared tb starts gaps old → Swept (jobs tb) starts old p v new → PlanIn tb new
  swept_plan starts gaps old new p v room ready s =
      record {
        room = rw s.kept room;
        order_is = s.order_kept ∙ ready.order_is;
        passes_are = rw (ready.schedule_is, schedule_length tb a) at s.passes_are;
      }

  pub swept_pairs : (starts gaps old new : List ℕ) (p v : ℕ) → Prepared tb starts gaps old → Swept (jobs tb) starts old p v new → p ≡ pairs tb
  swept_pairs starts gaps old new p v ready s = s.pairs_are ∙ rw ready.schedule_is (schedule_pairs tb a)

  pub swept_visits : (starts gaps old new : List ℕ) (p v : ℕ) → Prepared tb starts gaps old → Swept (jobs tb) starts old p v new → v ≡ cell_count tb
  swept_visits starts gaps old new p v ready s = s.visits_are ∙ rw ready.schedule_is (schedule_visits tb a)

  -- pass k by place, and by job
  module _ (work : List ℕ) (r : PlanIn tb work) (k : ℕ) (h : k < length (passes tb)) where
    by_place_lem : get_or (passes_by_place (schedule_of tb)) k (single 0) ≡ pass_at (jobs tb) work k
    by_place_lem = ap (λ (l : List Pass). get_or l k (single 0)) (sym r.passes_are) ∙ numbers_at (pass_at (jobs tb) work) (length (passes tb)) k (single 0) h

    inside : k < length (passes_by_place (schedule_of tb))
    inside = rw (schedule_length tb a) h

    by_job : plan_pass tb k ≡ renamed (job_at tb) (pass_at (jobs tb) work k)
    by_job =
        ap (λ (l : List Pass). get_or l k (single 0)) (sym (schedule_passes tb a))
        ∙ get_d_map (renamed (job_at tb)) (passes_by_place (schedule_of tb)) k (single 0) (single 0) inside
        ∙ ap (renamed (job_at tb)) by_place_lem

    -- its places are places
    place_known : {p : ℕ} → Mem p (vertices (passes_by_place (schedule_of tb))) → p < jobs tb
    unfolding passes_by_place
    place_known m = rw (places_are tb) at (numbers_mem _ (mem_greedy (fits (schedule_of tb)) (numbers _) m))

    among : Among (passes_by_place (schedule_of tb)) (pass_at (jobs tb) work k)
    among = rw by_place_lem at (pass_among (passes_by_place (schedule_of tb)) k (single 0) inside)

    abbrev opener : ℕ
    opener = opener_in (jobs tb) work k

    abbrev mate : ℕ
    mate = mate_in (jobs tb) work opener

    -- alone, or with its mate
    alone : mate ≡ FFFF → pass_at (jobs tb) work k ≡ single opener
    unfolding pass_at pass_of
    alone e = rw (eq-eqb mate FFFF e) refl

    paired : mate ≢ FFFF → pass_at (jobs tb) work k ≡ pair opener mate
    unfolding pass_at pass_of
    paired e = rw (ne_eqb mate FFFF e) refl

    single_known : mate ≡ FFFF → opener < jobs tb
    single_known e = place_known (rw (alone e) at among)

    pair_known : mate ≢ FFFF → (opener < jobs tb) × (mate < jobs tb)
    pair_known e = let m = rw (paired e) at among in (place_known m.0, place_known m.1)

    opener_known : opener < jobs tb
    opener_known = ⊎_elim (λ e. single_known (eqb-true mate FFFF e)) (λ e. (pair_known (eqb-false mate FFFF e)).0) (answers (eqb mate FFFF))

    job_is : (p : ℕ) → p < jobs tb → job_in work p ≡ job_at tb p
    job_is p l = job_in_lem tb a.few work r.order_is p l

    -- what reading the pass asks for
    pub pass_cells : PassCells tb.parents tb.bottoms work k
    pass_cells =
        let even = a.bottoms_length in
        record {
          opener_inside = rw even (omega (arith, r.room, h, passes_length tb, jobs_counted tb));
          opener_place = rw even opener_known;
          mate_inside = rw even (omega (arith, r.room, opener_known));
          order_inside = λ p l. omega (arith, r.room);
          mate_place = rw even (λ e. (pair_known e).1);
          known = rw even (λ p l. rw (job_is p l) (job_known tb p l));
          bottom_known = rw even a.bottom_known;
        }

    read_alone : mate ≡ FFFF → (x : declared.Pass) → SingleRead (job_in work opener) x → PassIs tb (plan_pass tb k) x
    unfolding renamed
    read_alone e (pass.Pair one other layout) o = absurd o
    read_alone e (pass.Single job) o = rw (by_job, alone e) (o ∙ job_is opener opener_known)

    read_pair : mate ≢ FFFF → (x : declared.Pass) → PairRead tb.parents tb.bottoms (job_in work opener) (job_in work mate) x → PassIs tb (plan_pass tb k) x
    unfolding renamed
    read_pair e (pass.Single job) o = absurd o
    read_pair e (pass.Pair one other layout) o =
        let known = pair_known e in
        let first : job_in work opener ≡ job_at tb opener = job_is opener known.0 in
        let second : job_in work mate ≡ job_at tb mate = job_is mate known.1 in
        let is : plan_pass tb k ≡ pair (job_at tb opener) (job_at tb mate) = by_job ∙ ap (renamed (job_at tb)) (paired e) in
        let fit = all_mem (λ (p : Pair). compatible tb p.one p.other ≡ true) (passes_compatible tb) (rw is at (pass_among (passes tb) k (single 0) h)).2 in
        rw is
        (o.0 ∙ first, o.1 ∙ second, common_shared tb a (job_at tb opener) (job_at tb mate) (job_known tb opener known.0) (job_known tb mate known.1) (compatible_true tb (job_at tb opener) (job_at tb mate) fit).3 layout.0 (rw (first, second) at o.2))

    -- what is read is the pass of the plan
    pub pass_read : (x : declared.Pass) → PassRead tb.parents tb.bottoms work k x → PassIs tb (plan_pass tb k) x
    pass_read x o = ⊎_elim (λ e. let q = eqb-true mate FFFF e in read_alone q x ((rw a.bottoms_length at o.alone) q)) (λ e. let q = eqb-false mate FFFF e in read_pair q x ((rw a.bottoms_length at o.paired) q)) (answers (eqb mate FFFF))
