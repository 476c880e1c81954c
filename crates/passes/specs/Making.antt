-- The plan of an accepted table, made in the work cells: its schedule is prepared and swept.
use Rattle.std.specs.Prelude.{ℕ, suc, ◌+◌, ◌-◌, ◌*◌, ◌^◌, ◌<◌, ◌≤◌, ◌≡◌, List, length, get_or}
use Rattle.std.proofs.Common.{◌∙◌, add-one, arith}
use Rattle.std.proofs.lemmas.List.{length-map}
use Rattle.model.specs.Lists.{numbers}
use Rattle.model.specs.Jobs.{Table, jobs, window, window_limit}
use Rattle.model.specs.Visits.{levels}
use Rattle.model.specs.declared.Totals.{Totals}
use Rattle.laws.specs.Numbers.{numbers_length, numbers_at}
use Rattle.settle.specs.Spanned.{Spanned}
use Rattle.jobs.specs.Accepted.{Accepted}
use Rattle.highest.specs.Columns.{Highests}
use Rattle.matching.specs.Partners.{jobs_counted, passes_length}
use Rattle.schedule.specs.Schedule.{Near}
use Rattle.schedule.specs.InWork.{tree_part, window_in, Shelved, Swept}
use Rattle.schedule.specs.OfTable.{job_at, shelf_base, schedule_of, Prepared}
use Rattle.schedule_laws.specs.Places.{job_known, window_in_lem}
use Rattle.schedule_laws.specs.Row.{base_next}
use Rattle.schedule_laws.proofs.Theorem.{places_are, schedule_sound, same_shelf}
use Rattle.sweep_laws.specs.Sweeping.{Sweepable}
use Rattle.passes.specs.OfTable.{swept_plan, swept_pairs, swept_visits}
use Rattle.passes.specs.PlanPass.{Plan, TotalsOf}
use Rattle.settle.specs.declared.SettledTree.{SettledTree}

-- enough work cells for n jobs: the parts of the schedule and the segment tree
abbrev pub Roomy : ℕ → List ℕ → Type 0
Roomy n work = tree_part * n + 2 * 2 ^ levels n ≤ length work

-- the plan and its totals
pub record Made (tb : Table) (ps : List ℕ) (tree : SettledTree) (bottoms old : List ℕ) (t : Totals) (highests work : List ℕ) : Type 0 where
  pub kept : length work ≡ length old
  pub plan : Plan tb ps tree highests bottoms work (t.pairs + t.singles)
  pub totals : TotalsOf tb t

module _ (tb : Table) (a : Accepted tb) where
  module _ (starts gaps work : List ℕ) (p : Prepared tb starts gaps work) where
    -- every place has its job's window, and so a shelf
    window_of_lem : (i : ℕ) → i < jobs tb → window_in work i ≡ window tb (job_at tb i)
    window_of_lem i h = window_in_lem tb a.few work p.order_is i h

    start_of : (v : ℕ) → v < suc window_limit → get_or starts v 0 ≡ shelf_base tb v
    start_of v h = rw p.starts_are (numbers_at (shelf_base tb) (suc window_limit) v 0 h)

    known : (i : ℕ) → i < jobs tb → window tb (job_at tb i) < window_limit
    known i h = a.window_known (job_at tb i) (job_known tb i h)

    shelved : Shelved (jobs tb) starts work
    shelved =
        record {
          starts_length = rw p.starts_are (length-map (numbers (suc window_limit)) (shelf_base tb) ∙ numbers_length (suc window_limit));
          window_known = λ i h. rw (window_of_lem i h) (known i h);
          shelf_rises = λ i h.
              let v : ℕ = window tb (job_at tb i) in
              rw (window_of_lem i h, add-one, start_of v (omega (arith, known i h)), start_of (suc v) (omega (arith, known i h)), base_next tb v) (omega arith);
        }

    -- a slot of the row in the shelf of a place is one of its window, so a gap leads past none
    near : Near (schedule_of tb) gaps
    near =
        record {
          gaps_length = rw (places_are tb) p.gaps_are.gaps_length;
          inside = λ i h. rw (places_are tb) (p.gaps_are.inside i (rw (places_are tb) at h));
          first = λ i q l h begins ends. let q-known : q < jobs tb = rw (places_are tb) at h in p.gaps_are.first i q l q-known (same_shelf tb a i q (omega arith) q-known begins ends);
        }

    -- prepared work cells can be swept
    pub sweepable : (old : List ℕ) → Roomy (jobs tb) old → length work ≡ length old → Sweepable (jobs tb) starts gaps work
    sweepable old room same = record { few = a.few; room = rw same room; shelved = shelved; sound = rw p.schedule_is (schedule_sound tb a); near = rw p.schedule_is near }

  module _ (starts gaps old new : List ℕ) (pairs visits : ℕ) (p : Prepared tb starts gaps old) (w : Swept (jobs tb) starts old pairs visits new) where
    -- two jobs to a pair
    pub pairs_few : 2 * pairs ≤ jobs tb
    pairs_few = omega (arith, swept_pairs tb a starts gaps old new pairs visits p w, jobs_counted tb)

    pub made : (ps : List ℕ) (tree : SettledTree) (highests bottoms start : List ℕ) → tb.parents ≡ ps → tb.bottoms ≡ bottoms → Spanned ps tree → Highests tb highests → Roomy (jobs tb) start → length old ≡ length start
        → (t : Totals) → t.pairs ≡ pairs → t.singles ≡ jobs tb - 2 * pairs → t.visits ≡ visits → Made tb ps tree bottoms start t highests new
    made ps tree highests bottoms start parents_are bottoms_are s columns room same t tp ts tv =
        let of : TotalsOf tb t = record {
          pairs_are = tp ∙ swept_pairs tb a starts gaps old new pairs visits p w;
          singles_are = ts ∙ omega (arith, swept_pairs tb a starts gaps old new pairs visits p w, jobs_counted tb);
          visits_are = tv ∙ swept_visits tb a starts gaps old new pairs visits p w;
        } in
        record {
          kept = w.kept ∙ same;
          totals = of;
          plan =
              record {
                parents_are = parents_are;
                bottoms_are = bottoms_are;
                table = a;
                spanned = s;
                high = columns;
                plan = swept_plan tb a starts gaps old new pairs visits (rw same (omega arith)) p w;
                count_is = omega (arith, of.pairs_are, of.singles_are, passes_length tb);
              };
        }
