-- The outcome of *Plan*: refused with nothing changed, or the plan in the results, which no rival beats.
use Rattle.std.specs.Prelude.{ℕ, ◌≤◌, ◌≡◌, refl, List, ◌++◌, length, take, drop, replicate, Result, Ok}
use Rattle.std.proofs.Common.{sym, arith, length-take-le, take_at}
use Rattle.std.proofs.Math.Seq.{take-append_seam, drop-append_seam}
use Rattle.model.specs.Verdict.{Verdict, accepted, refused, refuses}
use Rattle.model.specs.Jobs.{Table, table_of, job_limit}
use Rattle.model.specs.Planning.{work_cells, jobs_verdict}
use Rattle.model.specs.Answers.{planned_answer}
use Rattle.model.specs.Outcomes.{PlannedAs}
use Rattle.model.specs.declared.Refusal.{Refusal}
use Rattle.model.specs.declared.Totals.{Totals}
use Rattle.tree_laws.specs.WellFormed.{Tree}
use Rattle.jobs.specs.Accepted.{Accepted, Lent, table_accepted}
use Rattle.matching.proofs.MaximumAtEveryCut.{our_plan_maximum}
use Rattle.matching.proofs.EarlierJobsPaired.{earlier_jobs_paired}
use Rattle.sweep_laws.specs.Room.{sweep_room}
use Rattle.passes.specs.Making.{Roomy}
use Rattle.passes.specs.PlanPass.{TotalsOf}
use Rattle.hand_back.specs.HandBack.{Returned}

-- results of one cell for each of n jobs, and the work cells
pub record Room (n : ℕ) (partners printed work : List ℕ) : Type 0 where
  pub partners_length : length partners ≡ n
  pub printed_length : length printed ≡ n
  pub work_length : length work ≡ work_cells

-- the plan of the table is in the results, with its totals, and the work cells are 0
pub record Filled (tb : Table) (t : Totals) (partners uppers printed work : List ℕ) : Type 0 where
  pub totals : TotalsOf tb t
  pub returned : Returned tb partners uppers printed
  pub work_is : work ≡ replicate work_cells 0

-- the work cells are enough for any table
pub enough : (n : ℕ) (work : List ℕ) → n ≤ job_limit → length work ≡ work_cells → Roomy n work
enough n work few room = omega (arith, room, sweep_room n 12 few)

-- ---- outcomes

-- a refusal changes nothing lent
module _ (tb : Table) (partners uppers printed work : List ℕ) (r : Result Totals Refusal) where
  pub refused_as : (v : Verdict) (number place : ℕ) → v ≡ refused number place → planned_answer r ≡ refuses number place → PlannedAs v tb partners uppers printed work r partners uppers printed work
  refused_as v number place e a =
      record {
        answered = rw e a;
        partners_hold = rw e refl;
        uppers_hold = rw e refl;
        printed_hold = rw e refl;
        work_holds = rw e refl;
        maximum = λ t done. let apart : ◌≡◌ {A = ℕ} 0 1 = cc in absurd (omega arith);
        earlier_paired = λ t done. let apart : ◌≡◌ {A = ℕ} 0 1 = cc in absurd (omega arith);
      }

-- the jobs are right
module _ (ps ts bs ms ws partners uppers printed work : List ℕ) (lent : Lent (table_of ps ts bs ms ws) (length partners) (length uppers) (length printed) (length work)) (few : length ts ≤ job_limit) (t : Tree ps) (accepts : jobs_verdict (table_of ps ts bs ms ws) ≡ accepted) where
  abbrev tb : Table
  tb = table_of ps ts bs ms ws

  right : Accepted (table_of ps ts bs ms ws)
  right = table_accepted tb t few (sym lent.bottoms_length) (sym lent.marks_length) (sym lent.windows_length) accepts

  -- its tops and marks are copied, and the copies lent
  module _ (quiet us qs : List ℕ) (tops-copied : us ≡ ts ++ drop (length ts) uppers) (marks-copied : qs ≡ ms ++ drop (length ts) quiet) where
    tops_part : take (length ts) us ≡ ts
    tops_part = rw tops-copied (take-append_seam ts (drop (length ts) uppers))

    marks_part : take (length ts) qs ≡ ms
    marks_part = rw marks-copied (take_at ms (drop (length ts) quiet) (length ts) (sym lent.marks_length))

    pub copies_accepted : Accepted (table_of ps (take (length ts) us) bs (take (length ts) qs) ws)
    copies_accepted = rw (tops_part, marks_part) right

    pub room : Room (length (take (length ts) us)) (take (length ts) partners) (take (length ts) printed) (take work_cells work)
    room =
        rw tops_part
        (record {
          partners_length = length-take-le (length ts) partners lent.partners_room;
          printed_length = length-take-le (length ts) printed lent.printed_room;
          work_length = length-take-le work_cells work lent.work_room;
        })

    pub planned_as : (t : Totals) (partners' uppers' printed' work' : List ℕ) → Filled (table_of ps (take (length ts) us) bs (take (length ts) qs) ws) t partners' uppers' printed' work'
        → PlannedAs (jobs_verdict (table_of ps ts bs ms ws)) (table_of ps ts bs ms ws) partners uppers printed work (Ok t) (partners' ++ drop (length ts) partners) (uppers' ++ drop (length ts) us) (printed' ++ drop (length ts) printed) (work' ++ drop work_cells work)
    planned_as totals partners' uppers' printed' work' filled =
        let f : Filled (table_of ps ts bs ms ws) totals partners' uppers' printed' work' = rw (tops_part, marks_part) at filled in
        let rest : drop (length ts) us ≡ drop (length ts) uppers = rw tops-copied (drop-append_seam ts (drop (length ts) uppers)) in
        let returned = f.returned in
        record {
          answered = rw (accepts, f.totals.pairs_are, f.totals.singles_are, f.totals.visits_are) refl;
          partners_hold = rw (accepts, returned.partners_are) refl;
          uppers_hold = rw (accepts, returned.uppers_are, rest) refl;
          printed_hold = rw (accepts, returned.printed_are) refl;
          work_holds = rw (accepts, f.work_is) refl;
          maximum = λ u done. let same : u ≡ totals = cc in rw (same, returned.partners_are, f.totals.pairs_are, f.totals.singles_are) (our_plan_maximum tb t right.downward few (drop (length ts) partners));
          earlier_paired = λ u done. rw returned.partners_are (earlier_jobs_paired tb t right.downward few (drop (length ts) partners));
        }
