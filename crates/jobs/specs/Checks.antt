-- What checking the jobs promises (document 01, "What each operation turns away", refusals 5, 6 and 9).
use Rattle.std.specs.Prelude.{ℕ, ◌<◌, ◌≡◌, List, length, Result, Ok, Err}
use Rattle.model.specs.Verdict.{Verdict, accepted, refused}
use Rattle.model.specs.Jobs.{table_of, job_verdict}
use Rattle.model.specs.Planning.{jobs_verdict}
use Rattle.model.specs.Answers.{reason_number}
use Rattle.model.specs.declared.Reason.{Reason}
use Rattle.settle.specs.declared.SettledTree.{SettledTree}
use Rattle.settle.specs.Spanned.{Spanned}
use Rattle.jobs.specs.declared.WrongJob.{WrongJob}

-- the verdict of an answer on all jobs
abbrev pub check_verdict : Result Unit WrongJob → Verdict
check_verdict (Ok done) = accepted
check_verdict (Err w) = refused (reason_number w.reason) w.job.0

-- the verdict of an answer on the job at a place
abbrev pub verdict_at : ℕ → Result Unit Reason → Verdict
verdict_at place (Ok done) = accepted
verdict_at place (Err g) = refused (reason_number g) place

-- the answer is the verdict on a job from top to bottom in a window, in every tree of so many layouts that is settled so
pub record JobChecked (layouts top bottom window : ℕ) (settled : SettledTree) (r : Result Unit Reason) : Type 0 where
  pub verdict : (ps : List ℕ) → length ps ≡ layouts → Spanned ps settled → (place : ℕ) → job_verdict ps top bottom window place ≡ verdict_at place r

-- the answer is the verdict on all jobs, in every tree of so many layouts, whatever their marks; if there are jobs, the tree is settled so
pub record JobsChecked (layouts : ℕ) (tops bottoms windows : List ℕ) (settled : SettledTree) (r : Result Unit WrongJob) : Type 0 where
  pub verdict : (ps marks : List ℕ) → length ps ≡ layouts → (0 < length tops → Spanned ps settled) → jobs_verdict (table_of ps tops bottoms marks windows) ≡ check_verdict r
