-- Laws of the verdict on one job and on the jobs from one on, in the shape in which checking them asks.
use Rattle.std.proofs.Common.{ℕ, suc, ◌+◌, ◌-◌, ◌≤◌, ◌<◌, ◌≡◌, sym, ap, ◌∙◌, Bool, true, false, List, length, get_or, ltb, add-one, arith, Result, Ok, Err}
use Rattle.std.proofs.Math.Bool.{not, or-true}
use Rattle.std.proofs.Math.Dec.{leb}
use mathlib.Core.List.{map, foldr}
use borrow.Author.Tests.{le-leb, lt-leb, ltb-true, ltb-false}
use Rattle.model.specs.Lists.{numbers_from, numbers}
use Rattle.model.specs.Verdict.{Verdict, accepted, refuse_if, ◌then◌}
use Rattle.model.specs.Tree.{ancestor_or_self}
use Rattle.model.specs.Jobs.{Table, table_of, jobs, window_limit, top, bottom, window, job_verdict}
use Rattle.model.specs.Planning.{jobs_verdict}
use Rattle.model.specs.declared.Reason.{Reason}
use Rattle.model.specs.declared.Reason.TheVariants as reason
use Rattle.settle.specs.declared.SettledTree.{SettledTree}
use Rattle.settle.specs.Spanned.{Spanned}
use Rattle.jobs.specs.Checks.{JobChecked, JobsChecked, verdict_at}

-- ---- one job

-- r is the answer of the ancestor test
abbrev Tested : ℕ → ℕ → SettledTree → Bool → Type 0
Tested u x settled r = (ps : List ℕ) → Spanned ps settled → u < length ps → x < length ps → r ≡ ancestor_or_self ps u x

module _ (layouts top bottom window : ℕ) (settled : SettledTree) where
  -- 5: no layout
  pub no_top : false ≡ ltb top layouts → JobChecked layouts top bottom window settled (Err reason.UnknownLayout)
  unfolding job_verdict
  no_top e = let h : layouts ≤ top = ltb-false _ _ (sym e) in record { verdict = λ ps e s place. rw (le-leb (length ps) top (omega arith)) }

  pub no_bottom : false ≡ ltb bottom layouts → JobChecked layouts top bottom window settled (Err reason.UnknownLayout)
  unfolding job_verdict
  no_bottom e = let h : layouts ≤ bottom = ltb-false _ _ (sym e) in record { verdict = λ ps e s place. rw (le-leb (length ps) bottom (omega arith), or-true (leb (length ps) top)) }

  module _ (t : true ≡ ltb top layouts) (b : true ≡ ltb bottom layouts) (r : Bool) (tested : Tested top bottom settled r) where
    -- of two layouts it is 6 as the test answers, or 9 as the window does
    known : (ps : List ℕ) → length ps ≡ layouts → (top < length ps) × (bottom < length ps)
    known ps e = let h : top < layouts = ltb-true _ _ (sym t) in let k : bottom < layouts = ltb-true _ _ (sym b) in (omega arith, omega arith)

    judged : (ps : List ℕ) → length ps ≡ layouts → Spanned ps settled → (place : ℕ) → job_verdict ps top bottom window place ≡ (refuse_if (not r) 6 place then refuse_if (leb window_limit window) 9 place)
    unfolding job_verdict
    judged ps e s place =
        let inside = known ps e in
        rw (lt-leb (length ps) top inside.0, lt-leb (length ps) bottom inside.1, ← tested ps s inside.0 inside.1)

    pub not_below : r ≡ false → JobChecked layouts top bottom window settled (Err reason.NotBelow)
    not_below answer = record { verdict = λ ps e s place. judged ps e s place ∙ rw answer }

    pub beyond : r ≡ true → false ≡ ltb window window_limit → JobChecked layouts top bottom window settled (Err reason.UnknownWindow)
    beyond answer h = record { verdict = λ ps e s place. judged ps e s place ∙ rw (answer, le-leb window_limit window (ltb-false _ _ (sym h))) }

    pub right : (done : Unit) → r ≡ true → true ≡ ltb window window_limit → JobChecked layouts top bottom window settled (Ok done)
    right done answer h = record { verdict = λ ps e s place. judged ps e s place ∙ rw (answer, lt-leb window_limit window (ltb-true _ _ (sym h))) }

-- ---- all jobs

-- the verdict on the jobs from j on
pub jobs_from : Table → ℕ → Verdict
jobs_from tb j = foldr ◌then◌ accepted (map (λ (j : ℕ). job_verdict tb.parents (top tb j) (bottom tb j) (window tb j) j) (numbers_from j (jobs tb - j)))

-- at the start those are all, then job j and those after it, at the end none
from_start : (tb : Table) → jobs_verdict tb ≡ jobs_from tb 0
unfolding jobs_verdict numbers jobs_from
from_start tb = ap (λ (n : ℕ). foldr ◌then◌ accepted (map (λ (j : ℕ). job_verdict tb.parents (top tb j) (bottom tb j) (window tb j) j) (numbers_from 0 n))) (omega arith)

from_next : (tb : Table) (j : ℕ) → j < jobs tb → jobs_from tb j ≡ (job_verdict tb.parents (top tb j) (bottom tb j) (window tb j) j then jobs_from tb (j + 1))
unfolding jobs_from numbers_from
from_next tb j h =
    let left : jobs tb - j ≡ suc (jobs tb - (j + 1)) = omega arith in
    rw (left, add-one)

from_end : (tb : Table) (j : ℕ) → jobs tb ≤ j → jobs_from tb j ≡ accepted
unfolding jobs_from numbers_from
from_end tb j h =
    let left : jobs tb - j ≡ 0 = omega arith in
    rw left

module _ (layouts : ℕ) (tops bottoms windows : List ℕ) (settled : SettledTree) where
  -- the verdict on all jobs is that on those from j on
  pub record RightBelow (j : ℕ) : Type 0 where
    pub within : j ≤ length tops
    pub verdict : (ps marks : List ℕ) → length ps ≡ layouts → (0 < length tops → Spanned ps settled) → jobs_verdict (table_of ps tops bottoms marks windows) ≡ jobs_from (table_of ps tops bottoms marks windows) j

  -- before the first job, after a right one, at a wrong one, and after the last
  pub none_checked : RightBelow 0
  none_checked = record { within = omega arith; verdict = λ ps marks e s. from_start (table_of ps tops bottoms marks windows) }

  pub all_checked : (j : ℕ) → length tops ≤ j → RightBelow j → (done : Unit) → JobsChecked layouts tops bottoms windows settled (Ok done)
  all_checked j h b done = record { verdict = λ ps marks e s. b.verdict ps marks e s ∙ from_end (table_of ps tops bottoms marks windows) j h }

  module _ (j : ℕ) (h : j < length tops) (r : Result Unit Reason) (c : JobChecked layouts (get_or tops j 0) (get_or bottoms j 0) (get_or windows j 0) settled r) (b : RightBelow j) where
    -- job j and those after it, by its own answer
    checked : (ps marks : List ℕ) → length ps ≡ layouts → (0 < length tops → Spanned ps settled) → jobs_verdict (table_of ps tops bottoms marks windows) ≡ (verdict_at j r then jobs_from (table_of ps tops bottoms marks windows) (j + 1))
    checked ps marks e s = b.verdict ps marks e s ∙ from_next (table_of ps tops bottoms marks windows) j h ∙ rw (c.verdict ps e (s (omega arith)) j)

    pub one_more : (done : Unit) → r ≡ Ok done → RightBelow (j + 1)
    one_more done right = record { within = omega arith; verdict = λ ps marks e s. checked ps marks e s ∙ rw right }

    pub wrong_job : (g : Reason) → r ≡ Err g → JobsChecked layouts tops bottoms windows settled (Err (record { reason = g; job = record { 0 = j } }))
    wrong_job g wrong = record { verdict = λ ps marks e s. checked ps marks e s ∙ rw wrong }
