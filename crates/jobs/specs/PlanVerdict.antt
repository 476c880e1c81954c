-- The verdict of *Plan*, refusal by refusal (document 01, "What each operation turns away"): one law for each way that a call can end.
use Rattle.std.specs.Prelude.{ℕ, ◌≤◌, ◌<◌, ◌≡◌, refl, ◌||◌, length, eqb}
use Rattle.std.proofs.Common.{sym, ◌∙◌}
use Rattle.std.proofs.Math.Bool.{not, or-true, or-false}
use Rattle.std.proofs.Math.Dec.{ltb}
use borrow.Author.Tests.{eq-eqb, ne_eqb, lt-ltb, le-ltb, eqb-true, ltb-false, not-false}
use Rattle.model.specs.Verdict.{Verdict, accepted, refused, refuse_if, ◌then◌}
use Rattle.model.specs.Tree.{layout_limit, tree_verdict}
use Rattle.model.specs.Jobs.{Table, jobs, job_limit}
use Rattle.model.specs.Planning.{work_cells, lent_verdict, jobs_verdict, plan_verdict}
use Rattle.laws.specs.Booleans.{or_false_both}
use Rattle.laws.specs.Verdicts.{then_accepted, not_refused}
use Rattle.tree_laws.specs.WellFormed.{well_formed}
use Rattle.settle.specs.Checked.{layouts_verdict}
use Rattle.jobs.specs.Accepted.{Accepted, Lent, table_accepted}

module _ (tb : Table) (partners uppers printed work : ℕ) where
  -- a refusal 8 is that of the call
  lent_refused : lent_verdict tb partners uppers printed work ≡ refused 8 0 → plan_verdict tb partners uppers printed work ≡ refused 8 0
  unfolding plan_verdict
  lent_refused e = rw e

  -- 8: tops, bottoms, marks and windows of unequal length
  pub unequal_bottoms : (jobs tb ≡ length tb.bottoms → ⊥) → plan_verdict tb partners uppers printed work ≡ refused 8 0
  unfolding lent_verdict
  unequal_bottoms f = lent_refused (rw (ne_eqb (jobs tb) (length tb.bottoms) f))

  module _ (bottoms : jobs tb ≡ length tb.bottoms) where
    pub unequal_marks : (jobs tb ≡ length tb.marks → ⊥) → plan_verdict tb partners uppers printed work ≡ refused 8 0
    unfolding lent_verdict
    unequal_marks f = lent_refused (rw (eq-eqb (jobs tb) (length tb.bottoms) bottoms, ne_eqb (jobs tb) (length tb.marks) f))

    pub unequal_windows : jobs tb ≡ length tb.marks → (jobs tb ≡ length tb.windows → ⊥) → plan_verdict tb partners uppers printed work ≡ refused 8 0
    unfolding lent_verdict
    unequal_windows marks f = lent_refused (rw (eq-eqb (jobs tb) (length tb.bottoms) bottoms, eq-eqb (jobs tb) (length tb.marks) marks, ne_eqb (jobs tb) (length tb.windows) f))

    module _ (marks : jobs tb ≡ length tb.marks) (windows : jobs tb ≡ length tb.windows) where
      -- 8: a result shorter than tops
      pub short_partners : partners < jobs tb → plan_verdict tb partners uppers printed work ≡ refused 8 0
      unfolding lent_verdict
      short_partners h = lent_refused (rw (eq-eqb (jobs tb) (length tb.bottoms) bottoms, eq-eqb (jobs tb) (length tb.marks) marks, eq-eqb (jobs tb) (length tb.windows) windows, lt-ltb partners (jobs tb) h))

      pub short_uppers : jobs tb ≤ partners → uppers < jobs tb → plan_verdict tb partners uppers printed work ≡ refused 8 0
      unfolding lent_verdict
      short_uppers p h = lent_refused (rw (eq-eqb (jobs tb) (length tb.bottoms) bottoms, eq-eqb (jobs tb) (length tb.marks) marks, eq-eqb (jobs tb) (length tb.windows) windows, le-ltb partners (jobs tb) p, lt-ltb uppers (jobs tb) h))

      pub short_printed : jobs tb ≤ partners → jobs tb ≤ uppers → printed < jobs tb → plan_verdict tb partners uppers printed work ≡ refused 8 0
      unfolding lent_verdict
      short_printed p u h = lent_refused (rw (eq-eqb (jobs tb) (length tb.bottoms) bottoms, eq-eqb (jobs tb) (length tb.marks) marks, eq-eqb (jobs tb) (length tb.windows) windows, le-ltb partners (jobs tb) p, le-ltb uppers (jobs tb) u, lt-ltb printed (jobs tb) h))

      -- 8: too few work cells
      pub short_work : jobs tb ≤ partners → jobs tb ≤ uppers → jobs tb ≤ printed → work < work_cells → plan_verdict tb partners uppers printed work ≡ refused 8 0
      unfolding lent_verdict
      short_work p u l h = lent_refused (rw (eq-eqb (jobs tb) (length tb.bottoms) bottoms, eq-eqb (jobs tb) (length tb.marks) marks, eq-eqb (jobs tb) (length tb.windows) windows, le-ltb partners (jobs tb) p, le-ltb uppers (jobs tb) u, le-ltb printed (jobs tb) l, lt-ltb work work_cells h))

  module _ (lent : Lent tb partners uppers printed work) where
    -- with enough lent, the table itself is judged
    sized : plan_verdict tb partners uppers printed work ≡ (refuse_if (ltb layout_limit (length tb.parents) || ltb job_limit (jobs tb)) 3 0 then tree_verdict tb.parents then jobs_verdict tb)
    unfolding plan_verdict lent_verdict
    sized = rw (eq-eqb (jobs tb) (length tb.bottoms) lent.bottoms_length, eq-eqb (jobs tb) (length tb.marks) lent.marks_length, eq-eqb (jobs tb) (length tb.windows) lent.windows_length, le-ltb partners (jobs tb) lent.partners_room, le-ltb uppers (jobs tb) lent.uppers_room, le-ltb printed (jobs tb) lent.printed_room, le-ltb work work_cells lent.work_room)

    -- 3: over the limit of jobs
    pub many_jobs : job_limit < jobs tb → plan_verdict tb partners uppers printed work ≡ refused 3 0
    many_jobs h = sized ∙ rw (lt-ltb job_limit (jobs tb) h, or-true (ltb layout_limit (length tb.parents)))

    module _ (few : jobs tb ≤ job_limit) where
      -- within it, the layouts and then the jobs
      judged : plan_verdict tb partners uppers printed work ≡ (layouts_verdict tb.parents then jobs_verdict tb)
      judged = sized ∙ rw (le-ltb job_limit (jobs tb) few, or-false (ltb layout_limit (length tb.parents))) (regrouped (refuse_if (ltb layout_limit (length tb.parents)) 3 0) (tree_verdict tb.parents) (jobs_verdict tb))
        where
          regrouped : (u v w : Verdict) → (u then v then w) ≡ ((u then v) then w)
          regrouped accepted v w = refl
          regrouped (refused number place) v w = refl

      -- 3 and 4: as in settling
      pub wrong_layouts : (number place : ℕ) → layouts_verdict tb.parents ≡ refused number place → plan_verdict tb partners uppers printed work ≡ refused number place
      wrong_layouts number place e = judged ∙ rw e

      -- of a tree, 5, 6 and 9
      pub right_layouts : layouts_verdict tb.parents ≡ accepted → plan_verdict tb partners uppers printed work ≡ jobs_verdict tb
      right_layouts e = judged ∙ rw e

  -- what passes them all is a table that can be planned
  even : lent_verdict tb partners uppers printed work ≡ accepted → (jobs tb ≡ length tb.bottoms) × (jobs tb ≡ length tb.marks) × (jobs tb ≡ length tb.windows)
  unfolding lent_verdict
  even e =
      let bottoms = not (eqb (jobs tb) (length tb.bottoms)) in
      let marks = not (eqb (jobs tb) (length tb.marks)) in
      let windows = not (eqb (jobs tb) (length tb.windows)) in
      let few = bottoms || marks || windows || ltb partners (jobs tb) || ltb uppers (jobs tb) in
      let all = or_false_both (few || ltb printed (jobs tb)) (ltb work work_cells) (not_refused (few || ltb printed (jobs tb) || ltb work work_cells) 8 0 e) in
      let results = or_false_both (bottoms || marks || windows || ltb partners (jobs tb)) (ltb uppers (jobs tb)) (or_false_both few (ltb printed (jobs tb)) all.0).0 in
      let three = or_false_both (bottoms || marks) windows (or_false_both (bottoms || marks || windows) (ltb partners (jobs tb)) results.0).0 in
      let two = or_false_both bottoms marks three.0 in (
        eqb-true (jobs tb) (length tb.bottoms) (not-false (eqb (jobs tb) (length tb.bottoms)) two.0),
        eqb-true (jobs tb) (length tb.marks) (not-false (eqb (jobs tb) (length tb.marks)) two.1),
        eqb-true (jobs tb) (length tb.windows) (not-false (eqb (jobs tb) (length tb.windows)) three.1),
      )

  pub plan_accepted : plan_verdict tb partners uppers printed work ≡ accepted → Accepted tb
  unfolding plan_verdict
  plan_accepted e =
      let many = ltb layout_limit (length tb.parents) || ltb job_limit (jobs tb) in
      let one = then_accepted (lent_verdict tb partners uppers printed work) (refuse_if many 3 0 then tree_verdict tb.parents then jobs_verdict tb) e in
      let two = then_accepted (refuse_if many 3 0) (tree_verdict tb.parents then jobs_verdict tb) one.1 in
      let three = then_accepted (tree_verdict tb.parents) (jobs_verdict tb) two.1 in
      let few = or_false_both (ltb layout_limit (length tb.parents)) (ltb job_limit (jobs tb)) (not_refused many 3 0 two.0) in
      let columns = even one.0 in
      table_accepted tb (well_formed tb.parents three.0 (ltb-false layout_limit (length tb.parents) few.0)) (ltb-false job_limit (jobs tb) few.1) (sym columns.0) (sym columns.1) (sym columns.2) three.1
