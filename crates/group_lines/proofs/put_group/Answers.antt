-- The jobs are appended one by one, and the bottom of each is taken in.
use Rattle.std.proofs.Common.{List, ℕ, ◌≡◌, ◌+◌, ◌-◌, ◌<◌, ◌∙◌, ap, arith, length, take, drop, get_or, length-drop, length-take-le, get_or-take, get_or-drop}
use Rattle.schedule.specs.InWork.{job_in}
use Rattle.group_lines.specs.Lines.{jobs_first, jobs_more, lowest_first, lowest_next, group_ended}
use Rattle.group_lines.proofs.put_group.Goals as goal

-- the places behind the first
abbrev behind : List ℕ → List ℕ
behind group = take (length group - 1) (drop 1 group)

behind_length : (group : List ℕ) → length (behind group) ≡ length group - 1
behind_length group = length-take-le (length group - 1) (drop 1 group) (omega (arith, length-drop 1 group))

behind_at : (group : List ℕ) (m : ℕ) → m < length (behind group) → get_or (behind group) m 0 ≡ get_or group (m + 1) 0
behind_at group m h =
    let next : 1 + m ≡ m + 1 = omega arith in
    get_or-take (length group - 1) (drop 1 group) m 0 (omega (arith, behind_length group)) ∙ get_or-drop 1 group m 0 ∙ ap (λ (n : ℕ). get_or group n 0) next

behind_inside : (group : List ℕ) (m : ℕ) → m < length (behind group) → m + 1 < length group
behind_inside group m h = omega (arith, behind_length group)

pub loop-place-init : goal.loop-place-init
loop-place-init c =
    let some = c.requires.by_index.2.some in
    record {
      within = omega (arith, some);
      same = c.put_job.ensures.same ∙ c.start_group.ensures.same;
      appended = jobs_first c.args.work.now c.args.group.now some c.start_group.ensures.appended (rw c.job_at-first.ensures at c.put_job.ensures.appended);
      lowest = λ ps s g. lowest_first _ _ ps _ _ g (c.layout_at-layout.ensures ∙ ap (λ (j : ℕ). get_or c.args.bottoms.now j 0) c.job_at-first.ensures);
    }

pub job_at-job-requires : goal.job_at-job-requires
job_at-job-requires c =
    let turn = behind_inside c.args.group.now c.loop-place.place-index c.loop-place-test.true in
    rw (behind_at c.args.group.now c.loop-place.place-index c.loop-place-test.true) (c.requires.by_index.2.place_inside _ turn)

pub layout_at-bottom-requires : goal.layout_at-bottom-requires
layout_at-bottom-requires c =
    let turn = behind_inside c.args.group.now c.loop-place.place-index c.loop-place-test.true in
    rw (c.job_at-job.ensures, behind_at c.args.group.now c.loop-place.place-index c.loop-place-test.true) (c.requires.by_index.2.job_known _ turn)

pub lowest_common-layout-requires : goal.lowest_common-layout-requires
lowest_common-layout-requires c =
    let p = c.requires.by_index in
    let turn = behind_inside c.args.group.now c.loop-place.place-index c.loop-place-test.true in
    (p.0, p.1, (c.loop-place.invariant.lowest p.0 p.1 p.2).known, rw (c.layout_at-bottom.ensures, c.job_at-job.ensures, behind_at c.args.group.now c.loop-place.place-index c.loop-place-test.true) (p.2.bottom_known _ turn))

pub loop-place-preserved : goal.loop-place-preserved
loop-place-preserved c =
    let i = c.loop-place.invariant in
    let turn = behind_inside c.args.group.now c.loop-place.place-index c.loop-place-test.true in
    let job = c.job_at-job.ensures ∙ ap (λ (p : ℕ). job_in c.args.work.now p) (behind_at c.args.group.now c.loop-place.place-index c.loop-place-test.true) in
    let bottom = c.layout_at-bottom.ensures in
    record {
      within = omega (arith, turn);
      same = c.put_job-in-loop-place.ensures.same ∙ i.same;
      appended = jobs_more c.args.work.now c.args.group.now _ turn i.appended (rw job at c.put_job-in-loop-place.ensures.appended);
      lowest = λ ps s g.
          let so_far = i.lowest ps s g in
          lowest_next c.args.work.now c.args.group.now ps c.args.bottoms.now s.spanned.tree _ turn _ _ so_far (rw (bottom, job) at (c.lowest_common-layout.ensures ps s so_far.known (rw (bottom, job) (g.bottom_known _ turn))));
    }

pub returns-clause-appended : goal.returns-clause-appended
returns-clause-appended c = λ ps s g.
    let i = c.loop-place.invariant in
    group_ended _ _ ps _ _ _ (omega (arith, i.within, c.loop-place-test.false, behind_length c.args.group.now)) i.appended (i.lowest ps s g) c.end_group.ensures.appended
