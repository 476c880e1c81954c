-- Each pass is read and appended.
use Rattle.std.proofs.Common.{◌≡◌, refl, ◌∙◌, arith}
use Rattle.passes.specs.PlanPass.{plan_cells}
use Rattle.run.specs.Printing.{passes_none, passes_known, passes_room, passes_more}
use Rattle.run.proofs.print.put_passes.Goals as goal

pub loop-k-init : goal.loop-k-init
loop-k-init c = record { same = refl; appended = λ tb ps p s. passes_none tb _ _ _ _ _ _ p _ _ c.requires.none_written }

pub pass_at-pass-requires : goal.pass_at-pass-requires
pass_at-pass-requires c = let q = c.requires.by_index in (q.1, q.3, plan_cells q.0 _ _ _ _ _ _ q.2 _ c.loop-k-test.true)

pub put_pass-requires : goal.put_pass-requires
put_pass-requires c =
    let q = c.requires.by_index in
    let turn = c.loop-k-test.true in
    let read = c.pass_at-pass.ensures q.1 q.3 (plan_cells q.0 _ _ _ _ _ _ q.2 _ turn) in
    record {
      pair_known = passes_known q.0 _ _ _ _ _ _ q.2 _ turn _ read;
      pass_in_bounds = passes_room q.0 _ _ _ _ _ _ q.2 _ turn _ read _ _ _ c.requires.output_bytes_in_bounds (c.loop-k.invariant.appended q.0 q.1 q.2 q.3);
    }

pub loop-k-preserved : goal.loop-k-preserved
loop-k-preserved c =
    let i = c.loop-k.invariant in
    let turn = c.loop-k-test.true in
    record {
      same = c.put_pass.ensures.same ∙ i.same;
      appended = λ tb ps p s. passes_more tb _ _ _ _ _ _ p _ turn _ (c.pass_at-pass.ensures ps s (plan_cells tb _ _ _ _ _ _ p _ turn)) _ _ _ _ _ (i.appended tb ps p s) c.put_pass.ensures.appended;
    }

pub returns-clause-appended : goal.returns-clause-appended
returns-clause-appended c = λ tb ps p s. let end : c.loop-k.k ≡ c.args.count = omega arith in rw end at (c.loop-k.invariant.appended tb ps p s)
