-- `passes::make_passes` meets its contract: the prepared schedule is sound, and the sweep leaves its plan.
use mathlib.Core.Path.{refl}
use Rattle.jobs.specs.Columns.{table_with}
use Rattle.passes.specs.Making.{sweepable, pairs_few, made}
use native.Mathlib.Omega.{arith}
use Rattle.passes.proofs.make_passes.Goals as goal

pub prepare-starts-requires : goal.prepare-starts-requires
prepare-starts-requires c = record {
  accepted = c.requires.accepted;
  spanned = c.requires.spanned;
  tops_in_bounds = omega (arith, c.requires.roomy);
}

pub sweep-matched-requires : goal.sweep-matched-requires
sweep-matched-requires c =
    sweepable (table_with c.args.parents.now c.args.columns.now) c.requires.accepted _ _ _ c.prepare-starts.ensures.prepared c.args.work.now c.requires.roomy c.prepare-starts.ensures.work_len_unchanged

pub overflow_sub-result : goal.overflow_sub-result
overflow_sub-result c =
    omega (arith, pairs_few (table_with c.args.parents.now c.args.columns.now) c.requires.accepted _ _ _ _ _ _ c.prepare-starts.ensures.prepared c.sweep-matched.ensures)

pub returns-clause-made : goal.returns-clause-made
returns-clause-made c =
    let prepared = c.prepare-starts.ensures in
    rw c.from-pairs.ensures
    (made (table_with c.args.parents.now c.args.columns.now) c.requires.accepted _ _ _ _ _ _ prepared.prepared c.sweep-matched.ensures _ _ _ _ _ refl refl c.requires.spanned prepared.highests c.requires.roomy prepared.work_len_unchanged _ refl refl refl)
