-- The prepared schedule is sound, and the sweep leaves its groups.
use mathlib.Core.Path.{refl}
use native.Mathlib.Omega.{arith}
use Rattle.jobs.specs.Columns.{table_with}
use Rattle.passes.specs.Making.{sweepable}
use Rattle.groups.specs.GroupPlan.{groups_made}
use Rattle.groups.proofs.make_groups.Goals as goal

pub prepare-starts-requires : goal.prepare-starts-requires
prepare-starts-requires c = record {
  accepted = c.requires.accepted;
  spanned = c.requires.spanned;
  tops_in_bounds = omega (arith, c.requires.roomy);
}

pub group_sweep-requires : goal.group_sweep-requires
group_sweep-requires c =
    let prepared = c.prepare-starts.ensures in
    record {
      sweepable = sweepable (table_with c.args.parents.now c.args.columns.now) c.requires.accepted _ _ _ prepared.prepared c.args.work.now c.requires.roomy prepared.work_len_unchanged;
      least = c.requires.least_lanes_le_lanes;
      most = c.requires.lanes_le_most_lanes;
      members_length = prepared.highests.counted;
    }

pub returns-clause-groups_made : goal.returns-clause-groups_made
returns-clause-groups_made c =
    let prepared = c.prepare-starts.ensures in
    groups_made (table_with c.args.parents.now c.args.columns.now) c.requires.accepted _ _ _ _ _ _ _ prepared.prepared c.group_sweep.ensures _ _ _ refl refl c.requires.spanned c.requires.least_lanes_le_lanes c.requires.lanes_le_most_lanes (omega (arith, c.requires.roomy, prepared.work_len_unchanged))
