-- The groups, their number and zeros after them.
use Rattle.std.proofs.Common.{rules, ◌≤◌, ◌≡◌, refl, sym, ap, ◌∙◌, arith, length}
use Rattle.model.specs.Output.{output_bytes}
use Rattle.lines.specs.Writers.{output}
use Rattle.ancestry.specs.Room.{roomy_all}
use Rattle.group_lines.specs.OfTable.{count_small, count_room, groups_printed}
use Rattle.group_lines.proofs.print_groups.Goals as goal

pub new-common-requires-clause-roomy : goal.new-common-requires-clause-roomy
new-common-requires-clause-roomy c = roomy_all _ _ c.requires.group_plan.1.spanned.tree refl

pub put_groups-requires : goal.put_groups-requires
put_groups-requires c =
    let b = c.new-writer.ensures in
    record {
      by_index = (c.requires.group_plan.0, c.args.parents.now, c.args.groups, rw c.new-common.ensures.same_tree c.requires.group_plan.1, c.new-common.ensures.searchable);
      none_written = b.none;
      output_bytes_in_bounds = omega (arith, c.requires.output_bytes_in_bounds, ap length b.kept);
    }

pub overflow_cast-groups : goal.overflow_cast-groups
overflow_cast-groups c = let p = c.requires.group_plan in omega (arith, count_small p.0 _ _ _ _ _ _ _ p.1)

pub put_group_count-requires : goal.put_group_count-requires
put_group_count-requires c =
    let p = c.requires.group_plan in
    let long : output_bytes ≤ length (output c.new-writer.result) = omega (arith, c.requires.output_bytes_in_bounds, ap length c.new-writer.ensures.kept) in
    count_room p.0 _ _ _ _ _ _ _ p.1 _ _ _ long (c.put_groups.ensures.appended p.0 _ _ (rw c.new-common.ensures.same_tree p.1) c.new-common.ensures.searchable)

pub returns : goal.returns
returns c = λ tb p.
    let left : c.out-1.given.0 ≡ c.finish.new.self.0 = search rules in
    let put = c.put_groups.ensures.appended tb c.args.parents.now c.args.groups (rw c.new-common.ensures.same_tree p) c.new-common.ensures.searchable in
    let end = c.finish.ensures in
    groups_printed tb _ _ _ _ _ _ _ p _ _ _ _ _ _ c.requires.output_bytes_in_bounds (rw c.new-writer.ensures.kept at put) (rw (sym end.counted) at c.put_group_count.ensures.appended) (left ∙ end.holds)
