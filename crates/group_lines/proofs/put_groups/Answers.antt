-- Each part of the members that is a group is appended.
use Rattle.std.proofs.Common.{List, ℕ, suc, ◌≡◌, ◌+◌, ◌*◌, ◌<◌, ◌≤◌, ◌++◌, refl, ◌∙◌, sym, ap, arith, zero-mul, suc-mul, length, take, drop, length-drop, length-append, take_at, drop_at, drop-drop}
use Rattle.model.specs.Jobs.{Table}
use Rattle.settle.specs.declared.SettledTree.{SettledTree}
use Rattle.groups.specs.GroupPlan.{GroupPlan}
use Rattle.group_lines.specs.OfTable.{groups_none, turn_within, turn_last, part_cells, group_room, groups_more}
use Rattle.group_lines.proofs.put_groups.Goals as goal

-- what is taken of the rest of the members is the part of that group, and the others are left
module _ (g : ℕ) (members : List ℕ) (groups : ℕ) (left part : List ℕ) {rest : List ℕ} (rest_is : rest ≡ drop (groups * g) members) (parted : rest ≡ part ++ left) (size : length part ≡ g) where
  part_of : part ≡ take g (drop (groups * g) members)
  part_of = sym (take_at part left g size) ∙ ap (take g) (sym parted ∙ rest_is)

  left_of : left ≡ drop (suc groups * g) members
  left_of =
      let next : groups * g + g ≡ suc groups * g = sym (suc-mul groups g) in
      sym (drop_at part left g size) ∙ ap (drop g) (sym parted ∙ rest_is) ∙ drop-drop g (groups * g) members ∙ ap (λ (n : ℕ). drop n members) next

  inside : groups * g ≤ length members → groups * g + g ≤ length members
  inside h = omega (arith, length-append part left, ap length parted, ap length rest_is, length-drop (groups * g) members)

  turn_of : (tb : Table) (ps : List ℕ) (tree : SettledTree) (bottoms work : List ℕ) (count : ℕ) → GroupPlan tb g ps tree members bottoms work count → groups * g ≤ length members → groups < count
  turn_of tb ps tree bottoms work count p h = turn_within tb g ps tree members bottoms work count p groups (omega (arith, inside h, p.least))

pub loop-group-init : goal.loop-group-init
loop-group-init c =
    let none : 0 * c.args.lanes.0 ≡ 0 = zero-mul c.args.lanes.0 in
    record {
      groups = 0;
      within = omega (arith, none);
      rest = rw (c.into_iter-group-iterator.ensures.into_iter_gives, none) c.chunks_exact-group-items.ensures.rest;
      size = rw c.into_iter-group-iterator.ensures.into_iter_gives c.chunks_exact-group-items.ensures.size;
      same = refl;
      appended = λ tb ps count p s. groups_none tb _ _ _ c.requires.none_written;
    }

pub put_group-requires : goal.put_group-requires
put_group-requires c =
    let q = c.requires.by_index in
    let i = c.loop-group.invariant in
    let step = c.in-Some.ensures.steps in
    let size = step.1.1 ∙ i.size in
    let turn = turn_of _ _ i.groups _ _ i.rest step.1.0 size q.0 q.1 _ _ _ q.2 q.3 i.within in
    let whole = part_of _ _ i.groups _ _ i.rest step.1.0 size in
    record {
      by_index = (q.1, q.4, rw whole (part_cells q.0 _ q.1 _ _ _ _ q.2 q.3 i.groups turn));
      group_in_bounds = rw size (group_room q.0 _ q.1 _ _ _ _ q.2 q.3 i.groups turn _ _ _ c.requires.output_bytes_in_bounds (i.appended q.0 q.1 q.2 q.3 q.4));
    }

pub loop-group-preserved : goal.loop-group-preserved
loop-group-preserved c =
    let i = c.loop-group.invariant in
    let step = c.in-Some.ensures.steps in
    let size = step.1.1 ∙ i.size in
    let whole = part_of _ _ i.groups _ _ i.rest step.1.0 size in
    record {
      groups = suc i.groups;
      within = omega (arith, inside _ _ i.groups _ _ i.rest step.1.0 size i.within, suc-mul i.groups c.args.lanes.0);
      rest = left_of _ _ i.groups _ _ i.rest step.1.0 size;
      size = step.0 ∙ i.size;
      same = c.put_group.ensures.same ∙ i.same;
      appended = λ tb ps count p s.
          let turn : i.groups < count = turn_of _ _ i.groups _ _ i.rest step.1.0 size tb ps _ _ _ count p i.within in
          groups_more tb _ ps _ _ _ _ count p i.groups turn _ _ _ _ _ (i.appended tb ps count p s) (rw whole at (c.put_group.ensures.appended ps s (rw whole (part_cells tb _ ps _ _ _ _ count p i.groups turn))));
    }

pub returns-clause-appended : goal.returns-clause-appended
returns-clause-appended c = λ tb ps count p s.
    let i = c.loop-group.invariant in
    let ended = c.in-None.ensures.steps in
    let last : length c.args.members.now < i.groups * c.args.lanes.0 + c.args.lanes.0 = omega (arith, ended.1.0, i.size, ap length i.rest, length-drop (i.groups * c.args.lanes.0) c.args.members.now) in
    let all : i.groups ≡ count = turn_last tb _ ps _ _ _ _ count p i.groups i.within last in
    rw all at (i.appended tb ps count p s)
