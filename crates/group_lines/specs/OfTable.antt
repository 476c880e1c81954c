-- Group k of an accepted table, as it is read off the members' cells: its line is that of the grouping, and the lines of all groups have room.
use Rattle.std.specs.Prelude.{ℕ, suc, pred, ◌+◌, ◌-◌, ◌*◌, ◌≤◌, ◌<◌, ◌≡◌, true, length, get_or, drop, replicate, T}
use Rattle.std.specs.Borrow.{MutBor}
use Rattle.std.proofs.Math.Path.{refl, sym}
use Rattle.std.proofs.Common.{ap, ◌∙◌, zero-mul, suc-mul, mul-le-mul_right, mul-le-mul_left, arith, take-suc, get_or-take, get_or-drop}
use mathlib.Core.List.{List, [], ◌∷◌, ◌++◌, map, flat_map, flatten, Memᴰ as Mem}
use Rattle.std.proofs.Math.Decide.{dec_lt}
use Rattle.std.proofs.Math.ListN.{take, get_or-map}
use Rattle.std.proofs.lemmas.List.{length-map}
use Rattle.std.proofs.Math.Seq.{take_all}
use Rattle.model.specs.Lists.{elem, numbers, All}
use Rattle.model.specs.Jobs.{Table, jobs, bottom, path}
use Rattle.model.specs.Grouping.{Group, all_full, groups_of, deepest_common}
use Rattle.model.specs.Output.{hex, line, group_line, group_count_line, group_bytes, output_bytes}
use Rattle.laws.specs.Lists.{all_mem, at_all, mem_all, all_imply, get_d_mem, flat_agree, flat_map_map, flat_more}
use Rattle.laws.specs.Numbers.{numbers_mem, numbers_distinct, numbers_length}
use Rattle.laws.specs.Counting.{count_length_all}
use Rattle.tree_laws.specs.Sharing.{Downward, On, own_on}
use Rattle.ancestry.specs.Ancestry.{LowestOf, lowest_common}
use Rattle.settle.specs.declared.SettledTree.{SettledTree}
use Rattle.matching.specs.Grouping.{grouping_run, run_count, run_mem}
use Rattle.matching.specs.FullGroupings.{layout_own, full_grouping}
use Rattle.schedule.specs.Schedule.{places, fits, groups_by_place}
use Rattle.schedule.specs.InWork.{job_in}
use Rattle.schedule.specs.OfTable.{job_at, schedule_of}
use Rattle.schedule_laws.specs.Places.{job_known, job_in_lem}
use Rattle.schedule_laws.proofs.Theorem.{places_are, schedule_groups}
use Rattle.groups.specs.GroupPlan.{GroupPlan, same_full, same_count, flatten_part, flatten_length}
use Rattle.lines.specs.declared.Writer.{Writer}
use Rattle.lines.specs.Writing.{Appended, Printed, printed_all}
use Rattle.lines.specs.Writers.{written, output, Begun, Put, Cleared, printed_by}
use Rattle.group_lines.specs.Lines.{bottom_at, job_digits, GroupCells, GroupAppended}

-- the lines of the first k groups stand in front of r
pub record GroupsAppended (tb : Table) (g k : ℕ) (out : List ℕ) (r : ℕ) (out' : List ℕ) : Type 0 where
  pub sized : length out' ≡ length out
  pub counted : r ≡ 4 * (k * g) + 7 * k
  pub holds : take r out' ≡ flat_map (group_line tb) (take k (groups_of tb g))

pub groups_none : (tb : Table) (g : ℕ) (out : List ℕ) (r : ℕ) → r ≡ 0 → GroupsAppended tb g 0 out r out
unfolding flat_map
groups_none tb g out r e = record { sized = refl; counted = omega (arith, zero-mul g); holds = rw e refl }

module _ (tb : Table) (g : ℕ) (ps : List ℕ) (tree : SettledTree) (members bottoms work : List ℕ) (count : ℕ) (p : GroupPlan tb g ps tree members bottoms work count) where
  abbrev by_place : List (List ℕ)
  by_place = groups_by_place (schedule_of tb) g

  full_by_place : all_full g by_place ≡ true
  full_by_place = same_full tb p.table g ∙ p.full

  count_by_place : length by_place ≡ count
  count_by_place = same_count tb p.table g ∙ sym p.count_is

  -- ---- how many there are

  members_length : length members ≡ count * g
  members_length = ap length p.members_are ∙ flatten_length g by_place full_by_place ∙ ap (λ (n : ℕ). n * g) count_by_place

  -- each job stands in a group
  all_grouped : length (flatten by_place) ≡ jobs tb
  unfolding groups_by_place
  all_grouped =
      sym (count_length_all (flatten by_place))
      ∙ run_count (pred g) (fits (schedule_of tb)) (λ (q : ℕ). true) (grouping_run (pred g) (fits (schedule_of tb)) (numbers (places (schedule_of tb)))) (numbers_distinct (places (schedule_of tb)))
      ∙ count_length_all (numbers (places (schedule_of tb)))
      ∙ numbers_length (places (schedule_of tb))
      ∙ places_are tb

  few_members : count * g ≤ 4096
  few_members = omega (arith, sym members_length, ap length p.members_are, all_grouped, p.table.few)

  few_groups : count * 2 ≤ 4096
  few_groups = omega (arith, few_members, mul-le-mul_left count p.least)

  pub count_small : count < 65536
  count_small = omega (arith, few_groups)

  member_known : {q : ℕ} → Mem q members → q < jobs tb
  unfolding groups_by_place
  member_known m =
      rw (places_are tb) at (numbers_mem (places (schedule_of tb)) (run_mem (pred g) (fits (schedule_of tb)) (grouping_run (pred g) (fits (schedule_of tb)) (numbers (places (schedule_of tb)))) (rw p.members_are at m)))

  -- a group that begins among the members is one of them
  pub turn_within : (k : ℕ) → k * g < length members → k < count
  turn_within k h = elim (dec_lt k count) [
    | yes l ↦ l
    | no l ↦ let all : count * g ≤ k * g = mul-le-mul_right g (omega arith) in absurd (omega (arith, members_length, all))
  ]

  pub part_inside : (k : ℕ) → k < count → k * g + g ≤ length members
  part_inside k h = let more : suc k * g ≤ count * g = mul-le-mul_right g h in omega (arith, members_length, more, suc-mul k g)

  -- and where no group is left, all of them went before
  pub turn_last : (k : ℕ) → k * g ≤ length members → length members < k * g + g → k ≡ count
  turn_last k l m = elim (dec_lt k count) [
    | yes h ↦ absurd (omega (arith, part_inside k h))
    | no h ↦ elim (dec_lt count k) [
      | yes e ↦ let more : suc count * g ≤ k * g = mul-le-mul_right g e in absurd (omega (arith, members_length, more, suc-mul count g, p.least))
      | no e ↦ omega arith
    ]
  ]

  -- ---- group k

  module _ (k : ℕ) (h : k < count) where
    abbrev group : List ℕ
    group = get_or by_place k []

    part_is : take g (drop (k * g) members) ≡ group
    part_is = ap (λ (l : List ℕ). take g (drop (k * g) l)) p.members_are ∙ flatten_part g by_place k full_by_place (rw count_by_place h)

    -- by job
    group_jobs : map (job_at tb) group ≡ get_or (groups_of tb g) k []
    group_jobs = sym (get_or-map (map (job_at tb)) by_place k []) ∙ ap (λ (gs : List (List ℕ)). get_or gs k []) (schedule_groups tb p.table g)

    is_group : Group tb g (map (job_at tb) group)
    is_group = rw group_jobs (all_mem (Group tb g) (full_grouping tb p.table.tree p.table.downward g p.least p.full).each (get_d_mem (groups_of tb g) k [] (rw p.count_is at h)))

    group_length : length group ≡ g
    group_length = sym (length-map group (job_at tb)) ∙ is_group.full

    place_known : (m : ℕ) → m < length group → get_or group m 0 < jobs tb
    place_known m l =
        let at : get_or group m 0 ≡ get_or members (k * g + m) 0 = ap (λ (l : List ℕ). get_or l m 0) (sym part_is) ∙ get_or-take g (drop (k * g) members) m 0 (rw group_length at l) ∙ get_or-drop (k * g) members m 0 in
        rw at (member_known (get_d_mem members (k * g + m) 0 (omega (arith, part_inside k h, group_length))))

    job_is : (q : ℕ) → q < jobs tb → job_in work q ≡ job_at tb q
    job_is q l = job_in_lem tb p.table.few work p.order_is q l

    places_known : All (λ (q : ℕ). q < jobs tb) group
    places_known = at_all (λ (q : ℕ). q < jobs tb) group 0 place_known

    group_cells : GroupCells ps bottoms work group
    group_cells =
        record {
          some = omega (arith, group_length, p.least);
          place_inside = λ m l. omega (arith, place_known m l, p.room);
          job_known = λ m l. rw (job_is (get_or group m 0) (place_known m l), ← p.bottoms_are, p.table.bottoms_length) (job_known tb (get_or group m 0) (place_known m l));
          bottom_known = λ m l. rw (job_is (get_or group m 0) (place_known m l), ← p.bottoms_are, ← p.parents_are) (p.table.bottom_known (job_at tb (get_or group m 0)) (job_known tb (get_or group m 0) (place_known m l)));
        }

    -- the part of the members that it stands in
    pub part_cells : GroupCells ps bottoms work (take g (drop (k * g) members))
    part_cells = rw part_is group_cells

    pub part_length : length (take g (drop (k * g) members)) ≡ g
    part_length = rw part_is group_length

    -- its digits and its bottoms are those of its jobs
    digits_are : job_digits work group ≡ flat_map (hex 4) (map (job_at tb) group)
    digits_are = flat_agree (λ (q : ℕ). hex 4 (job_in work q)) (λ (q : ℕ). hex 4 (job_at tb q)) group (λ q m. ap (hex 4) (job_is q (all_mem (λ (q : ℕ). q < jobs tb) places_known m))) ∙ sym (flat_map_map (hex 4) (job_at tb) group)

    bottoms_are : map (bottom_at bottoms work) group ≡ map (bottom tb) (map (job_at tb) group)
    bottoms_are = map_agree group places_known
      where
        map_agree : (l : List ℕ) → All (λ (q : ℕ). q < jobs tb) l → map (bottom_at bottoms work) l ≡ map (bottom tb) (map (job_at tb) l)
        map_agree [] a = refl
        map_agree (q ∷ l) a =
            ap (λ (x : ℕ). x ∷ map (bottom_at bottoms work) l) (ap (λ (j : ℕ). get_or bottoms j 0) (job_is q a.0) ∙ ap (λ (b : List ℕ). get_or b (job_at tb q) 0) (sym p.bottoms_are))
            ∙ ap (λ (xs : List ℕ). bottom tb (job_at tb q) ∷ xs) (map_agree l a.1)

    -- the lowest common ancestor of its bottoms is its deepest common layout
    layout_is : (layout : ℕ) → LowestOf ps (map (bottom_at bottoms work) group) layout → layout ≡ deepest_common tb (map (job_at tb) group)
    layout_is layout l = go (map (job_at tb) group) is_group (rw (bottoms_are, ← p.parents_are) at l)
      where
        go : (js : List ℕ) → Group tb g js → LowestOf tb.parents (map (bottom tb) js) layout → layout ≡ deepest_common tb js
        go [] o l = absurd (omega (arith, o.full, p.least))
        go (i ∷ js) o l =
            let x : ℕ = o.one_layout.0 in
            lowest_common tb p.table.tree i js
            (all_imply (λ (j : ℕ). j < jobs tb) (Downward tb) (i ∷ js) (λ j h. p.table.downward j h) o.known)
            x (mem_all (On tb x) (i ∷ js) (λ j m. own_on tb p.table.tree j (p.table.downward j (all_mem (λ (j : ℕ). j < jobs tb) o.known m)) (layout_own tb j o.one_layout.1 (all_mem (λ (j : ℕ). T (elem x (path tb j))) o.one_layout.2 m))))
            layout l

    -- so the line that is appended is its line
    line_is : (layout : ℕ) → LowestOf ps (map (bottom_at bottoms work) group) layout → line (hex 2 0x13 ++ (job_digits work group ++ hex 4 layout)) ≡ group_line tb (get_or (groups_of tb g) k [])
    unfolding group_line
    line_is layout l = rw (← group_jobs, digits_are, layout_is layout l) refl

    next : take (suc k) (groups_of tb g) ≡ take k (groups_of tb g) ++ get_or (groups_of tb g) k [] ∷ []
    next = take-suc (groups_of tb g) k [] (rw p.count_is at h)

    -- two jobs and more take 4 bytes each, and 7 more: there is room
    pub group_room : (out out₁ : List ℕ) (at : ℕ) → output_bytes ≤ length out → GroupsAppended tb g k out at out₁ → at + (4 * g + 7) ≤ length out₁
    group_room out out₁ at long s = omega (arith, s.counted, s.sized, part_inside k h, members_length, few_members, few_groups)

    pub groups_more : (out out₁ out₂ : List ℕ) (at r : ℕ) → GroupsAppended tb g k out at out₁ → GroupAppended ps bottoms work (take g (drop (k * g) members)) at out₁ r out₂ → GroupsAppended tb g (suc k) out r out₂
    groups_more out out₁ out₂ at r s o =
        let l : GroupAppended ps bottoms work group at out₁ r out₂ = rw part_is at o in
        record {
          sized = l.appended.sized ∙ s.sized;
          counted = omega (arith, l.appended.moved, s.counted, group_length, suc-mul k g);
          holds = l.appended.holds ∙ rw (s.holds, line_is l.layout l.lowest) (sym (ap (flat_map (group_line tb)) next ∙ flat_more (group_line tb) (take k (groups_of tb g)) (get_or (groups_of tb g) k [])));
        }

  -- ---- all groups

  -- the number of groups has room, and the whole is printed
  pub count_room : (out : List ℕ) (r : ℕ) (out' : List ℕ) → output_bytes ≤ length out → GroupsAppended tb g count out r out' → r + 7 ≤ length out'
  count_room out r out' long s = omega (arith, s.counted, s.sized, few_members, few_groups)

  -- what they leave in front of r is the grouping
  groups_held : {out out₁ out₂ : List ℕ} {at r : ℕ} → GroupsAppended tb g count out at out₁ → Appended 7 at (group_count_line count) out₁ r out₂ → take r out₂ ≡ group_bytes g tb
  unfolding group_bytes
  groups_held s l =
      let all : take count (groups_of tb g) ≡ groups_of tb g = take_all count (groups_of tb g) (omega (arith, p.count_is)) in
      l.holds ∙ rw (s.holds, all, ← p.count_is) refl

  pub groups_printed : (out out₁ out₂ out₃ : List ℕ) (at r : ℕ) → output_bytes ≤ length out → GroupsAppended tb g count out at out₁ → Appended 7 at (group_count_line count) out₁ r out₂ → out₃ ≡ take r out₂ ++ replicate (length out₂ - r) 0 → Printed (group_bytes g tb) out r out₃
  groups_printed out out₁ out₂ out₃ at r long s l z = printed_all (group_bytes g tb) out r out₂ out₃ (l.sized ∙ s.sized) (omega (arith, count_room out at out₁ long s, l.moved, l.sized)) (groups_held s l) z

  -- the same, by way of a writer
  pub groups_put : {r : ℕ} {left out' : List ℕ} {out : MutBor (List ℕ)} {w w₁ w₂ : Writer} → Begun out w → GroupsAppended tb g count (output w) (written w₁) (output w₁) → Put 7 (group_count_line count) w₁ w₂ → Cleared w₂ r left → out' ≡ left → Printed (group_bytes g tb) out.now r out'
  groups_put b s l z e = printed_by b (l.appended.sized ∙ s.sized) (groups_held s l.appended) z e
