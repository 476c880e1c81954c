-- A sweep for more lanes from its first place to its last.
use Rattle.std.specs.Prelude.{ℕ, pred, ◌+◌, ◌-◌, ◌*◌, ◌<◌, ◌≤◌, ◌≡◌, true, Option, Some, None, take}
use Rattle.std.proofs.Math.Path.{refl, ap}
use Rattle.std.proofs.Common.{sym, ◌∙◌, arith, take_all, length-take-le, get_or-take, ext_get_or}
use mathlib.Core.List.{List, [], flatten, append-nil}
use Rattle.std.proofs.Math.Nat.{zero-mul}
use Rattle.std.proofs.Math.ListN.{length}
use borrow.Rule.Slice.PartMut.{put_mid}
use Rattle.model.specs.Lists.{all_of}
use Rattle.model.specs.Grouping.{all_full}
use Rattle.laws.specs.Numbers.{numbers_length}
use Rattle.matching.specs.Grouping.{grouping_done}
use Rattle.schedule.specs.Schedule.{Schedule, places, fits, groups_by_place}
use Rattle.schedule.specs.InWork.{tree_part, schedule_in}
use Rattle.sweep_laws.specs.SegmentTree.{Cleared}
use Rattle.sweep_laws.specs.Levels.{ShapeFor}
use Rattle.sweep_laws.specs.WorkCells.{FrontKept, front_refl, front_both, front_less, tree_in, TreeChanged}
use Rattle.sweep_laws.specs.Sweeping.{remaining, OnShelves}
use Rattle.sweep_laws.specs.Reaching.{shelves_kept}
use Rattle.sweep_laws.specs.MadeLaws.{remaining_end}
use Rattle.sweep_laws.specs.Sweep.{places_are, all_remain, shelves_begin, sweep_begins, tree_cleared}
use Rattle.group_sweep.specs.Grouped.{Groupable, GroupsAre, GroupSwept, GroupsUnderway, GroupSteppable, GroupStepped}
use Rattle.group_sweep.specs.declared.Progress.{Progress}

-- the sweep has come from the cells `old`, with the tree cleared, to place i, with k groups, all full
pub record GroupsTo (n g : ℕ) (starts gaps : List ℕ) (kept width : ℕ) (before old : List ℕ) (i next last k : ℕ) (members work : List ℕ) : Type 0 where
  pub within : i ≤ n
  pub long : length members ≡ length before
  pub order : FrontKept n old work
  pub underway : (s : Schedule) → OnShelves s n starts gaps old → GroupsUnderway s n g kept width 0 0 0 0 before old → GroupsUnderway s n g kept width i next last k members work

pub groups_first : (n g : ℕ) (starts gaps : List ℕ) (kept width : ℕ) (before old : List ℕ) → GroupsTo n g starts gaps kept width before old 0 0 0 0 before old
groups_first n g starts gaps kept width before old = record { within = omega arith; long = refl; order = front_refl n old; underway = λ s o u. u }

pub groups_next : (n g : ℕ) (starts gaps : List ℕ) (kept width : ℕ) (before old : List ℕ) (i next last k : ℕ) (members work : List ℕ) (p : Progress) (members' work' : List ℕ) → i < n → length members' ≡ length members
    → GroupStepped n g starts gaps kept width i next last k members work (Some p) members' work' → GroupsTo n g starts gaps kept width before old i next last k members work → GroupsTo n g starts gaps kept width before old (i + 1) p.reached.next p.reached.last.0 p.groups members' work'
groups_next n g starts gaps kept width before old i next last k members work p members' work' h same t w =
    record {
      within = omega arith;
      long = same ∙ w.long;
      order = front_both n old work work' w.order t.order;
      underway = λ s o u. t.turned s (shelves_kept s n starts gaps old work w.order o) (w.underway s o u);
    }

module _ (n g : ℕ) (starts gaps : List ℕ) (kept width : ℕ) (before work : List ℕ) (b : Groupable n g starts gaps before work) (shape : ShapeFor n kept width)
    (nodes : List ℕ) (same : length nodes ≡ length (take (length work - tree_part * n) (tree_in n work))) (h : Cleared kept width (take (length work - tree_part * n) (tree_in n work)) nodes) where
  abbrev s : Schedule
  s = schedule_in n starts work

  abbrev cleared : List ℕ
  cleared = put_mid (tree_part * n) (length work - tree_part * n) work nodes

  change : TreeChanged n kept width [] work cleared
  change = tree_cleared n starts gaps kept width work b.sweepable shape nodes same h

  shelves : OnShelves s n starts gaps cleared
  shelves = shelves_begin n starts gaps kept width work cleared b.sweepable shape change

  none_full : all_full g [] ≡ true
  unfolding all_full all_of
  none_full = refl

  none_flat : take 0 before ≡ flatten []
  unfolding flatten
  none_flat = refl

  begins : GroupsUnderway s n g kept width 0 0 0 0 before cleared
  begins =
      let u = sweep_begins n starts gaps kept width work cleared b.sweepable shape change in
      let all = all_remain n starts gaps kept width work cleared b.sweepable shape change in
      record {
        sweeping = u.sweeping;
        up_to = u.up_to;
        made = [];
        rest = unfold groups_by_place in rw all refl;
        full = none_full;
        number = refl;
        stands = rw zero-mul none_flat;
        members_length = b.members_length;
        left = rw zero-mul (omega (arith, ap length all, numbers_length (places s), places_are n starts gaps kept width work cleared b.sweepable shape change));
      }

  -- the running order stays
  swept : (new : List ℕ) → FrontKept n cleared new → (r : Option ℕ) (members : List ℕ) → GroupsAre g (groups_by_place s g) members r → GroupSwept n g starts work r members new
  swept new order r members are =
      let room : n ≤ length work = omega (arith, b.sweepable.room) in
      let f : FrontKept n work new = front_both n work cleared new (front_less n (tree_part * n) work cleared (omega arith) change.front) order in
      record {
        kept = f.same;
        order_kept = ext_get_or 0 (take n new) (take n work) (length-take-le n new (rw f.same room) ∙ sym (length-take-le n work room))
            (λ y h. let inside : y < n = rw (length-take-le n new (rw f.same room)) at h in rw (get_or-take n new y 0 inside, get_or-take n work y 0 inside) (f.kept y inside));
        groups_are = are;
      }

  module _ (i next last k : ℕ) (members new : List ℕ) (w : GroupsTo n g starts gaps kept width before cleared i next last k members new) where
    underway : GroupsUnderway s n g kept width i next last k members new
    underway = w.underway s shelves begins

    pub groups_steppable : i < n → GroupSteppable n g starts gaps kept width i next last k members new
    groups_steppable below =
        record {
          least = b.least;
          most = b.most;
          inside = below;
          schedule = s;
          shelves = shelves_kept s n starts gaps cleared new w.order shelves;
          underway = underway;
        }

    pub few_groups : (k * g ≤ n)
    few_groups = omega (arith, underway.left)

    -- all places have had their turn: the groups are all, and all are full
    pub groups_all : n ≤ i → GroupSwept n g starts work (Some k) members new
    groups_all end =
        let done : i ≡ n = omega (arith, w.within) in
        let none : remaining n new i ≡ [] = rw done (remaining_end n new) in
        let all : groups_by_place s g ≡ underway.made = underway.rest ∙ rw (none, grouping_done (pred g) (fits s)) (append-nil underway.made) in
        let whole : k * g ≡ n = omega (arith, underway.left, ap length none) in
        swept new w.order (Some k) members (
          rw all underway.full,
          rw all underway.number,
          rw all (sym (take_all (k * g) members (omega (arith, underway.members_length))) ∙ underway.stands),
        )

    -- a group is not full
    pub groups_short : (members' new' : List ℕ) → GroupStepped n g starts gaps kept width i next last k members new None members' new' → GroupSwept n g starts work None members' new'
    groups_short members' new' t = swept new' (front_both n cleared new new' w.order t.order) None members' (t.turned s (shelves_kept s n starts gaps cleared new w.order shelves) underway)
