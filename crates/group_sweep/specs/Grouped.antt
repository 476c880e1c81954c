-- What a sweep for a press with g lanes makes of a schedule: the groups of the grouping rule, place by place in the members' cells, or the word that one of them is not full.
use Rattle.std.specs.Prelude.{ℕ, suc, pred, ◌+◌, ◌-◌, ◌*◌, ◌<◌, ◌≤◌, ◌≡◌, Bool, true, false, Option, Some, None, length, take}
use mathlib.Core.List.{List, ◌∷◌, ◌++◌, flatten}
use Rattle.model.specs.Lists.{without_all, first_passing}
use Rattle.model.specs.Grouping.{grouping, all_full}
use Rattle.schedule.specs.Schedule.{Schedule, fits, groups_by_place, Near}
use Rattle.schedule.specs.InWork.{schedule_in}
use Rattle.sweep_laws.specs.WorkCells.{FrontKept}
use Rattle.sweep_laws.specs.Sweeping.{Sweepable, remaining, OnShelves, Sweeping, UpTo, Asking, Turn}
use Rattle.std.specs.Option.{MatchOption}
use Rattle.group_sweep.specs.declared.Progress.{Progress}

-- what it asks: a press that there is, and a cell for each place
pub record Groupable (n g : ℕ) (starts gaps members work : List ℕ) : Type 0 where
  pub sweepable : Sweepable n starts gaps work
  pub least : 2 ≤ g
  pub most : g ≤ 8
  pub members_length : length members ≡ n

-- what it answers, for the groups gs of the rule
abbrev pub GroupsAre : ℕ → List (List ℕ) → List ℕ → Option ℕ → Type 0
GroupsAre g gs members (Some k) = (all_full g gs ≡ true) × (k ≡ length gs) × (members ≡ flatten gs)
GroupsAre g gs members None = all_full g gs ≡ false

pub record GroupSwept (n g : ℕ) (starts old : List ℕ) (r : Option ℕ) (members new : List ℕ) : Type 0 where
  pub kept : length new ≡ length old
  pub order_kept : take n new ≡ take n old
  pub groups_are : GroupsAre g (groups_by_place (schedule_in n starts old) g) members r

-- ---- what the steps promise one another

-- what place i takes, by the rule
abbrev pub got_by : Schedule → ℕ → ℕ → List ℕ → ℕ → List ℕ
got_by s n g work i = first_passing (pred g) (fits s i) (remaining n work (suc i))

-- place i has taken m − 1 mates, `got`, since the cells were `old` and the members' `before`; by the rule it takes these, and then those that it can still take
pub record SoFar (s : Schedule) (n g kept width base size i first last next to at m : ℕ) (old before work members : List ℕ) : Type 0 where
  pub got : List ℕ
  pub turn : Turn s n kept width base size i first last next to work
  pub firsts : got_by s n g old i ≡ got ++ first_passing (g - m) (fits s i) (remaining n work (suc i))
  pub others : remaining n work (suc i) ≡ without_all got (remaining n old (suc i))
  pub taken : m ≡ suc (length got)
  pub stands : take (at + m) members ≡ take at before ++ i ∷ got
  pub left : at + m + length (remaining n work (suc i)) ≡ n
  pub order : FrontKept n old work

-- place i is to take its group, into the members' cells from `at` on
pub record GroupAsking (s : Schedule) (n g : ℕ) (gaps : List ℕ) (kept width base size i first last next to at : ℕ) (members work : List ℕ) : Type 0 where
  pub asking : Asking s n kept width base size i first last next to work
  pub near : Near s gaps
  pub least : 2 ≤ g
  pub most : g ≤ 8
  pub members_length : length members ≡ n
  pub left : at + length (remaining n work i) ≡ n

-- it has taken it
pub record GroupFilled (s : Schedule) (n g kept width i next at : ℕ) (old before members new : List ℕ) : Type 0 where
  pub sweeping : Sweeping s n kept width (suc i) next new
  pub size : length (got_by s n g old i) ≡ pred g
  pub others : remaining n new (suc i) ≡ without_all (got_by s n g old i) (remaining n old (suc i))
  pub stands : take (at + g) members ≡ take at before ++ i ∷ got_by s n g old i
  pub left : at + g + length (remaining n new (suc i)) ≡ n

-- or found too few
pub record GroupTaken (s : Schedule) (n g kept width i next at : ℕ) (old before : List ℕ) (r : Bool) (members new : List ℕ) : Type 0 where
  pub full : r ≡ true → GroupFilled s n g kept width i next at old before members new
  pub short : r ≡ false → length (got_by s n g old i) < pred g
  pub order : FrontKept n old new

-- the sweep before the turn of place i, with k groups, all full
pub record GroupsUnderway (s : Schedule) (n g kept width i next last k : ℕ) (members work : List ℕ) : Type 0 where
  pub sweeping : Sweeping s n kept width i next work
  pub up_to : UpTo s n next last
  pub made : List (List ℕ)
  pub rest : groups_by_place s g ≡ made ++ grouping (pred g) (fits s) (remaining n work i)
  pub full : all_full g made ≡ true
  pub number : k ≡ length made
  pub stands : take (k * g) members ≡ flatten made
  pub members_length : length members ≡ n
  pub left : k * g + length (remaining n work i) ≡ n

-- place i is to have its turn
pub record GroupSteppable (n g : ℕ) (starts gaps : List ℕ) (kept width i next last k : ℕ) (members work : List ℕ) : Type 0 where
  pub least : 2 ≤ g
  pub most : g ≤ 8
  pub inside : i < n
  pub schedule : Schedule
  pub shelves : OnShelves schedule n starts gaps work
  pub underway : GroupsUnderway schedule n g kept width i next last k members work

-- place i has had its turn: the sweep has come further, or a group is not full
pub record GroupStepped (n g : ℕ) (starts gaps : List ℕ) (kept width i next last k : ℕ) (before old : List ℕ) (r : Option Progress) (members new : List ℕ) : Type 0 where
  pub order : FrontKept n old new
  pub turned : (s : Schedule) → OnShelves s n starts gaps old → GroupsUnderway s n g kept width i next last k before old →
      MatchOption r (all_full g (groups_by_place s g) ≡ false) (λ p. GroupsUnderway s n g kept width (i + 1) p.reached.next p.reached.last.0 p.groups members new)
