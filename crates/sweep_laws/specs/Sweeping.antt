-- The sweep over a schedule, place by place: which places are free, which wait in the segment tree, and how many of the passes are made.
use Rattle.std.specs.Prelude.{ℕ, suc, ◌+◌, ◌-◌, ◌*◌, ◌<◌, ◌≤◌, ◌^◌, ◌≡◌, ◌≢◌, Bool, true, false, ◌||◌, length, get_or, set, take, eqb, ltb}
use Rattle.std.proofs.Math.Option.{none, some}
use mathlib.Core.List.{List, ◌++◌, map, Memᴰ as Mem}
use Rattle.model.specs.Lists.{numbers_from, numbers, select, find, total}
use Rattle.model.specs.Tree.{FFFF}
use Rattle.model.specs.Jobs.{job_limit}
use Rattle.model.specs.Greedy.{Pass, greedy}
use Rattle.model.specs.Visits.{levels}
use Rattle.model.specs.Planning.{pair_count}
use Rattle.schedule.specs.Schedule.{Schedule, places, slot_at, from_at, to_at, due_at, base_at, size_at, fits, passes_by_place, visits_at, visits_of, Near, Sound}
use Rattle.schedule.specs.InWork.{slot_part, from_part, to_part, reached_part, due_part, mate_part, opener_part, tree_part, base_in, size_in, Shelved, schedule_in, pass_at}
use Rattle.sweep_laws.specs.SegmentTree.{Entry, entries_in, remove_entry, SegmentTree, Insertable, Searchable, smallest}
use Rattle.sweep_laws.specs.WorkCells.{FrontKept, tree_in, TreeChanged}

-- what a sweep of n places asks of the shelves, the gaps and the work cells
pub record Sweepable (n : ℕ) (starts gaps work : List ℕ) : Type 0 where
  pub few : n ≤ job_limit
  pub room : tree_part * n + 2 * 2 ^ levels n ≤ length work
  pub shelved : Shelved n starts work
  pub sound : Sound (schedule_in n starts work)
  pub near : Near (schedule_in n starts work) gaps

-- a place that is not taken asks, or has no mate: taking it ends its span and writes its mate into its cell
unfoldable pub free_at : ℕ → List ℕ → ℕ → Bool
free_at n work p = ltb 0 (get_or work (to_part * n + p) 0) || eqb (get_or work (mate_part * n + p) 0) FFFF

-- the places from i on that are free
unfoldable pub remaining : ℕ → List ℕ → ℕ → List ℕ
remaining n work i = select (free_at n work) (numbers_from i (n - i))

-- ---- the shelves

-- the shelf of place p can be read
abbrev pub ShelfKnown : List ℕ → ℕ → List ℕ → Type 0
ShelfKnown starts p work = (n : ℕ) × (p < n) × (n ≤ length work) × Shelved n starts work

-- it is this one
pub record ShelfAt (starts work : List ℕ) (p base size : ℕ) : Type 0 where
  pub base_is : base ≡ base_in starts work p
  pub size_is : size ≡ size_in starts work p

-- every place has a shelf, that of the schedule, and a gap
pub record OnShelves (s : Schedule) (n : ℕ) (starts gaps work : List ℕ) : Type 0 where
  pub shelved : Shelved n starts work
  pub base_at_lem : (p : ℕ) → p < n → base_in starts work p ≡ base_at s p
  pub size_at_lem : (p : ℕ) → p < n → size_in starts work p ≡ size_at s p
  pub near : Near s gaps

-- ---- the tree

module _ (s : Schedule) (n : ℕ) where
  -- an entry of the tree: a place that waits, in its slot
  pub record Stands (waits : ℕ → Type 0) (e : Entry) : Type 0 where
    pub inside : e.place < n
    pub at : e.slot ≡ slot_at s e.place
    pub waiting : waits e.place

  -- the tree holds the places that wait, and no others
  pub record Waiting (kept width : ℕ) (waits : ℕ → Type 0) (nodes : List ℕ) : Type 0 where
    pub tree : SegmentTree kept width nodes
    pub held : (q : ℕ) → q < n → waits q → Mem {A = Entry} (record { slot = slot_at s q; place = q }) (entries_in width nodes)
    pub only : (e : Entry) → Mem e (entries_in width nodes) → Stands waits e

  -- those from place i on that are free and among the first `next` that are reached
  abbrev pub Open : ℕ → ℕ → List ℕ → ℕ → Type 0
  Open i next work q = (i ≤ q) × (free_at n work q ≡ true) × Mem q (take next s.reached)

-- ---- the cells

-- a schedule of n places, and the width of their tree
pub record Setting (s : Schedule) (n width : ℕ) : Type 0 where
  pub few : n ≤ job_limit
  pub places_are : places s ≡ n
  pub sound : Sound s
  pub width_is : width ≡ 2 ^ levels n

-- the cells at the turn of place i: of the places from i on that are free they are those of the schedule
pub record Cells (s : Schedule) (n width i : ℕ) (work : List ℕ) : Type 0 where
  pub room : tree_part * n + 2 * width ≤ length work
  pub slot_cell : (p : ℕ) → p < n → get_or work (slot_part * n + p) 0 ≡ slot_at s p
  pub reached_cell : (r : ℕ) → r < length s.reached → get_or work (reached_part * n + r) 0 ≡ get_or s.reached r 0
  pub due_cell : (p : ℕ) → i ≤ p → p < n → get_or work (due_part * n + p) 0 ≡ due_at s p
  pub from_cell : (p : ℕ) → i ≤ p → p < n → free_at n work p ≡ true → get_or work (from_part * n + p) 0 ≡ from_at s p
  pub to_cell : (p : ℕ) → i ≤ p → p < n → free_at n work p ≡ true → get_or work (to_part * n + p) 0 ≡ to_at s p

-- the sweep at place i, `next` of the places that can be found being reached
pub record Sweeping (s : Schedule) (n kept width i next : ℕ) (work : List ℕ) : Type 0 where
  pub setting : Setting s n width
  pub cells : Cells s n width i work
  pub taken_reached : (q : ℕ) → i ≤ q → q < n → free_at n work q ≡ false → Mem q (take next s.reached)
  pub next_inside : next ≤ length s.reached
  pub behind : (p : ℕ) → p < i → due_at s p ≤ next
  pub ahead : (p : ℕ) → i ≤ p → p < n → next ≤ due_at s p
  pub waiting : Waiting s n kept width (Open s n i next work) (tree_in n work)

-- no place after `last` is among the first `next` that are reached
pub record UpTo (s : Schedule) (n next last : ℕ) : Type 0 where
  pub inside : last ≤ n
  pub none_later : (q : ℕ) → Mem q (take next s.reached) → q ≤ last

-- the passes made before place i stand in the cells, and the greedy rule makes the others of what remains. A lookup visits at most 49 nodes, 4k + 1 with k = 12
pub record Made (s : Schedule) (n i : ℕ) (work : List ℕ) (passes pairs visits : ℕ) : Type 0 where
  pub made : List Pass
  pub rest : passes_by_place s ≡ made ++ greedy (fits s) (remaining n work i)
  pub stands : map (pass_at n work) (numbers passes) ≡ made
  pub opener_cell : (k : ℕ) → k < passes → get_or work (opener_part * n + k) 0 < i
  pub few_passes : passes ≤ i
  pub pairs_are : pairs ≡ total pair_count made
  pub visits_are : visits ≡ total (visits_of s) made
  pub few_pairs : pairs ≤ i
  pub few_visits : visits ≤ 49 * i

-- ---- what the steps promise one another

-- the sweep before the turn of place i
pub record Underway (s : Schedule) (n kept width i next last passes pairs visits : ℕ) (work : List ℕ) : Type 0 where
  pub sweeping : Sweeping s n kept width i next work
  pub up_to : UpTo s n next last
  pub made : Made s n i work passes pairs visits

-- place i is to have its turn
abbrev pub Steppable : ℕ → List ℕ → List ℕ → ℕ → ℕ → ℕ → ℕ → ℕ → ℕ → ℕ → ℕ → List ℕ → Type 0
Steppable n starts gaps kept width i next last passes pairs visits work =
    (s : Schedule) × (i < n) × OnShelves s n starts gaps work × Underway s n kept width i next last passes pairs visits work

-- place i is free and asks for a span of its shelf that ends at `to`, with all that is due at its turn reached, up to place `last`; no later place of its shelf comes before `first`
pub record Asking (s : Schedule) (n kept width base size i first last next to : ℕ) (work : List ℕ) : Type 0 where
  pub sweeping : Sweeping s n kept width i next work
  pub inside : i < n
  pub base_is : base ≡ base_at s i
  pub size_is : size ≡ size_at s i
  pub first_inside : first < n
  pub none_before : (q : ℕ) → i < q → q < n → base_at s i ≤ slot_at s q → slot_at s q < base_at s i + size_at s i → first ≤ q
  pub up_to : UpTo s n next last
  pub next_is : next ≡ due_at s i
  pub to_is : to ≡ get_or work (to_part * n + i) 0
  pub asks : 0 < to

-- the same of a place that waits no longer: none that waits in its span comes before `first`
pub record Turn (s : Schedule) (n kept width base size i first last next to : ℕ) (work : List ℕ) : Type 0 where
  pub sweeping : Sweeping s n kept width (suc i) next work
  pub inside : i < n
  pub base_is : base ≡ base_at s i
  pub size_is : size ≡ size_at s i
  pub from_cell : get_or work (from_part * n + i) 0 ≡ from_at s i
  pub to_is : to ≡ to_at s i
  pub asks : 0 < to
  pub first_bounded : first ≤ n
  pub none_before : (q : ℕ) → q < n → Open s n (suc i) next work q → from_at s i ≤ slot_at s q → slot_at s q < to_at s i → first ≤ q
  pub up_to : UpTo s n next last
  pub next_is : next ≡ due_at s i

-- the cells with place q taken by place i: it asks nobody any more
abbrev pub taken : ℕ → ℕ → ℕ → List ℕ → List ℕ
taken n i q work = set (set work (mate_part * n + q) i) (to_part * n + q) 0

-- and with the two paired
abbrev pub paired : ℕ → ℕ → ℕ → List ℕ → List ℕ
paired n i q work = set (taken n i q work) (mate_part * n + i) q

-- place q is the first that place i can take, and the front of the cells is as told
pub record Mate (s : Schedule) (n i q : ℕ) (old told new : List ℕ) : Type 0 where
  pub inside : q < n
  pub later : i < q
  pub free : free_at n old q ≡ true
  pub first : find (fits s i) (remaining n old (suc i)) ≡ some q
  pub front : FrontKept (tree_part * n) told new

-- place i takes the greedy rule's choice, FFFF for none; it can take another then
pub record Taking (s : Schedule) (n kept width base size i last next to : ℕ) (old : List ℕ) (q : ℕ) (new : List ℕ) : Type 0 where
  pub none_found : q ≡ FFFF → (find (fits s i) (remaining n old (suc i)) ≡ none) × (new ≡ old)
  pub one_found : (q ≡ FFFF → ⊥) → Mate s n i q old (taken n i q old) new × Turn s n kept width base size i (q + 1) last next to new

-- place i has none
pub record NoMate (s : Schedule) (n i : ℕ) (old new : List ℕ) : Type 0 where
  pub unfound : find (fits s i) (remaining n old (suc i)) ≡ none
  pub front : FrontKept (tree_part * n) (set old (mate_part * n + i) FFFF) new

-- the greedy rule's choice for place i, FFFF for none, with the visits of the lookup
pub record Chosen (s : Schedule) (n kept width i next : ℕ) (old : List ℕ) (q visits : ℕ) (new : List ℕ) : Type 0 where
  pub sweeping : Sweeping s n kept width (suc i) next new
  pub visits_are : visits ≡ visits_at s i
  pub few_visits : visits ≤ 49
  pub none_found : q ≡ FFFF → NoMate s n i old new
  pub one_found : (q ≡ FFFF → ⊥) → Mate s n i q old (paired n i q old) new

-- a place that is to come into the tree
pub record PlaceInsertable (n kept width p : ℕ) (work : List ℕ) : Type 0 where
  pub inside : p < n
  pub room : tree_part * n ≤ length work
  pub insertable : Insertable kept width (tree_in n work) (get_or work (slot_part * n + p) 0) p

-- a place that is to leave the tree
pub record PlaceRemovable (n kept width p : ℕ) (work : List ℕ) : Type 0 where
  pub inside : p < n
  pub room : tree_part * n ≤ length work
  pub tree : SegmentTree kept width (tree_in n work)
  pub slot_inside : get_or work (slot_part * n + p) 0 < width

-- a mate that is found can be taken
pub record MateTakable (n kept width q : ℕ) (work : List ℕ) : Type 0 where
  pub room : tree_part * n ≤ length work
  pub inside : (q ≡ FFFF → ⊥) → q < n
  pub removable : (q ≡ FFFF → ⊥) → PlaceRemovable n kept width q work

-- place i has taken it, if one was found: it has left the tree, and has place i as its mate
pub record MateTaken (n kept width i q : ℕ) (old new : List ℕ) : Type 0 where
  pub none : q ≡ FFFF → new ≡ old
  pub one : (q ≡ FFFF → ⊥) → (between : List ℕ) × TreeChanged n kept width (remove_entry (get_or old (slot_part * n + q) 0) (entries_in width (tree_in n old))) old between × (new ≡ taken n i q between)

-- a place whose mate is to be found: none that waits in the span comes before `first` or after `last`, and each waits in its own slot. The first may
-- come after all places: then it comes after the last
pub record MateSearchable (n kept width p first last to : ℕ) (work : List ℕ) : Type 0 where
  pub few : n ≤ job_limit
  pub inside : p < n
  pub first_bounded : first ≤ n + 1
  pub last_inside : last ≤ n
  pub room : tree_part * n ≤ length work
  pub own_slot_lem : (e : Entry) → Mem e (entries_in width (tree_in n work)) → e.slot ≡ get_or work (slot_part * n + e.place) 0
  pub search : Searchable kept width (tree_in n work) (get_or work (from_part * n + p) 0) to first last

-- place p does not wait in the slots from `from` up to `to`
abbrev pub PassedBy : ℕ → ℕ → ℕ → ℕ → ℕ → List ℕ → Type 0
PassedBy n width from to p work =
    from ≤ get_or work (slot_part * n + p) 0 → get_or work (slot_part * n + p) 0 < to → get_or work (tree_part * n + width + get_or work (slot_part * n + p) 0) 0 ≢ p

-- the mate that is found
abbrev pub MateFound : ℕ → ℕ → ℕ → ℕ → List ℕ → ℕ → Type 0
MateFound n width p to work q = q ≡ smallest (entries_in width (tree_in n work)) (get_or work (from_part * n + p) 0) to

-- what is due at place i is reached, `due` in all
pub record ReachedAt (n kept width i next last : ℕ) (old : List ℕ) (due last' : ℕ) (new : List ℕ) : Type 0 where
  pub front : FrontKept (tree_part * n) old new
  pub reached : (s : Schedule) → i < n → Sweeping s n kept width i next old → UpTo s n next last → (due ≡ due_at s i) × Sweeping s n kept width i due new × UpTo s n due last'

-- place i has had its turn; the jobs and windows by place stay
pub record SteppedFrom (n : ℕ) (starts gaps : List ℕ) (kept width i next last passes pairs visits : ℕ) (old : List ℕ) (next' last' passes' pairs' visits' : ℕ) (new : List ℕ) : Type 0 where
  pub order : FrontKept n old new
  pub stepped : (s : Schedule) → OnShelves s n starts gaps old → Underway s n kept width i next last passes pairs visits old → Underway s n kept width (i + 1) next' last' passes' pairs' visits' new
