-- The segment tree for the smallest place in a span of slots (document 01, "The shelf and its cells"): node n is the parent of nodes 2n and 2n + 1, slot s at
-- width + s; a node holds the smallest place under it, FFFF for none. The uppermost levels, those in front of node `kept`, are left out. What a tree holds is
-- told by the plain list of its entries.
use Rattle.std.specs.Prelude.{ℕ, suc, ◌+◌, ◌*◌, ◌<◌, ◌≤◌, min, ◌≡◌, ◌≢◌, Bool, cond, not, ◌&&◌, length, get_or, take, drop, eqb, leb, ltb}
use mathlib.Core.List.{List, [], ◌∷◌, Memᴰ as Mem}
use Rattle.model.specs.Lists.{select, insert_by}
use Rattle.model.specs.Tree.{FFFF}
use Rattle.model.specs.Jobs.{job_limit}

-- the places by slot, FFFF where a slot holds none
unfoldable pub slots : ℕ → List ℕ → List ℕ
slots width nodes = take width (drop width nodes)

-- a place in a slot
pub record Entry : Type 0 where
  pub slot : ℕ
  pub place : ℕ

-- the entries of places by slot, from slot s on
unfoldable pub entries_from : ℕ → List ℕ → List Entry
entries_from s [] = []
entries_from s (p ∷ ps) = cond (eqb p FFFF) (entries_from (suc s) ps) (record { slot = s; place = p } ∷ entries_from (suc s) ps)

-- the plain list of (slot, place), in slot order
unfoldable pub entries : List ℕ → List Entry
entries places = entries_from 0 places

-- what a tree of so many slots holds
abbrev pub entries_in : ℕ → List ℕ → List Entry
entries_in width nodes = entries (slots width nodes)

-- the lesser slot first
unfoldable pub left_of : Entry → Entry → Bool
left_of a b = ltb a.slot b.slot

-- a place put into a slot that holds none
unfoldable pub insert_entry : ℕ → ℕ → List Entry → List Entry
insert_entry slot place es = insert_by left_of (record { slot = slot; place = place }) es

-- the entries of the other slots
unfoldable pub remove_entry : ℕ → List Entry → List Entry
remove_entry slot es = select (λ (e : Entry). not (eqb e.slot slot)) es

-- the smallest place among the entries whose slot lies from `from` up to `to`, the end itself excluded; FFFF for none
unfoldable pub smallest : List Entry → ℕ → ℕ → ℕ
smallest [] from to = FFFF
smallest (e ∷ es) from to =
    cond (leb from e.slot && ltb e.slot to) (min e.place (smallest es from to)) (smallest es from to)

-- no entry stands in the slot
abbrev pub Vacant : ℕ → List Entry → Type 0
Vacant slot es = (e : Entry) → Mem e es → e.slot ≢ slot

-- each inner node from `kept` on is the smaller of the two nodes below it; the nodes in front are not kept
pub record SegmentTree (kept width : ℕ) (nodes : List ℕ) : Type 0 where
  pub some : 1 ≤ kept
  pub within : kept ≤ width
  pub room : 2 * width ≤ length nodes
  pub inner : (n : ℕ) → kept ≤ n → n < width → get_or nodes n 0 ≡ min (get_or nodes (2 * n) 0) (get_or nodes (2 * n + 1) 0)

-- the tree holds these entries, and the cells past it are untouched
pub record Holding (kept width : ℕ) (es : List Entry) (old new : List ℕ) : Type 0 where
  pub tree : SegmentTree kept width new
  pub entries_are : entries_in width new ≡ es
  pub past : drop (2 * width) new ≡ drop (2 * width) old

-- every slot is empty
abbrev pub Cleared : ℕ → ℕ → List ℕ → List ℕ → Type 0
Cleared kept width old new = Holding kept width [] old new

-- the place stands in the slot
abbrev pub Inserted : ℕ → ℕ → List ℕ → ℕ → ℕ → List ℕ → Type 0
Inserted kept width old slot place new = Holding kept width (insert_entry slot place (entries_in width old)) old new

-- no place stands in the slot
abbrev pub Removed : ℕ → ℕ → List ℕ → ℕ → List ℕ → Type 0
Removed kept width old slot new = Holding kept width (remove_entry slot (entries_in width old)) old new

-- cells that are to be a tree
pub record Clearable (kept width : ℕ) (nodes : List ℕ) : Type 0 where
  pub some : 1 ≤ kept
  pub within : kept ≤ width
  pub room : 2 * width ≤ length nodes

-- a place, not FFFF, is to be put into a slot that holds none
pub record Insertable (kept width : ℕ) (nodes : List ℕ) (slot place : ℕ) : Type 0 where
  pub tree : SegmentTree kept width nodes
  pub inside : slot < width
  pub some_place : place < FFFF
  pub vacant : Vacant slot (entries_in width nodes)

-- the slots from `from` up to `to`, if not none, lie in the shelf of `size` slots from `base` on
pub record ShelfSpan (base size from to : ℕ) : Type 0 where
  pub few : size ≤ job_limit
  pub begins : from < to → base ≤ from
  pub ends : to ≤ base + size

-- the tree is to be searched for the slots from `from` up to `to`: they hold no place smaller than `first`, and none larger than `last`
pub record Searchable (kept width : ℕ) (nodes : List ℕ) (from to first last : ℕ) : Type 0 where
  pub tree : SegmentTree kept width nodes
  pub inside : to ≤ width
  pub some_place : first < FFFF
  pub no_smaller : (e : Entry) → Mem e (entries_in width nodes) → from ≤ e.slot → e.slot < to → first ≤ e.place
  pub no_larger : (e : Entry) → Mem e (entries_in width nodes) → from ≤ e.slot → e.slot < to → e.place ≤ last
