-- What the steps of settling promise one another: how far the layouts are right, how children are linked, and which cells are written.
use Rattle.std.specs.Prelude.{ℕ, suc, ◌+◌, ◌-◌, ◌<◌, ◌≡◌, Bool, cond, not, ◌&&◌, Option, Some, None, length, get_or, eqb, ltb}
use mathlib.Core.List.{List, head_d}
use Rattle.model.specs.Lists.{numbers_from, select}
use Rattle.model.specs.Verdict.{Verdict, accepted, refused}
use Rattle.model.specs.Tree.{FFFF, layouts_from, ancestor_or_self, leaves, first_leaf, last_leaf}
use Rattle.model.specs.declared.LayoutNumber.{LayoutNumber}
use Rattle.tree_laws.specs.WellFormed.{Tree}
use Rattle.settle.specs.declared.SettledTree.{SettledTree}
use Rattle.settle.specs.declared.Links.{Links}

-- refusal 4 at that layout, if there is one
abbrev pub wrong_at : Option LayoutNumber → Verdict
wrong_at (Some x) = refused 4 x.0
wrong_at None = accepted

-- r is the first layout with a wrong parent, if there is one
pub record FirstWrong (ps : List ℕ) (r : Option LayoutNumber) : Type 0 where
  pub verdict : layouts_from 0 ps ≡ wrong_at r

-- ---- links

-- y is a child of x
abbrev pub is_child : List ℕ → ℕ → ℕ → Bool
is_child ps x y = eqb (get_or ps y FFFF) x

-- the children of x from number k on
unfoldable pub children_from : List ℕ → ℕ → ℕ → List ℕ
children_from ps x k = select (is_child ps x) (numbers_from k (length ps - k))

-- the layout that a link leads to; FFFF leads to none
abbrev pub linked_layout : ℕ → Option LayoutNumber
linked_layout link = cond (eqb link FFFF) None (Some (record { 0 = link }))

-- the link to a layout, or to none
abbrev pub link_to : Option LayoutNumber → ℕ
link_to (Some x) = x.0
link_to None = FFFF

-- the links lead from each layout to its first child, and from each child to the next child of the same parent; FFFF ends them
pub record Linked (ps : List ℕ) (links : Links) : Type 0 where
  pub child_at : (x : ℕ) → x < length ps → get_or links.first_children x 0 ≡ head_d (children_from ps x 0) FFFF
  pub sibling_at : (y : ℕ) → 0 < y → y < length ps → get_or links.next_siblings y 0 ≡ head_d (children_from ps (get_or ps y 0) (suc y)) FFFF

-- what linking is lent: links, none of them set
pub record Unlinked (ps : List ℕ) (links : Links) : Type 0 where
  pub empty : (x : ℕ) → x < length ps → get_or links.first_children x 0 ≡ FFFF

-- ---- cells written

-- new holds f at the cells that pass the test, and what old held elsewhere
abbrev pub Stamped : (ℕ → Bool) → (ℕ → ℕ) → List ℕ → List ℕ → Type 0
Stamped p f old new = (y : ℕ) → get_or new y 0 ≡ cond (p y) (f y) (get_or old y 0)

-- y is one of the first n
abbrev pub below : ℕ → ℕ → Bool
below n y = ltb y n

-- y is x or a descendant of it
abbrev pub in_subtree : List ℕ → ℕ → ℕ → Bool
in_subtree ps x y = ltb y (length ps) && ancestor_or_self ps x y

-- y is a descendant of x
abbrev pub properly_in_subtree : List ℕ → ℕ → ℕ → Bool
properly_in_subtree ps x y = in_subtree ps x y && not (eqb y x)

-- ---- numbering

-- what numbering from x on is lent: a tree, its links, and the number of x's first leaf
pub record Numberable (ps : List ℕ) (links : Links) (x next : ℕ) : Type 0 where
  pub tree : Tree ps
  pub linked : Linked ps links
  pub known : x < length ps
  pub start : next ≡ first_leaf ps x

-- first and last leaf of the layouts that pass the test are written, no way up is, and r is the number after the last leaf of x
pub record Numbered (ps : List ℕ) (p : ℕ → Bool) (x : ℕ) (old : SettledTree) (r : ℕ) (new : SettledTree) : Type 0 where
  pub after : r ≡ first_leaf ps x + length (leaves ps x)
  pub depths_kept : new.depths ≡ old.depths
  pub branches_kept : new.branches ≡ old.branches
  pub firsts_hold : Stamped p (first_leaf ps) old.first_leaves new.first_leaves
  pub lasts_hold : Stamped p (last_leaf ps) old.last_leaves new.last_leaves

-- the links are those of some tree, which no code holds
abbrev pub SomeNumberable : Links → ℕ → ℕ → Type 0
SomeNumberable links x next = (ps : List ℕ) × Numberable ps links x next

-- whichever tree the links are of, its layouts that pass the test of x are numbered
abbrev pub EachNumbered : (List ℕ → ℕ → ℕ → Bool) → Links → ℕ → ℕ → SettledTree → ℕ → SettledTree → Type 0
EachNumbered p links x next old r new = (ps : List ℕ) → Numberable ps links x next → Numbered ps (p ps x) x old r new
