-- Laws of the verdict on the layouts, refusal by refusal, and of a settled tree.
use Prim.Native.Nat.{ℕ, ◌<◌, ◌≤◌}
use mathlib.Core.Path.{◌≡◌, refl, sym, ◌∙◌}
use mathlib.Core.Bool.{and-true}
use mathlib.Core.List.{List, [], ◌∷◌}
use native.Mathlib.Omega.{arith}
use lib.ListN.{length, get_or, replicate, get_or-replicate}
use Rattle.std.specs.Prelude.{Option, Some, None, ltb}
use Rattle.model.specs.Verdict.{refused, answer, gives, refuses}
use Rattle.model.specs.Tree.{FFFF, layout_limit, layouts_from, tree_verdict, first_leaf, last_leaf}
use Rattle.model.specs.declared.LayoutNumber.{LayoutNumber}
use Rattle.tree_laws.specs.WellFormed.{Tree}
use Rattle.tree_laws.specs.Ancestors.{true_ancestor, ancestor_root}
use Rattle.tree_laws.specs.Leaves.{first_root}
use Rattle.settle.specs.declared.SettledTree.{SettledTree}
use Rattle.settle.specs.declared.Links.{Links}
use Rattle.settle.specs.Spanned.{WaysUp, Spanned}
use Rattle.settle.specs.Checked.{layouts_verdict, over_limit, within_limit}
use Rattle.settle.specs.Numbering.{wrong_at, FirstWrong, Unlinked, Linked, Stamped, below, in_subtree, Numberable, Numbered}
use Rattle.settle.specs.Stamps.{stamped_as, stamped_at}

-- a list with a layout is judged layout by layout
tree_layouts : (ps : List ℕ) → ((length ps ≡ 0) → ⊥) → tree_verdict ps ≡ layouts_from 0 ps
unfolding tree_verdict
tree_layouts [] f = absurd (f refl)
tree_layouts (p ∷ ps) f = refl

tree_empty : (ps : List ℕ) → length ps ≡ 0 → tree_verdict ps ≡ refused 4 0
unfolding tree_verdict
tree_empty [] e = refl
tree_empty (p ∷ ps) e = let z : ⊥ = omega arith in absurd z

-- ---- the verdict on the layouts

module _ (ps : List ℕ) where
  pub too_many : layout_limit < length ps → refuses 3 0 ≡ answer (layouts_verdict ps) []
  too_many m = rw (over_limit ps m)

  pub no_layouts : length ps ≡ 0 → refuses 4 0 ≡ answer (layouts_verdict ps) []
  no_layouts e = rw (within_limit ps (omega arith) ∙ tree_empty ps e)

  module _ (m : length ps ≤ layout_limit) (some : (length ps ≡ 0) → ⊥) (r : Option LayoutNumber) (w : FirstWrong ps r) where
    scanned : layouts_verdict ps ≡ wrong_at r
    scanned = within_limit ps m ∙ tree_layouts ps some ∙ w.verdict

    pub wrong_layout : (x : LayoutNumber) → r ≡ Some x → refuses 4 x.0 ≡ answer (layouts_verdict ps) []
    wrong_layout x e = rw (scanned, e)

    pub all_right : r ≡ None → gives [] ≡ answer (layouts_verdict ps) []
    all_right e = rw (scanned, e)

-- ---- a settled tree

-- fresh links
pub unlinked : (ps : List ℕ) → length ps ≤ layout_limit → Unlinked ps (record { first_children = replicate layout_limit FFFF; next_siblings = replicate layout_limit FFFF })
unlinked ps h = record { empty = λ x inside. get_or-replicate layout_limit x FFFF 0 (omega arith) }

-- numbering begins at layout 0
pub root_numberable : (ps : List ℕ) (links : Links) → Tree ps → Linked ps links → Numberable ps links 0 0
root_numberable ps links t l = record { tree = t; linked = l; known = t.nonempty; start = sym (first_root ps t) }

-- ways up first, then the leaves of layout 0 and its descendants, which are all layouts
module _ (ps : List ℕ) (t : Tree ps) (deep new : SettledTree) (w : WaysUp ps (length ps) deep) (r : ℕ) (n : Numbered ps (in_subtree ps 0) 0 deep r new) where
  every : (y : ℕ) → in_subtree ps 0 y ≡ below (length ps) y
  every y = rw (true_ancestor ps t (ancestor_root ps t y)) (and-true (ltb y (length ps)))

  leaf_at : (f : ℕ → ℕ) (old cells : List ℕ) → Stamped (in_subtree ps 0) f old cells → (x : ℕ) → x < length ps → get_or cells x 0 ≡ f x
  leaf_at f old cells s = stamped_at (length ps) f old cells (stamped_as (in_subtree ps 0) (below (length ps)) f old cells every s)

  pub tree_spanned : Spanned ps new
  tree_spanned =
      record {
        tree = t;
        depth_at = λ x h. rw n.depths_kept (w.depth_at x h);
        branch_at = λ x h. rw n.branches_kept (w.branch_at x h);
        first_at = leaf_at (first_leaf ps) deep.first_leaves new.first_leaves n.firsts_hold;
        last_at = leaf_at (last_leaf ps) deep.last_leaves new.last_leaves n.lasts_hold;
      }
