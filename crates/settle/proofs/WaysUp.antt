-- Laws of the ways up set so far.
use Prim.Native.Nat.{ℕ, ◌+◌, ◌<◌, ◌≤◌}
use mathlib.Core.Path.{◌≡◌, sym, ◌∙◌}
use mathlib.Core.List.{List}
use native.Mathlib.Omega.{arith}
use native.Mathlib.Decide.{ℕ_discrete}
use lib.ListN.{length, get_or, set}
use lib.Seq.{get_or-set_same, get_or-set_other}
use borrow.Author.Tests.{ne_eqb}
use Rattle.model.specs.Tree.{layout_limit, depth}
use Rattle.tree_laws.specs.WellFormed.{Tree}
use Rattle.tree_laws.specs.Ancestors.{depth_root, depth_child, depth_le}
use Rattle.tree_laws.specs.Branches.{branch, branch_root, branch_child, branch_parent, branch_ancestor}
use Rattle.settle.specs.declared.SettledTree.{SettledTree}
use Rattle.settle.specs.Spanned.{branch_below, WaysUp}

-- those of the first x layouts, of at least one
pub record WaysBelow (ps : List ℕ) (x : ℕ) (settled : SettledTree) : Type 0 where
  pub some : 1 ≤ x
  pub within : x ≤ length ps
  pub ways : WaysUp ps x settled

-- one cell more
more_at : (f : ℕ → ℕ) (x : ℕ) (cells : List ℕ) (v : ℕ) → x < length cells → v ≡ f x → ((y : ℕ) → y < x → get_or cells y 0 ≡ f y) → (y : ℕ) → y < x + 1 → get_or (set cells x v) y 0 ≡ f y
more_at f x cells v room e before y h = elim (ℕ_discrete y x) [
  | yes own ↦ rw (own, get_or-set_same cells x v 0 room) e
  | no other ↦ get_or-set_other cells x y v 0 other ∙ before y (omega arith)
]

module _ (ps : List ℕ) (t : Tree ps) (settled : SettledTree) where
  pub ways_root : length settled.depths ≡ layout_limit → length settled.branches ≡ layout_limit → WaysBelow ps 1 (record settled { depths = set settled.depths 0 0; branches = set settled.branches 0 0 })
  ways_root depths_room branches_room =
      record {
        some = omega arith;
        within = t.nonempty;
        ways = record {
          depth_at = λ x h. more_at (depth ps) 0 settled.depths 0 (omega arith) (sym (depth_root ps t)) (λ y l. absurd (omega arith)) x (omega arith);
          branch_at = λ x h. more_at (branch ps) 0 settled.branches 0 (omega arith) (sym (branch_root ps t)) (λ y l. absurd (omega arith)) x (omega arith);
        };
      }

  module _ (x : ℕ) (d : WaysBelow ps x settled) where
    smaller : get_or ps x 0 < x
    smaller = t.smaller x d.some

    pub parent_fits : get_or settled.depths (get_or ps x 0) 0 < length ps
    parent_fits = rw (d.ways.depth_at (get_or ps x 0) smaller) (omega (arith, depth_le ps (get_or ps x 0), smaller, d.within))

    module _ (h : x < length ps) (b : ℕ) (b-is : b ≡ branch_below x (get_or settled.branches (get_or ps x 0) 0)) where
      deeper : get_or settled.depths (get_or ps x 0) 0 + 1 ≡ depth ps x
      deeper = rw (d.ways.depth_at (get_or ps x 0) smaller, depth_child ps t x d.some) (omega arith)

      branched : b ≡ branch ps x
      branched = elim (ℕ_discrete (get_or ps x 0) 0) [
        | yes root ↦ b-is ∙ rw (d.ways.branch_at (get_or ps x 0) smaller, root, branch_root ps t) (sym (branch_child ps t x d.some root))
        | no proper ↦
            let positive : 0 < branch ps (get_or ps x 0) = (branch_ancestor ps t (get_or ps x 0) (omega arith)).1 in
            b-is ∙ rw (d.ways.branch_at (get_or ps x 0) smaller, ne_eqb (branch ps (get_or ps x 0)) 0 (λ e. omega arith)) (sym (branch_parent ps t x d.some (omega arith)))
      ]

      pub ways_more : length settled.depths ≡ layout_limit → length settled.branches ≡ layout_limit → WaysBelow ps (x + 1) (record settled { depths = set settled.depths x (get_or settled.depths (get_or ps x 0) 0 + 1); branches = set settled.branches x b })
      ways_more depths_room branches_room =
          let small : length ps ≤ layout_limit = t.small in
          record {
            some = omega arith;
            within = omega arith;
            ways = record {
              depth_at = more_at (depth ps) x settled.depths (get_or settled.depths (get_or ps x 0) 0 + 1) (omega arith) deeper d.ways.depth_at;
              branch_at = more_at (branch ps) x settled.branches b (omega arith) branched d.ways.branch_at;
            };
          }

pub ways_all : (ps : List ℕ) (x : ℕ) (settled : SettledTree) → length ps ≤ x → WaysBelow ps x settled → WaysUp ps (length ps) settled
ways_all ps x settled a d = let all : length ps ≡ x = omega (arith, d.within) in rw all d.ways
