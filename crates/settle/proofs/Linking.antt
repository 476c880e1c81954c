-- Laws of the links between children: what one step of linking adds.
use Prim.Native.Nat.{ℕ, zero, suc, ◌-◌, ◌<◌, ◌≤◌}
use mathlib.Core.Path.{◌≡◌, refl, sym, ap, ◌∙◌}
use mathlib.Core.Bool.{cond}
use mathlib.Core.List.{List, [], ◌∷◌, head_d}
use native.Mathlib.Omega.{arith}
use native.Mathlib.Decide.{ℕ_discrete}
use lib.ListN.{length, get_or, set}
use lib.Seq.{get_or-set_same, get_or-set_other}
use lib.Dec.{eqb}
use borrow.Author.Tests.{eq-eqb, ne_eqb}
use Rattle.model.specs.Lists.{numbers_from, select}
use Rattle.model.specs.Tree.{FFFF, layout_limit}
use Rattle.laws.specs.Lists.{get_d_inside}
use Rattle.tree_laws.specs.WellFormed.{Tree}
use Rattle.settle.specs.declared.Links.{Links}
use Rattle.settle.specs.Numbering.{children_from, Unlinked, Linked}

module _ (ps : List ℕ) where
  children_none : (x k : ℕ) → length ps ≤ k → children_from ps x k ≡ []
  unfolding children_from numbers_from select
  children_none x k h =
      let e : length ps - k ≡ 0 = omega arith in
      rw e

  -- the children from k on: k itself, if it is one, and those after it
  children_at : (x k : ℕ) → k < length ps → children_from ps x k ≡ cond (eqb (get_or ps k 0) x) (k ∷ children_from ps x (suc k)) (children_from ps x (suc k))
  unfolding children_from numbers_from select
  children_at x k h =
      let e : length ps - k ≡ suc (length ps - suc k) = omega arith in
      rw (e, get_d_inside ps k FFFF 0 h)

  children_own : (x k : ℕ) → k < length ps → get_or ps k 0 ≡ x → head_d (children_from ps x k) FFFF ≡ k
  unfolding head_d
  children_own x k h e = rw (children_at x k h, eq-eqb (get_or ps k 0) x e)

  children_other : (x k : ℕ) → k < length ps → ((get_or ps k 0 ≡ x) → ⊥) → children_from ps x k ≡ children_from ps x (suc k)
  children_other x k h e = children_at x k h ∙ rw (ne_eqb (get_or ps k 0) x e)

-- the links of the layouts from y on
pub record LinkedFrom (ps : List ℕ) (y : ℕ) (links : Links) : Type 0 where
  pub within : y ≤ length ps
  pub child_at : (x : ℕ) → x < length ps → get_or links.first_children x 0 ≡ head_d (children_from ps x y) FFFF
  pub sibling_at : (z : ℕ) → y ≤ z → z < length ps → get_or links.next_siblings z 0 ≡ head_d (children_from ps (get_or ps z 0) (suc z)) FFFF

pub linked_none : (ps : List ℕ) (links : Links) → Unlinked ps links → LinkedFrom ps (length ps) links
unfolding head_d
linked_none ps links u =
    record {
      within = omega arith;
      child_at = λ x h. rw (children_none ps x (length ps) (omega arith)) (u.empty x h);
      sibling_at = λ z a b. let z : ⊥ = omega arith in absurd z;
    }

-- one layout more, k: its sibling is what was its parent's first child, and it is now that first child
module _ (ps : List ℕ) (t : Tree ps) (y k : ℕ) (e : y ≡ suc k) (parent : get_or ps k 0 < length ps) (links : Links) (l : LinkedFrom ps y links) (first_room : length links.first_children ≡ layout_limit) (next_room : length links.next_siblings ≡ layout_limit) where
  inside : k < length ps
  inside = omega (arith, l.within)

  children : (x : ℕ) → x < length ps → get_or (set links.first_children (get_or ps k 0) k) x 0 ≡ head_d (children_from ps x k) FFFF
  children x h = elim (ℕ_discrete x (get_or ps k 0)) [
    | yes same ↦ rw (same, get_or-set_same links.first_children (get_or ps k 0) k 0 (omega (arith, t.small))) (sym (children_own ps (get_or ps k 0) k inside refl))
    | no other ↦ get_or-set_other links.first_children (get_or ps k 0) x k 0 other ∙ l.child_at x h ∙ ap (λ (n : ℕ). head_d (children_from ps x n) FFFF) e ∙ ap (λ (cs : List ℕ). head_d cs FFFF) (sym (children_other ps x k inside (λ q. other (sym q))))
  ]

  siblings : (z : ℕ) → k ≤ z → z < length ps → get_or (set links.next_siblings k (get_or links.first_children (get_or ps k 0) 0)) z 0 ≡ head_d (children_from ps (get_or ps z 0) (suc z)) FFFF
  siblings z a b = elim (ℕ_discrete z k) [
    | yes same ↦ rw (same, get_or-set_same links.next_siblings k (get_or links.first_children (get_or ps k 0) 0) 0 (omega (arith, t.small))) (l.child_at (get_or ps k 0) parent ∙ ap (λ (n : ℕ). head_d (children_from ps (get_or ps k 0) n) FFFF) e)
    | no other ↦ get_or-set_other links.next_siblings k z (get_or links.first_children (get_or ps k 0) 0) 0 other ∙ l.sibling_at z (omega arith) b
  ]

  pub linked_more : LinkedFrom ps k (record links { first_children = set links.first_children (get_or ps k 0) k; next_siblings = set links.next_siblings k (get_or links.first_children (get_or ps k 0) 0) })
  linked_more = record { within = omega arith; child_at = children; sibling_at = siblings }

-- layout 0 is no child
pub linked_all : (ps : List ℕ) (y : ℕ) (links : Links) → Tree ps → y ≤ 1 → LinkedFrom ps y links → Linked ps links
linked_all ps zero links t h l = record { child_at = l.child_at; sibling_at = λ z a b. l.sibling_at z (omega arith) b }
linked_all ps (suc y) links t h l =
    record {
      child_at = λ x b. l.child_at x b ∙ ap (λ (n : ℕ). head_d (children_from ps x n) FFFF) one ∙ ap (λ (cs : List ℕ). head_d cs FFFF) (sym (children_other ps x 0 t.nonempty (λ q. not_root x b q)));
      sibling_at = λ z a b. l.sibling_at z (omega arith) b;
    }
  where
    one : suc y ≡ 1
    one = omega arith

    not_root : (x : ℕ) → x < length ps → get_or ps 0 0 ≡ x → ⊥
    not_root x b q = omega (arith, t.root, t.small)
