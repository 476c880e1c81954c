-- The tree of layouts (docs/RULES.md, 3 and 9; document 01, "The tree and the running order"; 000, section 2): a list ps of parents, layout 0 the root.
use Rattle.std.specs.Prelude.{ℕ, zero, suc, pred, Bool, not, ◌||◌, length, get_or, drop, eqb, ltb}
use mathlib.Core.List.{List, [], ◌∷◌, ◌++◌, map, head_d, flat_map}
use Rattle.model.specs.Lists.{numbers, elem, index_of, last_d, select}
use Rattle.model.specs.Verdict.{Verdict, accepted, refused, refuse_if, ◌then◌, lent}

-- no layout and no job
abbrev pub FFFF : ℕ
FFFF = 65535

-- at most 1,024 layouts
abbrev pub layout_limit : ℕ
layout_limit = 1024

-- layout 0 has parent FFFF; each later one a parent with a smaller number than its own
unfoldable pub right_parent : ℕ → ℕ → Bool
right_parent zero p = eqb p FFFF
right_parent (suc x) p = ltb p (suc x)

-- refusal 4 at the first wrong layout, of those from x on
unfoldable pub layouts_from : ℕ → List ℕ → Verdict
layouts_from x [] = accepted
layouts_from x (p ∷ ps) = refuse_if (not (right_parent x p)) 4 x then layouts_from (suc x) ps

-- refusal 4 at the first wrong layout, or at place 0 for none
unfoldable pub tree_verdict : List ℕ → Verdict
tree_verdict [] = refused 4 0
tree_verdict (p ∷ ps) = layouts_from 0 (p ∷ ps)

-- x and, in n steps up, its ancestors
unfoldable pub ascend : ℕ → List ℕ → ℕ → List ℕ
ascend zero ps x = x ∷ []
ascend (suc n) ps zero = zero ∷ []
ascend (suc n) ps (suc x) = suc x ∷ ascend n ps (get_or ps (suc x) 0)

-- x and its ancestors, deepest first. A parent has a smaller number, so x steps reach layout 0
unfoldable pub ancestors : List ℕ → ℕ → List ℕ
ancestors ps x = ascend x ps x

-- u is x or an ancestor of it
unfoldable pub ancestor_or_self : List ℕ → ℕ → ℕ → Bool
ancestor_or_self ps u x = elem u (ancestors ps x)

-- depth of layout 0 is 0; a child is one deeper
unfoldable pub depth : List ℕ → ℕ → ℕ
depth ps x = pred (length (ancestors ps x))

-- the layouts whose parent is x, in order of number
unfoldable pub children : List ℕ → ℕ → List ℕ
children ps x = select (λ (y : ℕ). eqb (get_or ps y FFFF) x) (numbers (length ps))

-- what the children have, or x itself where there are none
unfoldable pub or_self : ℕ → List ℕ → List ℕ
or_self x [] = x ∷ []
or_self x (l ∷ ls) = l ∷ ls

-- the leaves of x, its children's leaves, child by child, to n levels below it
unfoldable pub leaves_within : ℕ → List ℕ → ℕ → List ℕ
leaves_within zero ps x = x ∷ []
leaves_within (suc n) ps x = or_self x (flat_map (leaves_within n ps) (children ps x))

-- a layout's leaves are its children's leaves, child by child, and a leaf has only itself
unfoldable pub leaves : List ℕ → ℕ → List ℕ
leaves ps x = leaves_within (length ps) ps x

-- leaves are numbered from 0, left to right: the number of the first leaf of x (000: x of the node), and of the last
unfoldable pub first_leaf : List ℕ → ℕ → ℕ
first_leaf ps x = index_of (head_d (leaves ps x) x) (leaves ps 0)

unfoldable pub last_leaf : List ℕ → ℕ → ℕ
last_leaf ps x = index_of (last_d (leaves ps x) x) (leaves ps 0)

-- ---- what *Settle layouts* does with the buffers: to settle a layout is to give its depth and its leaf span

-- 8, a result shorter than parents; 3, over 1,024; 4, a wrong layout. The results' lengths are given
unfoldable pub settle_verdict : List ℕ → ℕ → ℕ → ℕ → Verdict
settle_verdict ps depths firsts lasts =
    refuse_if (ltb depths (length ps) || ltb firsts (length ps) || ltb lasts (length ps)) 8 0
    then refuse_if (ltb layout_limit (length ps)) 3 0
    then tree_verdict ps

-- a result afterwards: untouched if refused; else what f says of each layout, and cells past the last layout untouched
abbrev pub settled_cells : Verdict → (ℕ → ℕ) → List ℕ → List ℕ → List ℕ
settled_cells verdict f ps old = lent verdict old (map f (numbers (length ps)) ++ drop (length ps) old)
