-- The lowest common ancestor of two layouts, and that a pair prints on it (document 01, "A pair prints on its
-- deepest shared layout").
use Rattle.std.specs.Prelude.{ℕ, ◌<◌, ◌≡◌, true, List, [], ◌∷◌, ◌++◌, map, length}
use Rattle.std.proofs.Common.{le_antisymm}
use Rattle.model.specs.Lists.{All}
use Rattle.model.specs.Jobs.{Table, jobs, bottom, shares, deepest_shared}
use Rattle.model.specs.Grouping.{deepest_common}
use Rattle.laws.specs.Lists.{all_imply, map_all}
use Rattle.tree_laws.specs.WellFormed.{Tree}
use Rattle.tree_laws.specs.Ancestors.{AncestorOrSelf, self, ancestor_trans, ancestor_le}
use Rattle.tree_laws.specs.Sharing.{Downward, On}
use Rattle.tree_laws.specs.Deepest as deepest
use Rattle.jobs.specs.Accepted.{Accepted}

-- r is a common ancestor of x and y, and every common ancestor is r or an ancestor of it
pub record LowestCommonAncestor (ps : List ℕ) (x y r : ℕ) : Type 0 where
  pub known : r < length ps
  pub ancestor_first : AncestorOrSelf ps r x
  pub ancestor_second : AncestorOrSelf ps r y
  pub lowest : (u : ℕ) → AncestorOrSelf ps u x → AncestorOrSelf ps u y → AncestorOrSelf ps u r

module _ (tb : Table) (a : Accepted tb) (i j : ℕ) (hi : i < jobs tb) (hj : j < jobs tb) (s : shares tb i j ≡ true) where
  -- that of two bottoms is the deepest shared layout, if the jobs share: each is an ancestor of the other
  pub common_shared : (r : ℕ) → LowestCommonAncestor tb.parents (bottom tb i) (bottom tb j) r → r ≡ deepest_shared tb i j
  common_shared r d =
      let ps : List ℕ = tb.parents in
      let t : Tree ps = a.tree in
      let on = deepest.deepest_on tb t i j (a.downward i hi) (a.downward j hj) s in
      le_antisymm
      (ancestor_le ps t (deepest.deepest_common_lem tb t i j (a.downward i hi) (a.downward j hj) s d.ancestor_first d.ancestor_second))
      (ancestor_le ps t (d.lowest (deepest_shared tb i j) on.0.lower on.1.lower))

-- ---- of more layouts than two

-- r is an ancestor of every layout of xs, and every such layout is r or an ancestor of it
pub record LowestOf (ps xs : List ℕ) (r : ℕ) : Type 0 where
  pub known : r < length ps
  pub above : All (AncestorOrSelf ps r) xs
  pub lowest : (u : ℕ) → All (AncestorOrSelf ps u) xs → AncestorOrSelf ps u r

pub lowest_one : (ps : List ℕ) (x : ℕ) → x < length ps → LowestOf ps (x ∷ []) x
lowest_one ps x h = record { known = h; above = (self, tt); lowest = λ u a. a.0 }

-- one more: that of what was found and the next
pub lowest_more : (ps : List ℕ) → Tree ps → (xs : List ℕ) (x y r : ℕ) → LowestOf ps xs x → LowestCommonAncestor ps x y r → LowestOf ps (xs ++ y ∷ []) r
lowest_more ps t xs x y r l c =
    record {
      known = c.known;
      above = all_more (AncestorOrSelf ps r) xs y (all_imply (AncestorOrSelf ps x) (AncestorOrSelf ps r) xs (λ z h. ancestor_trans ps t c.ancestor_first h) l.above) c.ancestor_second;
      lowest = λ u a. let parts = more_all (AncestorOrSelf ps u) xs y a in c.lowest u (l.lowest u parts.0) parts.1;
    }
  where
    all_more : (P : ℕ → Type 0) (xs : List ℕ) (y : ℕ) → All P xs → P y → All P (xs ++ y ∷ [])
    all_more P [] y a h = (h, tt)
    all_more P (x ∷ xs) y a h = (a.0, all_more P xs y a.1 h)

    more_all : (P : ℕ → Type 0) (xs : List ℕ) (y : ℕ) → All P (xs ++ y ∷ []) → All P xs × P y
    more_all P [] y a = (tt, a.0)
    more_all P (x ∷ xs) y a = let r = more_all P xs y a.1 in ((a.0, r.0), r.1)

-- that of the bottoms of a group is its deepest common layout, if there is a layout other than 0 on all paths
module _ (tb : Table) (t : Tree tb.parents) (i : ℕ) (js : List ℕ) (down : All (Downward tb) (i ∷ js)) (x : ℕ) (common : All (On tb x) (i ∷ js)) where
  pub lowest_common : (r : ℕ) → LowestOf tb.parents (map (bottom tb) (i ∷ js)) r → r ≡ deepest_common tb (i ∷ js)
  lowest_common r l =
      let ps : List ℕ = tb.parents in
      le_antisymm
      (ancestor_le ps t (deepest.common_lowest tb t i js down x common r (below r (i ∷ js) l.above)))
      (ancestor_le ps t (l.lowest (deepest_common tb (i ∷ js)) (map_all (bottom tb) (AncestorOrSelf ps (deepest_common tb (i ∷ js))) (i ∷ js)
      (all_imply (On tb (deepest_common tb (i ∷ js))) (λ (j : ℕ). AncestorOrSelf ps (deepest_common tb (i ∷ js)) (bottom tb j)) (i ∷ js) (λ j o. o.lower) (deepest.common_on tb t i js down x common)))))
    where
      below : (u : ℕ) (l : List ℕ) → All (AncestorOrSelf tb.parents u) (map (bottom tb) l) → All (λ (j : ℕ). AncestorOrSelf tb.parents u (bottom tb j)) l
      below u [] a = tt
      below u (j ∷ l) a = (a.0, below u l a.1)
