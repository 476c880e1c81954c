-- The layouts other than 0 on both paths of two jobs (document 02, 2026-02): the same for either, and the highest of them where the jobs share.
use Rattle.std.specs.Prelude.{ℕ, ◌≤◌, ◌<◌, ◌≡◌, true, get_or}
use Rattle.std.proofs.Math.Path.{ap}
use mathlib.Core.List.{List, head_d, Memᴰ as Mem}
use Rattle.std.proofs.Common.{arith}
use Rattle.model.specs.Lists.{elem, last_d, AllPairs}
use Rattle.model.specs.Tree.{FFFF}
use Rattle.model.specs.Jobs.{Table, path_from, path, own_path, highest, highest_depth, shares, shared_layouts, highest_shared, deepest_shared}
use Rattle.laws.specs.Lists.{mem_all, elem_mem, mem_elem, select_mem, mem_select, select_pairwise, select_last, sorted_same}
use Rattle.laws.specs.Without.{without_pairwise}
use Rattle.tree_laws.specs.WellFormed.{Tree}
use Rattle.tree_laws.specs.Ancestors.{AncestorOrSelf, self, up, ancestor_le}
use Rattle.tree_laws.specs.Paths.{path_one, path_up, path_ancestor}
use Rattle.tree_laws.specs.Sharing.{Downward, on_own, highest_on_path, shares_meet}

-- a path leads to smaller numbers
pub path_falls : (ps : List ℕ) → Tree ps → {u b : ℕ} → AncestorOrSelf ps u b → AllPairs (λ (x y : ℕ). y < x) (path_from ps u b)
path_falls ps t (self {x = b}) = rw (path_one ps t b) (tt, tt)
path_falls ps t (up {u = u} {x = b} h a) =
    rw (path_up ps t u b h a)
    (mem_all (λ (y : ℕ). y < b) (path_from ps u (get_or ps b 0)) (λ y m. omega (arith, ancestor_le ps t (path_ancestor ps t y a (mem_elem m)).0, t.smaller b h)), path_falls ps t a)

module _ (tb : Table) (t : Tree tb.parents) where
  pub own_falls : (j : ℕ) → Downward tb j → AllPairs (λ (x y : ℕ). y < x) (own_path tb j)
  unfolding own_path path
  own_falls j down = without_pairwise (λ (x y : ℕ). y < x) 0 (path tb j) (path_falls tb.parents t down)

  pub shared_falls : (i j : ℕ) → Downward tb i → AllPairs (λ (x y : ℕ). y < x) (shared_layouts tb i j)
  unfolding shared_layouts
  shared_falls i j down = select_pairwise (λ (x : ℕ). elem x (own_path tb j)) (λ (x y : ℕ). y < x) (own_path tb i) (own_falls i down)

-- what stands on both own paths
pub shared_mem : (tb : Table) (i j : ℕ) {x : ℕ} → Mem x (shared_layouts tb i j) → Mem x (own_path tb i) × Mem x (own_path tb j)
unfolding shared_layouts
shared_mem tb i j {x} m = let s = select_mem (λ (x : ℕ). elem x (own_path tb j)) (own_path tb i) m in (s.0, elem_mem x (own_path tb j) s.1)

pub mem_shared : (tb : Table) (i j : ℕ) {x : ℕ} → Mem x (own_path tb i) → Mem x (own_path tb j) → Mem x (shared_layouts tb i j)
unfolding shared_layouts
mem_shared tb i j m n = mem_select (λ (x : ℕ). elem x (own_path tb j)) m (mem_elem n)

module _ (tb : Table) (t : Tree tb.parents) (i j : ℕ) (a : Downward tb i) (b : Downward tb j) where
  -- they are the same, and in the same order, for either job
  pub shared_same : shared_layouts tb i j ≡ shared_layouts tb j i
  shared_same =
      sorted_same (λ (x y : ℕ). y < x) (λ x y p q. omega (arith, p, q)) (shared_layouts tb i j) (shared_layouts tb j i) (shared_falls tb t i j a) (shared_falls tb t j i b)
      (λ z m. let both = shared_mem tb i j m in mem_shared tb j i both.1 both.0)
      (λ z m. let both = shared_mem tb j i m in mem_shared tb i j both.1 both.0)

  pub highest_same : highest_shared tb i j ≡ highest_shared tb j i
  unfolding highest_shared
  highest_same = ap (λ (l : List ℕ). last_d l FFFF) shared_same

  pub deepest_same : deepest_shared tb i j ≡ deepest_shared tb j i
  unfolding deepest_shared
  deepest_same = ap (λ (l : List ℕ). head_d l FFFF) shared_same

  module _ (order : highest_depth tb j ≤ highest_depth tb i) (e : shares tb i j ≡ true) where
    -- where the jobs share, the highest is the deeper highest layout: by (T) it stands on both paths, and on its own job's path it is the last
    pub highest_shared_lem : highest_shared tb i j ≡ highest tb i
    unfolding highest_shared shared_layouts highest
    highest_shared_lem =
        let on = (shares_meet tb t i j a b e).1.0 in
        select_last (λ (x : ℕ). elem x (own_path tb j)) (own_path tb i) 0 FFFF (elem_mem _ (own_path tb i) (on_own tb t i on)) (on_own tb t j (highest_on_path tb t i j a b order e))
