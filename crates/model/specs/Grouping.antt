-- Groups for a press with g lanes (docs/RULES.md, 15; document 02, 2026-07): full groupings, however they are made, and the grouping rule (000, Algorithm 3).
use Rattle.std.specs.Prelude.{ℕ, zero, suc, pred, ◌<◌, ◌≡◌, ◌≢◌, Bool, not, length, T, eqb}
use mathlib.Core.List.{List, [], ◌∷◌, head_d, flatten}
use Rattle.model.specs.Lists.{elem, all_of, select, count_where, without_all, first_passing, All}
use Rattle.model.specs.Tree.{FFFF}
use Rattle.model.specs.Jobs.{Table, jobs, solo, window, path, own_path}
use Rattle.model.specs.Order.{running_order}
use Rattle.model.specs.Greedy.{compatible}

-- a press has from 2 lanes to 8
abbrev pub least_lanes : ℕ
least_lanes = 2

abbrev pub most_lanes : ℕ
most_lanes = 8

-- ---- full groupings

-- a group that a press with g lanes prints in one pass: g jobs of the table, none solo, in one window, with a layout other than 0 on all their paths
pub record Group (tb : Table) (g : ℕ) (group : List ℕ) : Type 0 where
  pub full : length group ≡ g
  pub known : All (λ (j : ℕ). j < jobs tb) group
  pub none_solo : All (λ (j : ℕ). T (not (solo tb j))) group
  pub one_window : (v : ℕ) × All (λ (j : ℕ). window tb j ≡ v) group
  pub one_layout : (x : ℕ) × (x ≢ 0) × All (λ (j : ℕ). T (elem x (path tb j))) group

-- a full grouping is any list of such groups in which each job stands once; no method is asked of it
pub record FullGrouping (tb : Table) (g : ℕ) (groups : List (List ℕ)) : Type 0 where
  pub each : All (Group tb g) groups
  pub once : (j : ℕ) → j < jobs tb → count_where (eqb j) (flatten groups) ≡ 1

-- ---- the grouping rule

-- one step: v takes those that it got of the later vertices vs, and then `rest` groups the others
unfoldable pub group_step : (List ℕ → List (List ℕ)) → ℕ → List ℕ → List ℕ → List (List ℕ)
group_step rest v vs got = (v ∷ got) ∷ rest (without_all got vs)

-- at most k steps
unfoldable pub group_steps : ℕ → ℕ → (ℕ → ℕ → Bool) → List ℕ → List (List ℕ)
group_steps zero n compatible vs = []
group_steps (suc k) n compatible [] = []
group_steps (suc k) n compatible (v ∷ vs) = group_step (group_steps k n compatible) v vs (first_passing n (compatible v) vs)

-- the groups that the rule makes of vertices in order: each vertex still free at its turn takes the first n free later ones that it is compatible with
unfoldable pub grouping : ℕ → (ℕ → ℕ → Bool) → List ℕ → List (List ℕ)
grouping n compatible vs = group_steps (length vs) n compatible vs

-- every group has g members
unfoldable pub all_full : ℕ → List (List ℕ) → Bool
all_full g groups = all_of (λ (group : List ℕ). eqb (length group) g) groups

module _ (tb : Table) where
  -- the groups of a press with g lanes: the rule over the running order, each job taking g − 1 others
  unfoldable pub groups_of : ℕ → List (List ℕ)
  groups_of g = grouping (pred g) (compatible tb) (running_order tb)

  -- the layouts other than 0 on the paths of all jobs of a group, from the deepest up
  unfoldable pub common_layouts : List ℕ → List ℕ
  common_layouts [] = []
  common_layouts (i ∷ js) = select (λ (x : ℕ). all_of (λ (j : ℕ). elem x (own_path tb j)) js) (own_path tb i)

  -- the deepest of them, on which the group prints
  unfoldable pub deepest_common : List ℕ → ℕ
  deepest_common group = head_d (common_layouts group) FFFF
