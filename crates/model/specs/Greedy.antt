-- The matching rule (docs/RULES.md, 6; 000, Algorithm 1): each vertex still free at its turn takes the first free later vertex that it is compatible with.
use Rattle.std.specs.Prelude.{ℕ, zero, suc, Bool, not, ◌&&◌, List, [], ◌∷◌, length}
use Rattle.std.proofs.Math.Option.{Option, none, some}
use Rattle.model.specs.Lists.{find, without}
use Rattle.model.specs.Jobs.{Table, solo, same_window, shares}
use Rattle.model.specs.Order.{running_order}

-- a pass of the press: two jobs, the earlier first, or one
pub data Pass : Type 0 where
  pair : ℕ → ℕ → Pass
  single : ℕ → Pass

-- one step of the greedy rule: v with j, where one was found among vs, else alone; and then what `rest` makes of the others
unfoldable pub greedy_step : (List ℕ → List Pass) → ℕ → List ℕ → Option ℕ → List Pass
greedy_step rest v vs none = single v ∷ rest vs
greedy_step rest v vs (some j) = pair v j ∷ rest (without j vs)

-- at most n steps
unfoldable pub greedy_steps : ℕ → (ℕ → ℕ → Bool) → List ℕ → List Pass
greedy_steps zero compatible vs = []
greedy_steps (suc n) compatible [] = []
greedy_steps (suc n) compatible (v ∷ vs) = greedy_step (greedy_steps n compatible) v vs (find (compatible v) vs)

-- the passes that the greedy rule makes of vertices in order
unfoldable pub greedy : (ℕ → ℕ → Bool) → List ℕ → List Pass
greedy compatible vs = greedy_steps (length vs) compatible vs

module _ (tb : Table) where
  -- neither is solo, they are in one window, and they share; a job 0-0 shares with none
  unfoldable pub compatible : ℕ → ℕ → Bool
  compatible i j = not (solo tb i) && not (solo tb j) && same_window tb i j && shares tb i j

  -- the plan: the greedy rule over the running order
  unfoldable pub passes : List Pass
  passes = greedy compatible (running_order tb)
