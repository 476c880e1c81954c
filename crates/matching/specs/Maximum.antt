-- The greedy rule makes a maximum matching (003, section 3; 000, Theorem 4): no set of pairs without a common vertex has more pairs, for any test of two vertices
-- with strong elimination along an order. The tree enters nowhere.
-- Assumes the laws of `StrongElimination`.
use Rattle.std.specs.Prelude.{ℕ, ◌≤◌, Bool, length}
use Rattle.std.proofs.Math.Logic.{◌≢◌}
use mathlib.Core.List.{List, Memᴰ as Mem}
use Rattle.std.proofs.Common.{arith}
use Rattle.model.specs.Lists.{total, All, AllPairs}
use Rattle.model.specs.Greedy.{Pass, greedy}
use Rattle.model.specs.Rival.{Pair, NoCommonJob}
use Rattle.model.specs.Planning.{pair_count}
use Rattle.laws.specs.Lists.{Distinct}
use Rattle.matching.specs.Matchings.{Fits, Matching, none_left, take_out}
use Rattle.matching.specs.Exchange.{StrongElimination, Falls, InOrder, later_order, others_order, exchange, unused}
use Rattle.matching.specs.Passes.{Run, done, matched, alone, greedy_run}

module _ (Vertex : ℕ → Type 0) (D : ℕ → ℕ) (fit : ℕ → ℕ → Bool) (laws : StrongElimination Vertex D fit) where
  -- by induction on the passes: a step takes one pair off, and leaves the others possible
  run_maximum : {vs : List ℕ} {passes : List Pass} → Run fit vs passes → InOrder Vertex D ◌≢◌ vs → (ps : List Pair) → Matching fit (λ (z : ℕ). Mem z vs) ps → length ps ≤ total pair_count passes
  unfolding total pair_count
  run_maximum done o ps m = none_left fit ps m
  run_maximum (matched {v = v} {j = j} {vs = vs} found r) o ps m =
      let left = exchange Vertex D fit laws ◌≢◌ (λ x y h. h) v vs o j found ps m in
      omega (arith, left.fewer, run_maximum r (others_order Vertex D ◌≢◌ j vs (later_order Vertex D ◌≢◌ o)) left.rest left.matching)
  run_maximum (alone {v = v} {vs = vs} e r) o ps m = omega (arith, run_maximum r (later_order Vertex D ◌≢◌ o) ps (unused Vertex D fit laws v vs o.known e ps m))

  -- the greedy rule over vertices, each once, in order of falling D makes at least as many pairs as any matching of them has
  pub greedy_maximum :
      (vs : List ℕ)
      → All Vertex vs
      → AllPairs (Falls D) vs
      → Distinct vs
      → (ps : List Pair)
      → All (Fits fit (λ (z : ℕ). Mem z vs)) ps
      → AllPairs NoCommonJob ps
      → length ps ≤ total pair_count (greedy fit vs)
  greedy_maximum vs known falls once ps a d = run_maximum (greedy_run fit vs) (record { known = known; falls = falls; before = once }) ps (take_out fit (λ (z : ℕ). Mem z vs) ps a d)
