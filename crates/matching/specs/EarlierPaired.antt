-- The earlier vertex gets the partner (document 02, 2026-14): where a matching pairs a vertex that the greedy rule leaves single, the greedy rule pairs an earlier one that the
-- matching leaves single. For any test of two vertices with strong elimination along an order; the tree enters nowhere.
-- Assumes the laws of `StrongElimination` and of `StrictOrder`.
use Rattle.std.specs.Prelude.{ℕ, ◌≡◌, ◌≢◌, Bool, true, false}
use Rattle.std.proofs.Common.{sym, ◌∙◌}
use Rattle.std.proofs.Math.Logic.{⊎_elim}
use mathlib.Core.List.Memᴰ.{not-nil}
use mathlib.Core.List.{List, [], ◌∷◌, Memᴰ as Mem}
use Rattle.model.specs.Lists.{without}
use Rattle.model.specs.Greedy.{Pass}
use Rattle.model.specs.Rival.{Pair, in_pair}
use Rattle.laws.specs.Lists.{all_mem}
use Rattle.laws.specs.Without.{without_mem}
use Rattle.laws.specs.Sorting.{StrictOrder, Before, before_apart}
use Rattle.matching.specs.Matchings.{single_apart, apart_paired, Matching, paired_in}
use Rattle.matching.specs.Exchange.{StrongElimination, InOrder, Earlier, Remaining, later_order, others_order, exchange, unused}
use Rattle.matching.specs.Passes.{pairs_in, Run, done, matched, alone, run_mem, paired_vertex}

module _ (Vertex : ℕ → Type 0) (D : ℕ → ℕ) (fit : ℕ → ℕ → Bool) (laws : StrongElimination Vertex D fit) (before : ℕ → ℕ → Bool) (strict : StrictOrder Vertex before) where
  -- the step of v with j, after which our other pairs are `ours`
  module _ (v : ℕ) (vs : List ℕ) (o : InOrder Vertex D (Before before) (v ∷ vs)) (j : ℕ) (ours : List Pair) (ours_in : (z : ℕ) → in_pair ours z ≡ true → Mem z (without j vs)) where
    abbrev taken : Pair
    taken = record { one = v; other = j }

    -- what is earlier than p among the remaining pairs is so among ps, or v or j is
    carried : (ps : List Pair) (left : Remaining fit (Before before) taken (λ (z : ℕ). Mem z (without j vs)) ps) (p : ℕ) → Earlier (Before before) ours left.rest p → Earlier (Before before) (taken ∷ ours) ps p
    carried ps left p e =
        let q : ℕ = e.vertex in
        let in-others = without_mem j vs (ours_in q e.ours_pairs) in
        let not-v : q ≢ v = λ s. before_apart Vertex before strict v q (all_mem (Before before v) o.before.0 in-others.0) (sym s) in
        ⊎_elim
        (λ (same : in_pair ps q ≡ in_pair left.rest q). record {
          vertex = q;
          before = e.before;
          ours_pairs = apart_paired taken ours q not-v in-others.1 ∙ e.ours_pairs;
          rival_leaves = same ∙ e.rival_leaves;
        })
        (λ (f : Earlier (Before before) (taken ∷ ours) ps q). record {
          vertex = f.vertex;
          before = strict.transitive f.vertex q p f.before e.before;
          ours_pairs = f.ours_pairs;
          rival_leaves = f.rival_leaves;
        })
        (left.alike ours q not-v in-others.1)

  -- by induction on the passes: at each step p is paired in the remaining pairs too, or v or j is the earlier one
  pub run_earlier :
      {vs : List ℕ} {passes : List Pass}
      → Run fit vs passes
      → InOrder Vertex D (Before before) vs
      → (ps : List Pair)
      → Matching fit (λ (z : ℕ). Mem z vs) ps
      → (p : ℕ)
      → in_pair (pairs_in passes) p ≡ false
      → in_pair ps p ≡ true
      → Earlier (Before before) (pairs_in passes) ps p
  unfolding pairs_in
  run_earlier done o ps m p single paired = absurd (not-nil (paired_in fit (λ (z : ℕ). Mem z []) ps p m paired))
  run_earlier (alone {v = v} {vs = vs} e r) o ps m p single paired =
      run_earlier r (later_order Vertex D (Before before) o) ps (unused Vertex D fit laws v vs o.known e ps m) p single paired
  run_earlier (matched {v = v} {j = j} {vs = vs} {ps = passes} found r) o ps m p single paired =
      let ours : List Pair = pairs_in passes in
      let taken : Pair = record { one = v; other = j } in
      let left = exchange Vertex D fit laws (Before before) (before_apart Vertex before strict) v vs o j found ps m in
      let apart = single_apart taken ours p single in
      ⊎_elim
      (λ (same : in_pair ps p ≡ in_pair left.rest p). carried v vs o j ours (λ z e. run_mem fit r (paired_vertex passes z e)) ps left p
      (run_earlier r (others_order Vertex D (Before before) j vs (later_order Vertex D (Before before) o)) left.rest left.matching p (sym (apart_paired taken ours p apart.0 apart.1) ∙ single) (sym same ∙ paired)))
      (λ (e : Earlier (Before before) (taken ∷ ours) ps p). e)
      (left.alike ours p apart.0 apart.1)
