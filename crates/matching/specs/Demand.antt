-- Our pairs in front of every cut are at least as many as a rival's (document 01, "Rival plans and the cut"; 000, Theorem 4).
-- The pairs in front of a cut are the greedy rule's pairs of the jobs in front of it, and those are a maximum matching.
use Prim.Native.Nat.{ℕ, ◌≤◌, ◌<◌}
use Rattle.std.specs.Prelude.{◌≡◌, ◌≢◌, true, false, length, take, drop}
use Rattle.std.proofs.Common.{sym, ◌∙◌, take-append-drop}
use Rattle.std.proofs.Math.Path.{ap}
use Rattle.std.proofs.Math.Bool.{Bool, and-eq-true_iff}
use mathlib.Core.List.{List, Memᴰ as Mem}
use Rattle.std.proofs.Math.Dec.{ltb}
use borrow.Author.Tests.{ltb-true, lt-ltb, le-ltb}
use Rattle.model.specs.Lists.{count_where, select, total}
use Rattle.model.specs.Jobs.{Table, jobs, job_limit, highest_depth}
use Rattle.model.specs.Order.{running_order, place}
use Rattle.model.specs.Greedy.{greedy, compatible, passes}
use Rattle.model.specs.Rival.{Pair, NoCommonJob, Rules, Rival, in_front, pairs_in_front, pairs_of}
use Rattle.model.specs.Planning.{pair_count, partners}
use Rattle.laws.specs.Lists.{mem_all, all_imply, selected_all, select_pairwise}
use Rattle.laws.specs.Counting.{count_length}
use Rattle.laws.specs.Places.{take_mem, take_pairwise}
use Rattle.tree_laws.specs.WellFormed.{Tree}
use Rattle.tree_laws.specs.Sharing.{Downward}
use Rattle.matching.specs.Compatible.{rules_fit, compatible_eliminates}
use Rattle.matching.specs.Matchings.{Fits}
use Rattle.matching.specs.Exchange.{Falls}
use Rattle.matching.specs.Maximum.{greedy_maximum}
use Rattle.matching.specs.Passes.{pairs_in, pairs_length}
use Rattle.matching.specs.Prefix.{both, greedy_inside}
use Rattle.matching.specs.RunningOrder.{running_mem, running_distinct, running_falls, front_place, place_front, behind_place}
use Rattle.matching.specs.Partners.{our_pairs_in_front}

module _ (tb : Table) (m : ℕ) where
  -- the pairs of the passes in front of cut m are the greedy rule's pairs of the jobs in front of it
  pub front_pairs : select (in_front tb m) (pairs_in (passes tb)) ≡ pairs_in (greedy (compatible tb) (take m (running_order tb)))
  unfolding passes in_front
  front_pairs =
      ap (λ (l : List ℕ). select (both inside) (pairs_in (greedy (compatible tb) l))) (sym (take-append-drop m (running_order tb)))
      ∙ greedy_inside (compatible tb) inside (take m (running_order tb)) (drop m (running_order tb))
      (mem_all (λ (j : ℕ). inside j ≡ true) (take m (running_order tb)) (λ j n. lt-ltb (place tb j) m (front_place tb m n)))
      (mem_all (λ (j : ℕ). inside j ≡ false) (drop m (running_order tb)) (λ j n. le-ltb (place tb j) m (behind_place tb m n)))
    where
      inside : ℕ → Bool
      inside j = ltb (place tb j) m

  -- and as many
  pub front_count : count_where (in_front tb m) (pairs_in (passes tb)) ≡ total pair_count (greedy (compatible tb) (take m (running_order tb)))
  front_count = count_length (in_front tb m) (pairs_in (passes tb)) ∙ ap length front_pairs ∙ pairs_length (greedy (compatible tb) (take m (running_order tb)))

  -- as many pairs lie in front of the cut as are selected so
  pairs_selected : (ps : List Pair) → pairs_in_front tb m ps ≡ length (select (in_front tb m) ps)
  unfolding pairs_in_front
  pairs_selected ps = count_length (in_front tb m) ps

  -- a rival's pair in front of the cut is one of two jobs in front of it
  front_fits : (p : Pair) → Rules tb p → in_front tb m p ≡ true → Fits (compatible tb) (λ (z : ℕ). Mem z (take m (running_order tb))) p
  unfolding in_front
  front_fits p r e =
      let b = (and-eq-true_iff (ltb (place tb p.one) m) (ltb (place tb p.other) m)).0 e in
      rules_fit tb (λ (z : ℕ). Mem z (take m (running_order tb))) p r (place_front tb m p.one r.one_known (ltb-true (place tb p.one) m b.0)) (place_front tb m p.other r.other_known (ltb-true (place tb p.other) m b.1))

-- document 01: for every rival plan and every cut, our pairs in front of the cut are at least as many as the rival's.
-- The rival's pairs in front of it are a matching of the jobs in front of it; ours are as many as the greedy rule makes of these jobs
pub maximum_at_every_cut :
    (tb : Table)
    → Tree tb.parents
    → ((j : ℕ) → j < jobs tb → Downward tb j)
    → jobs tb ≤ job_limit
    → (ps : List Pair)
    → Rival tb ps
    → (m : ℕ)
    → pairs_in_front tb m ps ≤ pairs_in_front tb m (pairs_of (jobs tb) (partners tb))
maximum_at_every_cut tb t down small ps rival m = rw (our_pairs_in_front tb small m, front_count tb m, pairs_selected tb m ps) most
  where
    front : List ℕ
    front = take m (running_order tb)

    most : length (select (in_front tb m) ps) ≤ total pair_count (greedy (compatible tb) front)
    most = greedy_maximum (λ (j : ℕ). j < jobs tb) (highest_depth tb) (compatible tb) (compatible_eliminates tb t down) front
        (mem_all (λ (j : ℕ). j < jobs tb) front (λ j n. running_mem tb (take_mem m (running_order tb) n)))
        (take_pairwise (Falls (highest_depth tb)) m (running_order tb) (running_falls tb))
        (take_pairwise ◌≢◌ m (running_order tb) (running_distinct tb))
        (select (in_front tb m) ps)
        (all_imply (λ (p : Pair). Rules tb p × (in_front tb m p ≡ true)) (Fits (compatible tb) (λ (z : ℕ). Mem z front)) (select (in_front tb m) ps) (λ p r. front_fits tb m p r.0 r.1) (selected_all (in_front tb m) (Rules tb) ps rival.keep))
        (select_pairwise (in_front tb m) NoCommonJob ps rival.once)
