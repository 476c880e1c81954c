-- The earlier job gets the partner (document 02, 2026-14), of the pairs that the partner buffer holds.
use Prim.Native.Nat.{ℕ, ◌≤◌, ◌<◌}
use Rattle.std.specs.Prelude.{◌≡◌, false}
use Rattle.std.proofs.Common.{sym, ◌∙◌}
use Rattle.std.proofs.Math.Path.{ap}
use Rattle.std.proofs.Math.Logic.{⊎_elim}
use Rattle.std.proofs.Math.Bool.{true, not}
use Rattle.std.proofs.Math.Option.{some}
use mathlib.Core.List.{List, Memᴰ as Mem}
use Rattle.model.specs.Jobs.{Table, jobs, job_limit, highest_depth}
use Rattle.model.specs.Order.{earlier, running_order}
use Rattle.model.specs.Greedy.{compatible, passes}
use Rattle.model.specs.Rival.{Pair, Rules, Rival, pairs_of, in_pair, paired_in_one, first_difference}
use Rattle.model.specs.Planning.{partners}
use Rattle.laws.specs.Booleans.{answers, one_answer, xor_symmetric, xor_true, true_xor}
use Rattle.laws.specs.Lists.{mem_all, all_imply, find_some, find_agree}
use Rattle.laws.specs.Sorting.{Before, none_before_found}
use Rattle.tree_laws.specs.WellFormed.{Tree}
use Rattle.tree_laws.specs.Sharing.{Downward}
use Rattle.matching.specs.Matchings.{Fits, Matching, take_out}
use Rattle.matching.specs.Exchange.{Earlier}
use Rattle.matching.specs.Passes.{pairs_in, run_mem, paired_vertex, greedy_run}
use Rattle.matching.specs.EarlierPaired.{run_earlier}
use Rattle.matching.specs.RunningOrder.{earlier_order, running_mem, mem_running, running_sorted, running_falls}
use Rattle.matching.specs.Compatible.{rules_fit, compatible_eliminates}
use Rattle.matching.specs.Partners.{our_paired}

-- it does not matter which plan is named first
pub difference_symmetric : (tb : Table) (ps qs : List Pair) → first_difference tb ps qs ≡ first_difference tb qs ps
unfolding first_difference paired_in_one
difference_symmetric tb ps qs =
    find_agree (paired_in_one ps qs) (paired_in_one qs ps) (running_order tb)
    (mem_all (λ (j : ℕ). paired_in_one ps qs j ≡ paired_in_one qs ps j) (running_order tb) (λ j m. xor_symmetric (in_pair ps j) (in_pair qs j)))

module _ (tb : Table) (t : Tree tb.parents) (down : (j : ℕ) → j < jobs tb → Downward tb j) (small : jobs tb ≤ job_limit) where
  abbrev our : List Pair
  our = pairs_of (jobs tb) (partners tb)

  -- a rival plan is a matching of the jobs in the running order
  rival_matching : (ps : List Pair) → Rival tb ps → Matching (compatible tb) (λ (j : ℕ). Mem j (running_order tb)) ps
  rival_matching ps r =
      take_out (compatible tb) (λ (j : ℕ). Mem j (running_order tb)) ps
      (all_imply (Rules tb) (Fits (compatible tb) (λ (j : ℕ). Mem j (running_order tb))) ps
      (λ p k. rules_fit tb (λ (j : ℕ). Mem j (running_order tb)) p k (mem_running tb p.one k.one_known) (mem_running tb p.other k.other_known))
      r.keep)
      r.once

  -- before a job that a rival pairs and we leave single runs one that we pair and the rival leaves single
  earlier_job_lem : (rival : List Pair) → Rival tb rival → (j : ℕ) → in_pair our j ≡ false → in_pair rival j ≡ true → Earlier (Before (earlier tb)) (pairs_in (passes tb)) rival j
  unfolding passes
  earlier_job_lem rival r j single paired =
      run_earlier (λ (j : ℕ). j < jobs tb) (highest_depth tb) (compatible tb) (compatible_eliminates tb t down) (earlier tb) (earlier_order tb) (greedy_run (compatible tb) (running_order tb))
      (record {
        known = mem_all (λ (j : ℕ). j < jobs tb) (running_order tb) (λ j m. running_mem tb m);
        falls = running_falls tb;
        before = running_sorted tb;
      })
      rival (rival_matching rival r) j (sym (our_paired tb small j) ∙ single) paired

  -- document 02: beside any rival the first job that one has paired and the other single is paired in ours
  pub ours_earlier : (rival : List Pair) → Rival tb rival → (j : ℕ) → first_difference tb our rival ≡ some j → in_pair our j ≡ true
  unfolding first_difference paired_in_one passes
  ours_earlier rival r j found = ⊎_elim
      (λ (e : in_pair our j ≡ true). e)
      (λ (e : in_pair our j ≡ false).
      let differs = (find_some (paired_in_one our rival) (running_order tb) found).1 in
      let q = earlier_job_lem rival r j e (xor_true (in_pair our j) (in_pair rival j) differs ∙ ap not e) in
      let i : ℕ = q.vertex in
      let ours : in_pair our i ≡ true = our_paired tb small i ∙ q.ours_pairs in
      let in_order : Mem i (running_order tb) = run_mem (compatible tb) (greedy_run (compatible tb) (running_order tb)) (paired_vertex (passes tb) i q.ours_pairs) in
      absurd (one_answer q.before
      (none_before_found (λ (j : ℕ). j < jobs tb) (earlier tb) (earlier_order tb) (paired_in_one our rival) (running_sorted tb) found in_order (true_xor (in_pair our i) (in_pair rival i) (q.rival_leaves ∙ ap not (sym ours))))))
      (answers (in_pair our j))
