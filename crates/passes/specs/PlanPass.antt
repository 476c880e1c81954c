-- Pass k of an accepted table's plan: its jobs, their partners and the layout that they print on; and the pass as it is read off the work cells.
use Rattle.std.specs.Prelude.{ℕ, zero, suc, ◌<◌, ◌≡◌, ◌≢◌, length, get_or}
use Rattle.std.proofs.Math.Path.{refl}
use Rattle.std.proofs.Common.{sym, ap, ◌∙◌, arith, ne_eqb}
use mathlib.Core.List.Memᴰ.{tail as there}
use mathlib.Core.List.{List, [], ◌∷◌, Memᴰ as Mem}
use Rattle.model.specs.Tree.{FFFF}
use Rattle.model.specs.Jobs.{Table, jobs, highest, deepest_shared}
use Rattle.model.specs.Order.{place}
use Rattle.model.specs.Greedy.{Pass, pair, single, passes}
use Rattle.model.specs.Visits.{cell_count}
use Rattle.model.specs.Planning.{partner_in, upper, printed, pairs, singles}
use Rattle.model.specs.declared.Totals.{Totals}
use Rattle.model.specs.Rival.{Pair}
use Rattle.laws.specs.Lists.{Distinct, all_mem}
use Rattle.settle.specs.Spanned.{Spanned}
use Rattle.jobs.specs.Accepted.{Accepted}
use Rattle.highest.specs.Columns.{Highests}
use Rattle.tree_laws.specs.Shared.{deepest_same}
use Rattle.matching.specs.Passes.{pairs_in, vertices}
use Rattle.matching.specs.Partners.{pair_partners, partner_none, passes_distinct, passes_known, passes_places}
use Rattle.matching.specs.PartnersShare.{told, upper_earlier, upper_later}
use Rattle.passes.specs.Read.{PassCells, PassRead}
use Rattle.passes.specs.OfTable.{PlanIn, PassIs, plan_pass, pass_among, pass_cells, pass_read}
use Rattle.passes.specs.declared.Pass as declared
use Rattle.settle.specs.declared.SettledTree.{SettledTree}

-- a single has no partner
alone_partner : (ps : List Pass) → Distinct (vertices ps) → (k i : ℕ) → k < length ps → get_or ps k (single 0) ≡ single i → partner_in ps i ≡ FFFF
unfolding vertices partner_in
alone_partner [] d k i h e = absurd (omega arith)
alone_partner (single a ∷ ps) d zero i h e = let same : a ≡ i = cc in partner_none ps i (rw same at d.0)
alone_partner (single a ∷ ps) d (suc k) i h e = alone_partner ps d.1 k i (omega arith) e
alone_partner (pair a b ∷ ps) d zero i h e = let apart : ◌≡◌ {A = ℕ} 0 1 = cc in absurd (omega arith)
alone_partner (pair a b ∷ ps) d (suc k) i h e =
    let m : Mem i (vertices ps) = rw e at (pass_among ps k (single 0) (omega arith)) in
    rw (ne_eqb a i (all_mem (λ (x : ℕ). a ≢ x) d.0 (there m)), ne_eqb b i (all_mem (λ (x : ℕ). b ≢ x) d.1.0 m)) (alone_partner ps d.1.1 k i (omega arith) e)

-- ---- what a pass gives its jobs

module _ (tb : Table) (a : Accepted tb) where
  -- what the pass of two jobs gives each
  module _ (k i j : ℕ) (h : k < length (passes tb)) (is : plan_pass tb k ≡ pair i j) where
    among : Mem i (vertices (passes tb)) × Mem j (vertices (passes tb)) × Mem (record { one = i; other = j }) (pairs_in (passes tb))
    among = rw is at (pass_among (passes tb) k (single 0) h)

    pub one_known : i < jobs tb
    one_known = all_mem (λ (x : ℕ). x < jobs tb) (passes_known tb) among.0

    pub other_known : j < jobs tb
    other_known = all_mem (λ (x : ℕ). x < jobs tb) (passes_known tb) among.1

    pub one_partner : partner_in (passes tb) i ≡ j
    one_partner = (pair_partners (passes tb) (passes_distinct tb) among.2).0

    pub other_partner : partner_in (passes tb) j ≡ i
    other_partner = (pair_partners (passes tb) (passes_distinct tb) among.2).1

    pub one_printed : printed tb i ≡ deepest_shared tb i j
    unfolding printed
    one_printed = told tb a.tree a.downward a.few i j one_known other_known one_partner (deepest_shared tb)

    pub other_printed : printed tb j ≡ deepest_shared tb i j
    unfolding printed
    other_printed =
        told tb a.tree a.downward a.few j i other_known one_known other_partner (deepest_shared tb)
        ∙ deepest_same tb a.tree j i (a.downward j other_known) (a.downward i one_known)

    before : place tb i < place tb j
    before = all_mem (λ (p : Pair). place tb p.one < place tb p.other) (passes_places tb) among.2

    -- both find the highest layout of the earlier
    pub one_upper : upper tb i ≡ highest tb i
    one_upper = upper_earlier tb a.tree a.downward a.few i j one_known other_known one_partner before

    pub other_upper : upper tb j ≡ highest tb i
    other_upper = upper_later tb a.tree a.downward a.few j i other_known one_known other_partner before

  -- and that of one
  module _ (k i : ℕ) (h : k < length (passes tb)) (is : plan_pass tb k ≡ single i) where
    pub single_known : i < jobs tb
    single_known = all_mem (λ (x : ℕ). x < jobs tb) (passes_known tb) (rw is at (pass_among (passes tb) k (single 0) h))

    pub single_partner : partner_in (passes tb) i ≡ FFFF
    single_partner = alone_partner (passes tb) (passes_distinct tb) k i h is

    pub single_printed : printed tb i ≡ FFFF
    unfolding printed
    single_printed = rw single_partner refl

    pub single_upper : upper tb i ≡ FFFF
    unfolding upper
    single_upper = rw single_partner refl

-- ---- as it is read

-- the plan of a table stands in the work cells, in `count` passes, and its jobs' highest layouts beside it
pub record Plan (tb : Table) (ps : List ℕ) (tree : SettledTree) (highests bottoms work : List ℕ) (count : ℕ) : Type 0 where
  pub parents_are : tb.parents ≡ ps
  pub bottoms_are : tb.bottoms ≡ bottoms
  pub table : Accepted tb
  pub spanned : Spanned ps tree
  pub high : Highests tb highests
  pub plan : PlanIn tb work
  pub count_is : count ≡ length (passes tb)

module _ (tb : Table) (ps : List ℕ) (tree : SettledTree) (highests bottoms work : List ℕ) (count : ℕ) (p : Plan tb ps tree highests bottoms work count) where
  -- as many cells as bottoms are as many as jobs
  pub jobs_are : length bottoms ≡ jobs tb
  jobs_are = ap length (sym p.bottoms_are) ∙ p.table.bottoms_length

  module _ (k : ℕ) (h : k < count) where
    pub within : k < length (passes tb)
    within = rw p.count_is at h

    pub plan_cells : PassCells ps bottoms work k
    plan_cells = rw (p.parents_are, p.bottoms_are) at (pass_cells tb p.table work p.plan k within)

    pub plan_read : (x : declared.Pass) → PassRead ps bottoms work k x → PassIs tb (plan_pass tb k) x
    plan_read x o = pass_read tb p.table work p.plan k within x (rw (← p.parents_are, ← p.bottoms_are) at o)

-- the totals given back are the plan's
pub record TotalsOf (tb : Table) (t : Totals) : Type 0 where
  pub pairs_are : t.pairs ≡ pairs tb
  pub singles_are : t.singles ≡ singles tb
  pub visits_are : t.visits ≡ cell_count tb
