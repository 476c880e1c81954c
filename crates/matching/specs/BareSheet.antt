-- No pair prints on layout 0 (document 02, 2026-01), and nothing that two jobs share begins there (2026-02): of the layouts that *Plan* hands back it stands in no job's
-- cell.
use Rattle.std.specs.Prelude.{ℕ, ◌<◌, ◌≢◌, get_or}
use Rattle.std.proofs.Common.{sym, ◌∙◌, arith, eq-eqb, ne_eqb}
use mathlib.Core.List.{List, [], ◌∷◌, head_d}
use Rattle.std.proofs.Math.Decide.{ℕ_discrete}
use Rattle.model.specs.Lists.{last_d, All}
use Rattle.model.specs.Tree.{FFFF}
use Rattle.model.specs.Jobs.{Table, jobs, path, own_path, shared_layouts, highest_shared, deepest_shared}
use Rattle.model.specs.Greedy.{passes}
use Rattle.model.specs.Planning.{partner_in, with_partner, upper, printed, upper_layouts, printed_layouts}
use Rattle.laws.specs.Lists.{mem_all}
use Rattle.laws.specs.Numbers.{numbers_at}
use Rattle.laws.specs.Without.{without_mem}
use Rattle.tree_laws.specs.Shared.{shared_mem}

abbrev Proper : ℕ → Type 0
Proper x = x ≢ 0

head_proper : (l : List ℕ) → All Proper l → Proper (head_d l FFFF)
unfolding head_d
head_proper [] a e = omega arith
head_proper (x ∷ xs) a e = a.0 e

last_proper : (l : List ℕ) (d : ℕ) → Proper d → All Proper l → Proper (last_d l d)
unfolding last_d
last_proper [] d h a = h
last_proper (x ∷ xs) d h a = last_proper xs x a.0 a.1

module _ (tb : Table) where
  -- what two jobs share stands on an own path
  shared_proper : (i j : ℕ) → All Proper (shared_layouts tb i j)
  unfolding own_path
  shared_proper i j = mem_all Proper (shared_layouts tb i j) (λ x m. (without_mem 0 (path tb i) (shared_mem tb i j m).0).1)

  -- FFFF without a partner, and else what is told of both
  told_proper : (f : ℕ → ℕ → ℕ) → ((i j : ℕ) → Proper (f i j)) → (j : ℕ) → Proper (with_partner tb f j)
  told_proper f h j e = elim (ℕ_discrete (partner_in (passes tb) j) FFFF) [
    | yes none ↦ omega (arith, rw (eq-eqb (partner_in (passes tb) j) FFFF none) at e)
    | no some ↦ h j (partner_in (passes tb) j) (rw (ne_eqb (partner_in (passes tb) j) FFFF some) at e)
  ]

  pub none_on_layout_0 : (j : ℕ) → j < jobs tb → get_or (printed_layouts tb) j FFFF ≢ 0
  unfolding printed_layouts printed deepest_shared
  none_on_layout_0 j h e = told_proper (deepest_shared tb) (λ i j. head_proper (shared_layouts tb i j) (shared_proper i j)) j (sym (numbers_at (printed tb) (jobs tb) j FFFF h) ∙ e)

  pub none_from_layout_0 : (j : ℕ) → j < jobs tb → get_or (upper_layouts tb) j FFFF ≢ 0
  unfolding upper_layouts upper highest_shared
  none_from_layout_0 j h e = told_proper (highest_shared tb) (λ i j. last_proper (shared_layouts tb i j) FFFF (λ q. omega arith) (shared_proper i j)) j (sym (numbers_at (upper tb) (jobs tb) j FFFF h) ∙ e)
