-- Rival plans and the cut (docs/RULES.md, 14; document 01, "Rival plans and the cut", as 2026-01 and 2026-05 changed it), and the earlier job (2026-14). A plan is here a set of pairs of
-- job numbers: a matching of the jobs in the graph of who is compatible with whom. A rival plan is any matching, a cut the end of a prefix of the running order.
use Rattle.std.specs.Prelude.{ℕ, ◌+◌, ◌*◌, ◌<◌, ◌≤◌, ◌≡◌, ◌≢◌, Bool, true, not, ◌&&◌, ◌||◌, List, map, length, get_or, T, eqb, ltb}
use Rattle.std.specs.Bool.{xor}
use Rattle.std.proofs.Math.Option.{Option, some}
use Rattle.model.specs.Lists.{numbers, All, AllPairs, any_of, count_where, find, select}
use Rattle.model.specs.Tree.{FFFF}
use Rattle.model.specs.Jobs.{Table, jobs, solo, same_window, shares}
use Rattle.model.specs.Order.{running_order, place}

-- two job numbers
pub record Pair : Type 0 where
  pub one : ℕ
  pub other : ℕ

-- no job stands in both
pub record NoCommonJob (p q : Pair) : Type 0 where
  pub one_one : p.one ≢ q.one
  pub one_other : p.one ≢ q.other
  pub other_one : p.other ≢ q.one
  pub other_other : p.other ≢ q.other

-- the rules of a pair: two different jobs of the table, neither solo, in one window, that share
pub record Rules (tb : Table) (p : Pair) : Type 0 where
  pub one_known : p.one < jobs tb
  pub other_known : p.other < jobs tb
  pub differ : p.one ≢ p.other
  pub one_not_solo : T (not (solo tb p.one))
  pub other_not_solo : T (not (solo tb p.other))
  pub same_window : T (same_window tb p.one p.other)
  pub share : T (shares tb p.one p.other)

-- a rival plan, which is any matching: pairs that keep the rules, no job in two of them
pub record Rival (tb : Table) (ps : List Pair) : Type 0 where
  pub keep : All (Rules tb) ps
  pub once : AllPairs NoCommonJob ps

-- both places are below m
unfoldable pub in_front : Table → ℕ → Pair → Bool
in_front tb m p = ltb (place tb p.one) m && ltb (place tb p.other) m

-- how many of the pairs lie in front of cut m, which is among the first m jobs of the running order (a prefix)
unfoldable pub pairs_in_front : Table → ℕ → List Pair → ℕ
pairs_in_front tb m ps = count_where (in_front tb m) ps

-- the pairs of a partner buffer: I and J, both below m, are a pair if cell I holds J; each once, by its smaller number
unfoldable pub pairs_of : ℕ → List ℕ → List Pair
pairs_of m partners =
    map (λ (i : ℕ). record { one = i; other = get_or partners i FFFF })
    (select (λ (i : ℕ). ltb i (get_or partners i FFFF) && ltb (get_or partners i FFFF) m) (numbers m))

-- the job stands in one of the pairs
unfoldable pub in_pair : List Pair → ℕ → Bool
in_pair ps j = any_of (λ (p : Pair). eqb j p.one || eqb j p.other) ps

-- the singles of a plan are the jobs in no pair, and its passes are its pairs and its singles
unfoldable pub singles_of : Table → List Pair → ℕ
singles_of tb ps = count_where (λ (j : ℕ). not (in_pair ps j)) (numbers (jobs tb))

unfoldable pub passes_of : Table → List Pair → ℕ
passes_of tb ps = length ps + singles_of tb ps

-- a plan that no rival beats at any cut: it stands in the partner buffer, and `pairs` and `singles` are given back with it
pub record MaximumAtEveryCut (tb : Table) (partners : List ℕ) (pairs singles : ℕ) : Type 0 where
  -- cell J holds I where cell I holds J, no job is its own partner, and our pairs keep the rules
  pub apart : (i : ℕ) → i < jobs tb → get_or partners i FFFF ≢ i
  pub back : (i j : ℕ) → i < jobs tb → j < jobs tb → get_or partners i FFFF ≡ j → get_or partners j FFFF ≡ i
  pub keeps_rules : Rival tb (pairs_of (jobs tb) partners)
  -- at every cut our pairs in front of it are at least as many; with all jobs in front they are the pairs given back
  pub every_cut : (rival : List Pair) → Rival tb rival → (m : ℕ) → m ≤ jobs tb → pairs_in_front tb m rival ≤ pairs_in_front tb m (pairs_of (jobs tb) partners)
  pub all_in_front : pairs_in_front tb (jobs tb) (pairs_of (jobs tb) partners) ≡ pairs
  -- singles are the jobs in no pair: M less two for each pair
  pub singles_alone : singles ≡ singles_of tb (pairs_of (jobs tb) partners)
  pub singles_are : singles + 2 * pairs ≡ jobs tb
  -- the passes of any plan are M less its pairs; ours are the pairs and singles given back, and no rival takes fewer
  pub passes_are : (rival : List Pair) → Rival tb rival → passes_of tb rival + length rival ≡ jobs tb
  pub our_passes : passes_of tb (pairs_of (jobs tb) partners) ≡ pairs + singles
  pub fewest : (rival : List Pair) → Rival tb rival → pairs + singles ≤ passes_of tb rival

-- ---- the earlier job gets the partner (2026-14)

-- one of two plans has the job paired and the other has it single
unfoldable pub paired_in_one : List Pair → List Pair → ℕ → Bool
paired_in_one ps qs j = xor (in_pair ps j) (in_pair qs j)

-- going down the running order, the first such job
unfoldable pub first_difference : Table → List Pair → List Pair → Option ℕ
first_difference tb ps qs = find (paired_in_one ps qs) (running_order tb)

-- beside any rival, of whatever number of pairs, the plan is the one that has this job paired, if there is such a job
abbrev pub EarlierPaired : Table → List Pair → Type 0
EarlierPaired tb plan = (rival : List Pair) → Rival tb rival → (j : ℕ) → first_difference tb plan rival ≡ some j → in_pair plan j ≡ true

-- it holds of the plan in the partner buffer, which is a rival plan too (`keeps-rules`, above); and any rival plan of which it holds makes the fewest passes for the whole table
pub record EarlierJobsPaired (tb : Table) (partners : List ℕ) : Type 0 where
  pub ours : EarlierPaired tb (pairs_of (jobs tb) partners)
  pub fewest : (plan : List Pair) → Rival tb plan → EarlierPaired tb plan → (rival : List Pair) → Rival tb rival → passes_of tb plan ≤ passes_of tb rival
