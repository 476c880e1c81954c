-- A pass read off the work cells: what has to stand there, and what is read.
use Rattle.std.specs.Prelude.{ℕ, ◌+◌, ◌*◌, ◌<◌, ◌≡◌, ◌≢◌, List, length, get_or}
use Rattle.model.specs.Tree.{FFFF}
use Rattle.ancestry.specs.Ancestry.{LowestCommonAncestor}
use Rattle.schedule.specs.InWork.{job_in, mate_part, opener_part}
use Rattle.passes.specs.declared.Pass as declared
use Rattle.passes.specs.declared.Pass.TheVariants as pass

-- the place that opens pass k, its mate, and the jobs at places
abbrev pub opener_in : ℕ → List ℕ → ℕ → ℕ
opener_in n work k = get_or work (opener_part * n + k) 0

abbrev pub mate_in : ℕ → List ℕ → ℕ → ℕ
mate_in n work p = get_or work (mate_part * n + p) 0

-- two jobs whose bottoms are layouts
pub record PairCells (ps bottoms : List ℕ) (i j : ℕ) : Type 0 where
  pub one_known : i < length bottoms
  pub other_known : j < length bottoms
  pub one_bottom : get_or bottoms i 0 < length ps
  pub other_bottom : get_or bottoms j 0 < length ps

-- pass k stands in the work cells: a place that opens it, a mate or none, and jobs at both whose bottoms are layouts
pub record PassCells (ps bottoms work : List ℕ) (k : ℕ) : Type 0 where
  pub opener_inside : opener_part * length bottoms + k < length work
  pub opener_place : opener_in (length bottoms) work k < length bottoms
  pub mate_inside : mate_part * length bottoms + opener_in (length bottoms) work k < length work
  pub order_inside : (p : ℕ) → p < length bottoms → p < length work
  pub mate_place : mate_in (length bottoms) work (opener_in (length bottoms) work k) ≢ FFFF → mate_in (length bottoms) work (opener_in (length bottoms) work k) < length bottoms
  pub known : (p : ℕ) → p < length bottoms → job_in work p < length bottoms
  pub bottom_known : (j : ℕ) → j < length bottoms → get_or bottoms j 0 < length ps

-- the two jobs i and j with the lowest common ancestor of their bottoms
abbrev pub PairRead : List ℕ → List ℕ → ℕ → ℕ → declared.Pass → Type 0
PairRead ps bottoms i j (pass.Pair one other layout) = (one.0 ≡ i) × (other.0 ≡ j) × LowestCommonAncestor ps (get_or bottoms i 0) (get_or bottoms j 0) layout.0
PairRead ps bottoms i j (pass.Single job) = ⊥

-- the job alone
abbrev pub SingleRead : ℕ → declared.Pass → Type 0
SingleRead i (pass.Pair one other layout) = ⊥
SingleRead i (pass.Single job) = job.0 ≡ i

-- pass k by its jobs
pub record PassRead (ps bottoms work : List ℕ) (k : ℕ) (r : declared.Pass) : Type 0 where
  pub alone : mate_in (length bottoms) work (opener_in (length bottoms) work k) ≡ FFFF → SingleRead (job_in work (opener_in (length bottoms) work k)) r
  pub paired : mate_in (length bottoms) work (opener_in (length bottoms) work k) ≢ FFFF → PairRead ps bottoms (job_in work (opener_in (length bottoms) work k)) (job_in work (mate_in (length bottoms) work (opener_in (length bottoms) work k))) r
