-- How far ahead of each place the next one of its window is: gaps over the work cells that name the windows. n is the number of places.
use Rattle.std.specs.Prelude.{ℕ, ◌+◌, ◌<◌, ◌≤◌, ◌≡◌, List, length, get_or}
use Rattle.model.specs.Jobs.{job_limit, window_limit}
use Rattle.schedule.specs.InWork.{window_in}

-- n places whose windows there are
pub record WindowsKnown (n : ℕ) (work : List ℕ) : Type 0 where
  pub few : n ≤ job_limit
  pub room : n ≤ length work
  pub known : (p : ℕ) → p < n → window_in work p < window_limit

-- a gap that leads no further than any place at or behind both
pub record GapTo (place later gap : ℕ) : Type 0 where
  pub within : (q : ℕ) → place ≤ q → later ≤ q → place + gap ≤ q

-- of n places those from p on have gaps that lead no further than the next place of their window
pub record GapsFrom (n : ℕ) (work : List ℕ) (p : ℕ) (gaps : List ℕ) : Type 0 where
  pub counted : length gaps ≡ n
  pub inside : (i : ℕ) → p ≤ i → i < n → i + get_or gaps i 0 < n
  pub first : (i q : ℕ) → p ≤ i → i < q → q < n → window_in work i ≡ window_in work q → i + get_or gaps i 0 ≤ q

abbrev pub GapsSet : ℕ → List ℕ → List ℕ → Type 0
GapsSet n work gaps = GapsFrom n work 0 gaps
