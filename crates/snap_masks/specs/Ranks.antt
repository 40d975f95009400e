-- Ranks of numbers: how many different numbers are below each.
use Rattle.std.specs.Prelude.{ℕ, ◌<◌, ◌≤◌, ◌≡◌, List, length, get_or}
use Rattle.std.specs.List.{Contains}
use Rattle.std.specs.List.Sorted.{IsStrictlyIncreasing}

-- the different numbers among some, in rising order
pub record AreDistinct (numbers distinct : List ℕ) : Type 0 where
  pub order : IsStrictlyIncreasing distinct
  pub few : length distinct ≤ length numbers
  pub each : (n : ℕ) → Contains numbers n → Contains distinct n

-- the rank of x: the first `rank` distinct numbers are below x, and the others are not
pub record IsRank (distinct : List ℕ) (x rank : ℕ) : Type 0 where
  pub within : rank ≤ length distinct
  pub before : (i : ℕ) → i < rank → get_or distinct i 0 < x
  pub behind : (i : ℕ) → rank ≤ i → i < length distinct → x ≤ get_or distinct i 0

-- the rank of each number
pub record AreRanks (numbers distinct ranks : List ℕ) : Type 0 where
  pub count : length ranks ≡ length numbers
  pub each : (i : ℕ) → i < length numbers → IsRank distinct (get_or numbers i 0) (get_or ranks i 0)
