-- What a block keeps of numbers with a large spread.
use Rattle.std.specs.Prelude.{ℕ, ◌+◌, ◌≡◌, List, length, get_or, nat_lt}
use Rattle.std.specs.List.Sorted.{IsStrictlyIncreasing}
use Rattle.snap_masks.specs.Masks.{mask_by}
use Rattle.snap_masks.specs.Ranks.{IsRank}

-- the different numbers among some, a mask for each rank, and one for all
pub record IsRanked (numbers distinct under : List ℕ) : Type 0 where
  pub order : IsStrictlyIncreasing distinct
  pub count : length under ≡ length distinct + 1
  pub masked : (x rank : ℕ) → IsRank distinct x rank → get_or under rank 0 ≡ mask_by (λ n. nat_lt n x) numbers
