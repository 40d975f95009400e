-- What masks of numbers keep.
use Rattle.std.specs.Prelude.{ℕ, suc, true, ◌+◌, ◌<◌, ◌≤◌, ◌≡◌, List, length, get_or, nat_lt, Option, Some}
use Rattle.snap_masks.specs.declared.bounds.Bounds.{Bounds}
use Rattle.snap_masks.specs.Masks.{mask_by, mask_below}

-- after an empty mask, the mask of the numbers below each x, from the least to two more than the greatest; or no mask at all
pub record AreUnder (numbers : List ℕ) (bounds : Bounds) (under : List ℕ) : Type 0 where
  pub bounded : (i : ℕ) → i < length numbers → (bounds.least ≤ get_or numbers i 0) × (get_or numbers i 0 ≤ bounds.greatest)
  pub first : get_or under 0 0 ≡ 0
  pub tabled : (x : ℕ) → suc x < length under → get_or under (suc x) 0 ≡ mask_by (λ n. nat_lt n (bounds.least + x)) numbers
  pub long : 0 < length under → (3 < length under) × (bounds.greatest + 3 < bounds.least + length under)

-- if there is no table, the numbers are kept by their ranks
abbrev pub AreRankedElse : List ℕ → List ℕ → Option (List ℕ) → Type 0
AreRankedElse numbers under ranked = length under ≡ 0 → ranked ≡ Some numbers

pub record AreTables (numbers : List ℕ) (bounds : Bounds) (under : List ℕ) (ranked : Option (List ℕ)) (all : ℕ) : Type 0 where
  pub few : length numbers ≤ 512
  pub tabled : AreUnder numbers bounds under
  pub ranked_else : AreRankedElse numbers under ranked
  pub whole : all ≡ mask_below (λ a. true) (length numbers)
