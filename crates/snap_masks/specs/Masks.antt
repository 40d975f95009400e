-- Masks of at most 512 rows: bit i is the bit of the i-th row.
use Rattle.std.specs.Prelude.{ℕ, ◌<◌, ◌≡◌, ◌^◌, Bool, List, Option, Some, None, map, length}
use Rattle.std.specs.List.{range_with_len}
use Rattle.std.specs.Int.{bit_at}
use Rattle.std.specs.Simd.Lanes.{mask_l, number_l, Each1}

-- the mask of the numbers that pass a test
abbrev pub mask_by : (ℕ → Bool) → List ℕ → ℕ
mask_by p numbers = mask_l (map p numbers)

-- the mask of the places below n that pass a test
abbrev pub mask_below : (ℕ → Bool) → ℕ → ℕ
mask_below p n = mask_l (map p (range_with_len 0 n))

-- the lanes of a mask, the lowest first
pub record AreLanes (lanes : List ℕ) : Type 0 where
  pub count : length lanes ≡ 8
  pub small : Each1 (λ lane. lane < 2 ^ 64) lanes

abbrev pub number_of_lanes : List ℕ → ℕ
number_of_lanes lanes = number_l (2 ^ 64) lanes

-- the place of a mask's lowest bit
abbrev pub IsFirstBit : ℕ → Option ℕ → Type 0
IsFirstBit mask None = mask ≡ 0
IsFirstBit mask (Some place) = (place < 512) × (bit_at mask place ≡ 1) × ((i : ℕ) → i < place → bit_at mask i ≡ 0)
