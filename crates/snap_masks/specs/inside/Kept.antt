-- What a column keeps.
use Rattle.std.specs.Prelude.{ℕ, ◌*◌, ◌<◌, ◌≤◌, List, length, get_or}
use Rattle.snap_masks.specs.declared.bounds.Bounds.{Bounds}
use Rattle.snap_masks.specs.Limits.{row_limit, table_limit}
use Rattle.snap_masks.specs.Numbers.{IsBounded, IsOrderedAs}

pub record IsColumn (numbers : List ℕ) (bounds : List Bounds) (limit : ℕ) (ranks : List ℕ) : Type 0 where
  pub few : length numbers ≤ row_limit
  pub blocks : (block : ℕ) → block * 512 < length numbers → block < length bounds
  pub bounded : (block : ℕ) (b : Bounds) → block * 512 < length numbers → IsBounded numbers block (get_or bounds block b)
  pub small : limit ≤ table_limit
  pub ranked : 0 < length ranks → IsOrderedAs numbers ranks
