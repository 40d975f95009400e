-- The components that have updates are below a limit.
use Rattle.std.specs.Prelude.{ℕ, ◌≡◌, ◌<◌, ◌≤◌, List, count_by}
use Rattle.snap_core.specs.Calls.{Call}
use Rattle.snap_core.specs.Entries.{component_count}
use Rattle.snap_index.specs.Updates.{is_update_of}

-- no component from a limit on has an update
pub record IsLimit (calls : List Call) (limit : ℕ) : Type 0 where
  pub few : limit ≤ component_count
  pub none : (k : ℕ) → limit ≤ k → k < component_count → count_by (is_update_of k) calls ≡ 0
