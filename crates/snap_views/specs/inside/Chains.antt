-- The completed views by their sums, as they are sorted and compared with their neighbours.
use Rattle.std.specs.Prelude.{ℕ, suc, false, List, map, length, get_or, ◌≡◌, ◌+◌, ◌*◌, ◌%◌, ◌<◌}
use Rattle.std.specs.List.{range_with_len}
use Rattle.snap_core.specs.Calls.{Call, views_of}
use Rattle.snap_core.specs.Events.{event_cap}
use Rattle.snap_theory.specs.Faults.{exceeds}
use Rattle.snap_views.specs.Quick.{shown_sum}
use Rattle.snap_views.specs.Seen.{view_in}
use Rattle.snap_views.specs.Chains.{summed_at}

-- the sum and the place of each completed view
abbrev pub summed_views : List Call → List (ℕ × ℕ)
summed_views calls = map (summed_at calls) (range_with_len 0 (length (views_of calls)))

-- a key has the sum of the completed view at its place
abbrev pub IsSummed : List Call → ℕ × ℕ → Type 0
IsSummed calls key = (key.1 < length (views_of calls)) × (key.0 ≡ shown_sum (view_in calls key.1))

-- a key as one number of 64 bits
abbrev pub joined : ℕ × ℕ → ℕ
joined key = (key.0 * event_cap % 18446744073709551616 + key.1) % 18446744073709551616

-- among the first n keys, each view shows no component above the next one's
pub record Climbs (calls : List Call) (keys : List (ℕ × ℕ)) (n : ℕ) : Type 0 where
  pub each : (i : ℕ) (d : ℕ × ℕ) → suc i < n → exceeds (view_in calls (get_or keys i d).1) (view_in calls (get_or keys (suc i) d).1) ≡ false
