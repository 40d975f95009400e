-- Orders as they are given to a report, by the numbers of their calls.
use Rattle.std.specs.Prelude.{ℕ, true, List, ◌≡◌, ◌<◌, ◌⊎◌, length, map}
use Rattle.snap_core.specs.Calls.{Call, call_numbered, is_view}
use Rattle.snap_core.specs.Orders.{is_update}

abbrev pub calls_numbered : List Call → List ℕ → List Call
calls_numbered calls numbers = map (call_numbered calls) numbers

-- the number of a call that is an update or a completed view
pub record HasLine (calls : List Call) (n : ℕ) : Type 0 where
  pub below : n < length calls
  pub kind : (is_update (call_numbered calls n) ≡ true) ⊎ (is_view (call_numbered calls n) ≡ true)
