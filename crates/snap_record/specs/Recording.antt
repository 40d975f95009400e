-- The stamps and the places of a recorded history.
use Rattle.std.specs.Prelude.{◌≡◌, ℕ, ◌<◌, List, [], slice_index, slice_index_or, length}
use Rattle.snap_account.specs.Calls.{Mem}
use Rattle.snap_core.specs.declared.event.Event.{Event}
use Rattle.snap_account.specs.declared.account.Account.{Account}
use Rattle.snap_record.specs.declared.plan.Step.{Step}
use Rattle.snap_board.specs.Settled.{Settled, ScansSettled, TicksSettled, WereInterfered}
use Rattle.snap_board.specs.History.{all_records, event_stamps, events_in, Merged}
use Rattle.snap_record.specs.Scripts.{AreCallsOf}
use Rattle.snap_core.specs.Calls.{calls_of}
use Rattle.snap_core.specs.Orders.{IsAtomic}
use Rattle.snap_board.specs.Scans.{scan_history}

-- The events are the begins and ends of the records of a closed board whose desks did these scripts, in the order of their ticks.
-- The stamps are these ticks.
pub record AreStamped (scripts : List (List Step)) (history : List Event) (stamps : List ℕ) : Type 0 where
  pub accounts : List Account
  pub closed : Settled (length scripts) accounts
  -- each desk made the calls of its script, each once and in their order
  pub calls : (a : Account) → Mem a accounts → AreCallsOf (slice_index_or scripts a.desk []) a.calls
  -- each tick of the board, from 0 on, is a begin, a middle tick or an end of exactly one of these calls
  pub ticks : TicksSettled accounts
  -- what is true of scans: each shows the board as it was at its last middle tick
  pub scans : ScansSettled accounts
  -- at least as many stores of other desks overlap a scan that was left out as it has tries
  pub interfered : WereInterfered accounts
  -- the stores and scans alone are atomic
  pub atomic : IsAtomic (calls_of (scan_history accounts))
  pub timeline : List (ℕ × Event)
  pub merged : Merged (all_records accounts) timeline
  pub events_are : history ≡ events_in timeline
  pub stamps_are : stamps ≡ event_stamps timeline

-- the stamp at each place is the place: 0, 1, 2 and so on
abbrev pub ArePlaces : List ℕ → Type 0
ArePlaces stamps = (k : ℕ) → k < length stamps → slice_index stamps k ≡ k
