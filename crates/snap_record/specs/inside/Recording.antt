-- What the workers of a plan did on a closed board.
use Rattle.std.specs.Prelude.{◌≡◌, ℕ, List, [], slice_index_or, length}
use Rattle.snap_core.specs.Sums.{total}
use Rattle.snap_account.specs.Calls.{Mem}
use Rattle.snap_core.specs.declared.event.Event.{Event}
use Rattle.snap_core.specs.Events.{events_of}
use Rattle.snap_account.specs.declared.account.Account.{Account}
use Rattle.snap_record.specs.declared.plan.Step.{Step}
use Rattle.snap_board.specs.declared.record.Record.{Record}
use Rattle.snap_record.specs.Delivery.{of_worker, AreBelow}
use Rattle.snap_board.specs.Desks.{records_in, lost_in, collects_in}
use Rattle.snap_board.specs.Settled.{Settled, ScansSettled, TicksSettled}
use Rattle.snap_record.specs.Choices.{views_in}
use Rattle.snap_board.specs.History.{events_in, stamped_events}
use Rattle.snap_record.specs.Scripts.{AreCallsOf}
use Rattle.snap_record.specs.inside.Scripts.{DidSome}

-- each desk made the calls of the script of its number; in all, `interfered` scans have no record
pub record DidTheirs (scripts : List (List Step)) (accounts : List Account) (interfered : ℕ) : Type 0 where
  pub did : (a : Account) → Mem a accounts → DidSome a.desk (slice_index_or scripts a.desk []) (records_in a) (lost_in a.calls)
  pub views : (a : Account) → Mem a accounts → collects_in a.calls ≡ views_in (slice_index_or scripts a.desk [])
  pub left : total (λ (a : Account). length (lost_in a.calls)) accounts ≡ interfered
  pub calls : (a : Account) → Mem a accounts → AreCallsOf (slice_index_or scripts a.desk []) a.calls

-- Each worker did its script on a closed board. Its records are those of its number, and `interfered` scans in all have none.
pub record DidScripts (scripts : List (List Step)) (records : List Record) (interfered : ℕ) : Type 0 where
  pub accounts : List Account
  pub settled : Settled (length scripts) accounts
  pub scans : ScansSettled accounts
  pub ticks : TicksSettled accounts
  pub theirs : DidTheirs scripts accounts interfered
  pub own : (a : Account) → Mem a accounts → records_in a ≡ of_worker a.desk records
  pub no_other : AreBelow (length scripts) records

-- each process has in the history the events of its records, and no others
abbrev pub IsTold : List Record → List Event → Type 0
IsTold records history = (p : ℕ) → events_of p history ≡ events_in (stamped_events (of_worker p records))
