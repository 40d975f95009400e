-- The first fault of a history, of which its witness is made.
use Rattle.std.specs.Prelude.{ℕ, Bool, List, ◌≡◌, Option, Some, if◌then◌else◌}
use Rattle.std.specs.Option.{option_map, option_or}
use Rattle.snap_core.specs.declared.event.Event.{Event}
use Rattle.snap_core.specs.Calls.{Call, calls_of, views_of}
use Rattle.snap_theory.specs.Faults.{old_fault, first_of, integrity_faults, proximity_faults, read_faults, write_faults}
use Rattle.snap_theory.specs.FaultWitnesses.{Fault, Integrity, Old, Early, Read, Write, fault_views, fault_updates, HasFaultKept}
use Rattle.snap_theory.specs.Kept.{kept_from}
use Rattle.snap_theory.specs.Choices.{KeepsCalls}
use Rattle.snap_theory.specs.Witness.{in_witness}

-- the first fault of each kind

unfoldable pub first_integrity : List Call → Option Fault
first_integrity calls = option_map (λ (f : Call × ℕ). Integrity f.0 f.1) (first_of (integrity_faults calls (views_of calls)))

abbrev pub proximity_of : List Call → Call × ℕ → Fault
proximity_of calls f = if old_fault calls f.0 f.1 then Old f.0 f.1 else Early f.0 f.1

unfoldable pub first_proximity : List Call → Option Fault
first_proximity calls = option_map (proximity_of calls) (first_of (proximity_faults calls (views_of calls)))

unfoldable pub first_read : List Call → Option Fault
first_read calls = option_map (λ (f : Call × Call). Read f.0 f.1) (first_of (read_faults calls (views_of calls)))

unfoldable pub first_write : List Call → Option Fault
first_write calls = option_map (λ (f : Call × ℕ × ℕ). Write f.0 f.1 f.2) (first_of (write_faults calls (views_of calls)))

-- the first fault of the first kind that the calls have a fault of: integrity, proximity, read, write
abbrev pub first_fault : List Call → Option Fault
first_fault calls = option_or (first_integrity calls) (option_or (first_proximity calls) (option_or (first_read calls) (first_write calls)))

-- some whole calls of a history, with their processes, values and precedence
pub record AreWholeCalls (events kept : List Event) : Type 0 where
  pub keeps : ℕ → Bool
  pub numbers : ℕ → ℕ
  pub same : kept ≡ kept_from keeps numbers 0 events
  pub calls : KeepsCalls keeps numbers events

-- the calls that are kept have the first fault of the history, of the same views and components
pub record HasFirstFault (events kept : List Event) : Type 0 where
  pub fault : Fault
  pub first : first_fault (calls_of events) ≡ Some fault
  pub there : HasFaultKept (calls_of kept) (in_witness events (fault_views fault) (fault_updates fault)) fault
