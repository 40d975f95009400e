-- What faults say of regular histories, of monotone ones and of the conditions, whatever the length of the history.
use Rattle.std.specs.Prelude.{◌<◌, ◌≤◌, ◌+◌, true, Some, Contains, ℕ, List, [], ◌++◌, ◌≡◌, ◌↔◌}
use Rattle.snap_core.specs.declared.event.Event.{Event}
use Rattle.snap_core.specs.Events.{IsHistory, HasByteComponents}
use Rattle.snap_core.specs.Calls.{Call, calls_of, shown_number, views_of}
use Rattle.snap_core.specs.Monotone.{IsMonotone}
use Rattle.snap_core.specs.Regular.{IsRegular}
use Rattle.snap_theory.specs.Conditions.{MeetsConditions}
use Rattle.snap_theory.specs.Faults.{HasNoLocalFault, HasNoFault, integrity_faults, proximity_faults, read_faults, write_faults, stale_count, read_fault, least_exceeding}

-- regular exactly when no view alone has a fault
abbrev pub RegularExactly : Type 0
RegularExactly = (events : List Event) → IsHistory events → HasByteComponents events → IsRegular (calls_of events) ↔ HasNoLocalFault (calls_of events)

-- the four conditions hold exactly when there is no fault
abbrev pub ConditionsExactly : Type 0
ConditionsExactly = (events : List Event) → IsHistory events → HasByteComponents events → MeetsConditions (calls_of events) ↔ HasNoFault (calls_of events)

-- the faults of two ranges of views are those of the first, and then those of the second
pub record FaultsJoin (calls rs ss : List Call) : Type 0 where
  pub integrity : integrity_faults calls (rs ++ ss) ≡ integrity_faults calls rs ++ integrity_faults calls ss
  pub proximity : proximity_faults calls (rs ++ ss) ≡ proximity_faults calls rs ++ proximity_faults calls ss
  pub read : read_faults calls (rs ++ ss) ≡ read_faults calls rs ++ read_faults calls ss
  pub write : write_faults calls (rs ++ ss) ≡ write_faults calls rs ++ write_faults calls ss
  pub stale : stale_count calls (rs ++ ss) ≡ stale_count calls rs + stale_count calls ss

-- the component of a read fault is the least of which the first view shows more
pub record IsLeastExceeding (r s : Call) (k : ℕ) : Type 0 where
  pub more : shown_number s k < shown_number r k
  pub least : (j : ℕ) → j < k → shown_number r j ≤ shown_number s j

abbrev pub ReadFaultHasComponent : Type 0
ReadFaultHasComponent = (events : List Event) → HasByteComponents events → (r s : Call) → Contains (calls_of events) r → read_fault r s ≡ true → (k : ℕ) × (least_exceeding r s ≡ Some k) × IsLeastExceeding r s k

-- monotone exactly when no completed view is stale to another
abbrev pub MonotoneExactly : Type 0
MonotoneExactly = (calls : List Call) → IsMonotone calls ↔ (stale_count calls (views_of calls) ≡ 0)

-- if there is no read fault, the views do not go back
abbrev pub MonotoneWithoutReadFault : Type 0
MonotoneWithoutReadFault = (calls : List Call) → read_faults calls (views_of calls) ≡ [] → IsMonotone calls
