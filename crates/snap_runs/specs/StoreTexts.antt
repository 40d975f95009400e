-- What a text with stamps of a store tells, once its updates are cut.
use Rattle.std.specs.Prelude.{ℕ, List, map, ◌≡◌, ◌⊎◌, ◌+◌, length, slice_index_or, Some, Result, Ok, Err}
use Rattle.snap_core.specs.declared.history.EventRefusal.{EventRefusal}
use Rattle.snap_core.specs.declared.limit.Limit.{Limit}
use Rattle.snap_core.specs.Limited.{LimitedEvents}
use Rattle.snap_text.specs.declared.fault.TextFault.{TextFault}
use Rattle.snap_text.specs.declared.fault.TextFault.TheVariants as faults
use Rattle.snap_format.specs.declared.refusal.ReadRefusal.{ReadRefusal}
use Rattle.snap_format.specs.declared.refusal.ReadRefusal.TheVariants as refusals
use Rattle.snap_format.specs.declared.stamped.Stamped.{Stamped}
use Rattle.snap_format.specs.Faults.{fault_of}
use Rattle.snap_format.specs.StampedTexts.{HasStampedFault, IsStampedText}
use Rattle.snap_format.specs.Stamps.{events_of, places_of}
use Rattle.snap_versions.specs.Refused.{IsRefusedAt}
use Rattle.snap_versions.specs.Stores.{IsContradicted, IsCutHistory, IsTooLong}
use Rattle.snap_runs.specs.declared.store_text.StoreText.{StoreText}
use Rattle.snap_runs.specs.declared.store_text.StoreText.TheVariants.{History, Contradiction}

-- the record of the event at a place, by the records of all events
abbrev pub record_at : List ℕ → ℕ → ℕ
record_at records place = slice_index_or records place 0

-- the history of sorted events, and the record of each of its events
pub record TellsHistory (limit : Limit) (sorted : List Stamped) (history : LimitedEvents) (records : List ℕ) : Type 0 where
  pub places : List ℕ
  pub cut : IsCutHistory limit (events_of sorted) history places
  pub records_are : records ≡ map (record_at (places_of sorted)) places

-- an update ended at the first record, and one of its component with a lower version began at the second, which is later
pub record TellsContradiction (sorted : List Stamped) (ended begun : ℕ) : Type 0 where
  pub end : ℕ
  pub begin : ℕ
  pub contradicted : IsContradicted (events_of sorted) end begin
  pub ended_is : ended ≡ record_at (places_of sorted) end
  pub begun_is : begun ≡ record_at (places_of sorted) begin

-- the first event that no store may have, by its record
pub record RefusesEvent (sorted : List Stamped) (record_number : ℕ) (fault : TextFault) : Type 0 where
  pub place : ℕ
  pub refusal : EventRefusal
  pub refused : IsRefusedAt (events_of sorted) place refusal
  pub fault_is : fault_of refusal ≡ Some fault
  pub record_is : record_number ≡ record_at (places_of sorted) place

-- the history has more events than the limit: that is said of the last record
pub record IsTooLongAt (limit : Limit) (sorted : List Stamped) (record_number : ℕ) (fault : TextFault) : Type 0 where
  pub long : IsTooLong limit (events_of sorted)
  pub fault_is : fault ≡ faults.TooMany
  pub record_is : record_number ≡ length sorted + 1

-- what sorted events tell
abbrev pub RefusesSorted : Limit → List Stamped → ReadRefusal → Type 0
RefusesSorted limit sorted (refusals.Text place fault) = RefusesEvent sorted place fault ⊎ IsTooLongAt limit sorted place fault
RefusesSorted limit sorted refusals.Device = ⊥
RefusesSorted limit sorted refusals.Memory = Unit {0}

abbrev pub TellsSorted : Limit → List Stamped → StoreText → Type 0
TellsSorted limit sorted (History history records) = TellsHistory limit sorted history records.items
TellsSorted limit sorted (Contradiction ended begun) = TellsContradiction sorted ended begun

abbrev pub AnswersSorted : Limit → List Stamped → Result StoreText ReadRefusal → Type 0
AnswersSorted limit sorted (Ok told) = TellsSorted limit sorted told
AnswersSorted limit sorted (Err e) = RefusesSorted limit sorted e

-- what a text tells: its events by their stamps do
abbrev pub TellsText : Limit → List ℕ → StoreText → Type 0
TellsText limit text told = (sorted : List Stamped) × IsStampedText limit text sorted × TellsSorted limit sorted told

-- the first fault of a text, and its record: a fault of the text itself, or of its events by their stamps
abbrev pub HasStoreFault : Limit → List ℕ → ℕ → TextFault → Type 0
HasStoreFault limit text place fault =
    HasStampedFault limit text place fault ⊎ ((sorted : List Stamped) × IsStampedText limit text sorted × (RefusesEvent sorted place fault ⊎ IsTooLongAt limit sorted place fault))

abbrev pub RefusesStore : Limit → List ℕ → ReadRefusal → Type 0
RefusesStore limit text (refusals.Text place fault) = HasStoreFault limit text place fault
RefusesStore limit text refusals.Device = Unit {0}
RefusesStore limit text refusals.Memory = Unit {0}

abbrev pub AnswersStore : Limit → List ℕ → Result StoreText ReadRefusal → Type 0
AnswersStore limit text (Ok told) = TellsText limit text told
AnswersStore limit text (Err e) = RefusesStore limit text e

-- a history has a record for each event
abbrev pub HasRecords : StoreText → Type 0
HasRecords (History history records) = length records.items ≡ length history.events
HasRecords (Contradiction ended begun) = Unit {0}
