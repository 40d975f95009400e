-- What becomes of a history and the records that it takes.
use Rattle.std.specs.Prelude.{◌≡◌, ◌≤◌, ◌<◌, ℕ, true, List, [], ◌∷◌, ◌++◌, drop, length, take, Option, Some, None, Result, Ok, Err}
use Rattle.snap_core.specs.declared.limit.Limit.{Limit}
use Rattle.std.specs.Global.{Vec}
use Rattle.std.specs.List.{range_with_len}
use Rattle.snap_core.specs.Limited.{LimitedEvents}
use Rattle.snap_core.specs.declared.event.Event.{Event}
use Rattle.snap_text.specs.declared.fault.TextFault.{TextFault}
use Rattle.snap_format.specs.declared.refusal.ReadRefusal.{ReadRefusal}
use Rattle.snap_format.specs.declared.refusal.ReadRefusal.TheVariants as refusals
use Rattle.snap_format.specs.Layout.{is_header_row}
use Rattle.snap_text.specs.Fields.{Fields, row_event}
use Rattle.snap_format.specs.Faults.{events_in, fault_at, fault_with, row_fault}
use Rattle.snap_format.specs.Texts.{RowsRead, RowsFault}
use Rattle.snap_format.specs.Records.{RowsNumbered}

-- what an answer says of records whose history may have `limit` events: a history that was read has this limit
abbrev pub RefusesRows : Limit → List Fields → ReadRefusal → Type 0
RefusesRows limit rows (refusals.Text place f) = RowsFault limit rows place f
RefusesRows limit rows refusals.Device = ⊥
RefusesRows limit rows refusals.Memory = Unit {0}

abbrev pub AnswersRows : Limit → List Fields → Result LimitedEvents ReadRefusal → Type 0
AnswersRows limit rows (Ok h) = RowsRead limit rows h.events × (h.limit ≡ limit)
AnswersRows limit rows (Err e) = RefusesRows limit rows e

-- the numbers of the events' records: those that were kept, or from 2 on if none were kept
abbrev pub numbers_kept : ℕ → Option (Vec ℕ) → List ℕ
numbers_kept count None = range_with_len 2 count
numbers_kept count (Some kept) = kept.items

abbrev pub AnswersNumbered : Limit → List Fields → Result (LimitedEvents × Option (Vec ℕ)) ReadRefusal → Type 0
AnswersNumbered limit rows (Ok x) = AnswersRows limit rows (Ok x.0) × RowsNumbered rows (numbers_kept (length x.0.events) x.1)
AnswersNumbered limit rows (Err e) = RefusesRows limit rows e

-- the answer to a record with this fault
abbrev pub RefusesFault : ℕ → Option TextFault → ReadRefusal → Type 0
RefusesFault place fault (refusals.Text p f) = (p ≡ place) × (fault ≡ Some f)
RefusesFault place fault refusals.Device = ⊥
RefusesFault place fault refusals.Memory = Unit {0}

-- what becomes of a history and a record under the header
abbrev pub RefusesRow : Limit → ℕ → List Event → Fields → ReadRefusal → Type 0
RefusesRow limit place old r e = RefusesFault place (row_fault limit old r) e

abbrev pub TakesRow : Limit → ℕ → List Event → List Event → Fields → Result (Unit {0}) ReadRefusal → Type 0
TakesRow limit place old new r (Ok u) = (row_fault limit old r ≡ None) × (x : Event) × (row_event r ≡ Ok x) × (new ≡ old ++ x ∷ [])
TakesRow limit place old new r (Err e) = RefusesRow limit place old r e

-- the records from place i under the header on are left to be read, and the history is that of those before it
pub record Midway (limit : Limit) (rows : List Fields) (Left : List Fields → Type 0) (events : List Event) (i : ℕ) : Type 0 where
  pub head : Fields
  pub later : List Fields
  pub whole : rows ≡ head ∷ later
  pub header : is_header_row head ≡ true
  pub left : Left (drop i later)
  pub within : i ≤ length later
  pub fine : (j : ℕ) → j < i → fault_at limit later j ≡ None
  pub history : events ≡ events_in (take i later)
  pub count : length events ≡ i
  pub room : i ≤ limit.events

-- what becomes of a history and an event
abbrev pub TakesEvent : Limit → ℕ → List Event → List Event → Event → Result (Unit {0}) ReadRefusal → Type 0
TakesEvent limit place old new x (Ok u) = (fault_with limit old (Ok x) ≡ None) × (new ≡ old ++ x ∷ [])
TakesEvent limit place old new x (Err e) = RefusesFault place (fault_with limit old (Ok x)) e

-- the answer for what the fields of a record spell
abbrev pub FailsFields : {X : Type 0} → ℕ → ReadRefusal → Result X TextFault → Type 0
FailsFields place (refusals.Text p f) read = (p ≡ place) × (read ≡ Err f)
FailsFields place refusals.Device read = ⊥
FailsFields place refusals.Memory read = Unit {0}

abbrev pub GivesFields : {X : Type 0} → ℕ → Result X ReadRefusal → Result X TextFault → Type 0
GivesFields place (Ok x) read = read ≡ Ok x
GivesFields place (Err e) read = FailsFields place e read

-- all records that were left are taken, or the first fault
abbrev pub TakesRest : Limit → List Fields → LimitedEvents → Result (Unit {0}) ReadRefusal → Type 0
TakesRest limit rows new (Ok u) = AnswersNumbered limit rows (Ok (new, None))
TakesRest limit rows new (Err e) = RefusesRows limit rows e
