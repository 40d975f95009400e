-- What becomes of stamped events, of their stamps and of their order.
use Rattle.std.specs.Prelude.{◌≡◌, ◌==◌, slice_index_or, ◌≤◌, ◌<◌, ◌+◌, ℕ, Bool, true, false, List, [], ◌∷◌, ◌++◌, length, take, Some, None, Result, Ok, Err}
use Rattle.snap_core.specs.declared.limit.Limit.{Limit}
use Rattle.std.specs.Global.{Vec}
use Rattle.std.specs.BTreeSet.{BTreeSet, contains}
use Rattle.std.specs.List.{IsDistinct, list_any}
use Rattle.std.specs.Ordering.{nat_cmp}
use Rattle.snap_core.specs.Limited.{LimitedEvents}
use Rattle.snap_core.specs.declared.event.Event.{Event}
use Rattle.snap_format.specs.declared.refusal.ReadRefusal.{ReadRefusal}
use Rattle.snap_format.specs.declared.refusal.ReadRefusal.TheVariants as refusals
use Rattle.snap_text.specs.Fields.{Fields}
use Rattle.snap_format.specs.declared.stamped.Stamped.{Stamped}
use Rattle.snap_format.specs.Stamps.{FirstOf, NoneOf, StampedFault, StampedRead, events_of, nothing, order_at, places_of, shape_fault, stamped_row, stamps_of}

-- a set has the stamps of some events, and no two of these are equal
pub record HasSeen (seen : BTreeSet ℕ) (xs : List Stamped) : Type 0 where
  pub has : (q : ℕ) → contains nat_cmp seen q ≡ list_any (λ s. q == s) (stamps_of xs)
  pub distinct : IsDistinct (λ a b. a == b) (stamps_of xs)

-- an earlier event has the stamp of this one
abbrev pub repeats_at : List Stamped → ℕ → Bool
repeats_at xs i = list_any (λ s. (slice_index_or xs i nothing).at == s) (stamps_of (take i xs))

-- the first event whose stamp an earlier one has, by the number of its record
pub record FirstRepeat (xs : List Stamped) (place : ℕ) : Type 0 where
  pub i : ℕ
  pub below : i < length xs
  pub record_is : place ≡ (slice_index_or xs i nothing).place
  pub here : repeats_at xs i ≡ true
  pub first : (j : ℕ) → j < i → repeats_at xs j ≡ false

-- what becomes of stamped events and a record, repeated stamps aside
abbrev pub RefusesStamped : Limit → ℕ → List Stamped → Fields → ReadRefusal → Type 0
RefusesStamped limit place old r (refusals.Text p f) = (p ≡ place) × (shape_fault limit (length old) [] r ≡ Some f)
RefusesStamped limit place old r refusals.Device = ⊥
RefusesStamped limit place old r refusals.Memory = Unit {0}

abbrev pub TakesStamped : Limit → ℕ → List Stamped → List Stamped → Fields → Result (Unit {0}) ReadRefusal → Type 0
TakesStamped limit place old new r (Ok u) =
    (shape_fault limit (length old) [] r ≡ None)
    × (x : ℕ × Event) × (stamped_row r ≡ Ok x) × (new ≡ old ++ record { at = x.0; place = place; event = x.1 } ∷ [])
TakesStamped limit place old new r (Err e) = (new ≡ old) × RefusesStamped limit place old r e

-- a stamped event is that of the record at a place, which has no fault, repeated stamps aside
pub record IsRecord (limit : Limit) (i : ℕ) (r : Fields) (x : Stamped) : Type 0 where
  pub fine : shape_fault limit i [] r ≡ None
  pub spells : stamped_row r ≡ Ok (x.at, x.event)
  pub numbered : x.place ≡ i + 2

-- stamped events are those of the first records
pub record FirstRecords (limit : Limit) (rows : List Fields) (xs : List Stamped) : Type 0 where
  pub within : length xs ≤ length rows
  pub each : (i : ℕ) → i < length xs → IsRecord limit i (slice_index_or rows i []) (slice_index_or xs i nothing)

-- after n records none is left, or the next one has a fault, repeated stamps aside
abbrev pub RefusesNext : Limit → List Fields → ℕ → ReadRefusal → Type 0
RefusesNext limit rows n (refusals.Text place f) = (n < length rows) × (place ≡ n + 2) × (shape_fault limit n [] (slice_index_or rows n []) ≡ Some f)
RefusesNext limit rows n refusals.Device = ⊥
RefusesNext limit rows n refusals.Memory = Unit {0}

abbrev pub StopsAt : Limit → List Fields → ℕ → Result (Unit {0}) ReadRefusal → Type 0
StopsAt limit rows n (Ok u) = n ≡ length rows
StopsAt limit rows n (Err e) = RefusesNext limit rows n e

-- the stamped events of the records up to the first with a fault, repeated stamps aside
abbrev pub ReadsStamped : Limit → List Fields → List Stamped → Result (Unit {0}) ReadRefusal → Type 0
ReadsStamped limit rows xs result = FirstRecords limit rows xs × StopsAt limit rows (length xs) result

-- the history of events in this order, or the first with a fault
abbrev pub RefusesTurns : Limit → List Stamped → ReadRefusal → Type 0
RefusesTurns limit xs (refusals.Text place f) = (i : ℕ) × FirstOf (order_at limit xs) (length xs) i f × (place ≡ (slice_index_or xs i nothing).place)
RefusesTurns limit xs refusals.Device = ⊥
RefusesTurns limit xs refusals.Memory = Unit {0}

abbrev pub TakesTurns : Limit → List Stamped → Result LimitedEvents ReadRefusal → Type 0
TakesTurns limit xs (Ok h) = NoneOf (order_at limit xs) (length xs) × (h.events ≡ events_of xs) × (h.limit ≡ limit)
TakesTurns limit xs (Err e) = RefusesTurns limit xs e

-- what an answer says of the records under the header of a text with stamps, and of the numbers of the events' records
abbrev pub RefusesStamps : Limit → List Fields → ReadRefusal → Type 0
RefusesStamps limit rows (refusals.Text place f) = StampedFault limit rows place f
RefusesStamps limit rows refusals.Device = ⊥
RefusesStamps limit rows refusals.Memory = Unit {0}

abbrev pub AnswersStamps : Limit → List Fields → Result (LimitedEvents × Vec ℕ) ReadRefusal → Type 0
AnswersStamps limit rows (Ok x) = (read : StampedRead limit rows x.0.events) × (x.1.items ≡ places_of read.sorted) × (x.0.limit ≡ limit)
AnswersStamps limit rows (Err e) = RefusesStamps limit rows e
