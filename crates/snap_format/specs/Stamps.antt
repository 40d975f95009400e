-- Records with stamps: what each spells, the faults of each, and their events in the order of the stamps.
use Rattle.std.specs.Prelude.{◌≡◌, ◌<◌, ◌+◌, ◌^◌, ◌⊎◌, ◌==◌, not, nat_le, if◌then◌else◌, slice_index_or, ℕ, List, [], ◌∷◌, length, map, take, Option, Some, None, Result, Ok, Err}
use Rattle.snap_core.specs.declared.limit.Limit.{Limit}
use Rattle.std.specs.List.{list_any}
use Rattle.std.specs.List.Sorted.{IsPermutation, IsStrictlyIncreasing}
use Rattle.snap_core.specs.declared.event.Event.{Event}
use Rattle.snap_core.specs.declared.event.Event.TheVariants.{BeginView}
use Rattle.snap_text.specs.declared.fault.TextFault.{TextFault}
use Rattle.snap_text.specs.declared.fault.TextFault.TheVariants as faults
use Rattle.snap_format.specs.declared.stamped.Stamped.{Stamped}
use Rattle.snap_text.specs.Fields.{◌>>=◌, Fields, event_of, number_at, or_fault}
use Rattle.snap_format.specs.Faults.{fault_with}

-- the stamp and the event of a record, or the first fault in its fields: the stamp is tested first
unfoldable pub stamped_row : Fields → Result (ℕ × Event) TextFault
stamped_row (t ∷ a ∷ p ∷ o ∷ d ∷ []) = do
  at ← or_fault faults.BadAt (number_at (2 ^ 64) t)
  event ← event_of a p o d
  Ok (at, event)
stamped_row others = Err faults.Fields

abbrev pub with_stamped : ℕ → Result (ℕ × Event) TextFault → List Stamped → List Stamped
with_stamped place (Ok x) later = record { at = x.0; place = place; event = x.1 } ∷ later
with_stamped place (Err f) later = later

-- the stamped events of records, the first of which has this number; records that spell no event are left out
abbrev pub stamped_from : ℕ → List Fields → List Stamped
stamped_from place [] = []
stamped_from place (r ∷ rows) = with_stamped place (stamped_row r) (stamped_from (place + 1) rows)

-- the stamped events of the records under the header, which is record 1
abbrev pub stamped_in : List Fields → List Stamped
stamped_in rows = stamped_from 2 rows

abbrev pub stamps_of : List Stamped → List ℕ
stamps_of xs = map (λ x. x.at) xs

abbrev pub events_of : List Stamped → List Event
events_of xs = map (λ x. x.event) xs

abbrev pub places_of : List Stamped → List ℕ
places_of xs = map (λ x. x.place) xs

-- the fault in a record's fields, or else that an earlier record has its stamp
abbrev pub repeat_fault : List ℕ → Result (ℕ × Event) TextFault → Option TextFault
repeat_fault earlier (Err f) = Some f
repeat_fault earlier (Ok x) = if list_any (λ s. x.0 == s) earlier then Some faults.Repeated else None

-- the first fault of a record by itself, after `count` records with these stamps. In this order: its number of fields, whether the
-- history would be full, what the fields spell, and whether its stamp is new
unfoldable pub shape_fault : Limit → ℕ → List ℕ → Fields → Option TextFault
shape_fault limit count earlier r =
    if not (length r == 5) then Some faults.Fields
    else if nat_le limit.events count then Some faults.TooMany
    else repeat_fault earlier (stamped_row r)

-- the first fault by itself of the record at a place among those under the header
abbrev pub shape_at : Limit → List Fields → ℕ → Option TextFault
shape_at limit rows i = shape_fault limit i (stamps_of (stamped_in (take i rows))) (slice_index_or rows i [])

-- what `order_at` and `OrderFault` take if a place has no event
abbrev pub nothing : Stamped
nothing = record { at = 0; place = 0; event = BeginView 0 }

-- the fault of an event after those with smaller stamps
abbrev pub order_at : Limit → List Stamped → ℕ → Option TextFault
order_at limit xs i = fault_with limit (events_of (take i xs)) (Ok (slice_index_or xs i nothing).event)

-- none of the first `count` places has a fault
abbrev pub NoneOf : (ℕ → Option TextFault) → ℕ → Type 0
NoneOf fault count = (i : ℕ) → i < count → fault i ≡ None

-- the first fault at the first `count` places, and its place
pub record FirstOf (fault : ℕ → Option TextFault) (count i : ℕ) (f : TextFault) : Type 0 where
  pub below : i < count
  pub here : fault i ≡ Some f
  pub first : NoneOf fault i

-- the stamped events of records, in strictly rising order of their stamps
pub record InOrder (rows : List Fields) (xs : List Stamped) : Type 0 where
  pub same : IsPermutation (stamped_in rows) xs
  pub rising : IsStrictlyIncreasing (stamps_of xs)

-- no record has a fault by itself, and no event has one after those with smaller stamps
pub record StampedRead (limit : Limit) (rows : List Fields) (events : List Event) : Type 0 where
  pub shapes : NoneOf (shape_at limit rows) (length rows)
  pub sorted : List Stamped
  pub order : InOrder rows sorted
  pub fine : NoneOf (order_at limit sorted) (length sorted)
  pub history : events ≡ events_of sorted

-- the first record with a fault by itself
pub record ShapeFault (limit : Limit) (rows : List Fields) (place : ℕ) (f : TextFault) : Type 0 where
  pub i : ℕ
  pub record_is : place ≡ i + 2
  pub first : FirstOf (shape_at limit rows) (length rows) i f

-- no record has a fault by itself; `place` is the record number of the first event, by stamps, that has a fault
pub record OrderFault (limit : Limit) (rows : List Fields) (place : ℕ) (f : TextFault) : Type 0 where
  pub shapes : NoneOf (shape_at limit rows) (length rows)
  pub sorted : List Stamped
  pub order : InOrder rows sorted
  pub i : ℕ
  pub first : FirstOf (order_at limit sorted) (length sorted) i f
  pub record_is : place ≡ (slice_index_or sorted i nothing).place

abbrev pub StampedFault : Limit → List Fields → ℕ → TextFault → Type 0
StampedFault limit rows place f = ShapeFault limit rows place f ⊎ OrderFault limit rows place f
