-- Some calls of a history as a history of their own: the events of these calls alone, in their order. Of each component at most
-- one update is kept, and it becomes update 1. A view shows what it showed of the updates that are kept, and no more.
use Rattle.std.specs.Prelude.{ℕ, zero, suc, ◌+◌, Bool, false, ◌||◌, List, [], ◌∷◌, ◌==◌, Option, Some, None, if◌then◌else◌}
use Rattle.std.specs.List.{list_any}
use Rattle.std.specs.Option.{option_map}
use Rattle.snap_core.specs.declared.entry.Entry.{Entry}
use Rattle.snap_core.specs.declared.event.Event.{Event}
use Rattle.snap_core.specs.declared.event.Event.TheVariants.{BeginUpdate, BeginView, EndUpdate, EndView}
use Rattle.snap_core.specs.Calls.{Call, Operation, Updates, Views}

-- the entry of an update that is the only one of its component
abbrev pub alone : Entry → Entry
alone e = record { component = e.component; number = 1; value = e.value }

-- what is left of a view's entries; numbers k is the number of the update of k that is kept
abbrev pub kept_entries : (ℕ → ℕ) → List Entry → List Entry
kept_entries numbers [] = []
kept_entries numbers (e ∷ es) = if e.number == numbers e.component then alone e ∷ kept_entries numbers es else kept_entries numbers es

abbrev pub kept_event : (ℕ → ℕ) → Event → Event
kept_event numbers (BeginUpdate p e) = BeginUpdate p (alone e)
kept_event numbers (BeginView p) = BeginView p
kept_event numbers (EndUpdate p) = EndUpdate p
kept_event numbers (EndView p es) = EndView p (kept_entries numbers es)

-- the events at the places that are kept, in a list whose first event is at `place`
abbrev pub kept_from : (ℕ → Bool) → (ℕ → ℕ) → ℕ → List Event → List Event
kept_from keeps numbers place [] = []
kept_from keeps numbers place (e ∷ es) = if keeps place then kept_event numbers e ∷ kept_from keeps numbers (suc place) es else kept_from keeps numbers (suc place) es

-- the number of places below n that are kept: it is the place of event n among the kept events
abbrev pub rank : (ℕ → Bool) → ℕ → ℕ
rank keeps zero = 0
rank keeps (suc n) = rank keeps n + (if keeps n then 1 else 0)

abbrev pub kept_operation : (ℕ → ℕ) → Operation → Operation
kept_operation numbers (Updates e) = Updates (alone e)
kept_operation numbers (Views answer) = Views (option_map (kept_entries numbers) answer)

-- a kept call as it is among the kept events, with this number
abbrev pub kept_call : (ℕ → Bool) → (ℕ → ℕ) → ℕ → Call → Call
kept_call keeps numbers number c = record {
  number = number;
  process = c.process;
  operation = kept_operation numbers c.operation;
  begun = rank keeps c.begun;
  ended = option_map (rank keeps) c.ended;
}

abbrev pub ends_at : Option ℕ → ℕ → Bool
ends_at None place = false
ends_at (Some end) place = end == place

-- whether one of the calls begins or ends at a place
abbrev pub is_place_of : List Call → ℕ → Bool
is_place_of chosen place = list_any (λ c. (c.begun == place) || ends_at c.ended place) chosen

-- the history of some calls
unfoldable pub kept_events : List Call → (ℕ → ℕ) → List Event → List Event
kept_events chosen numbers events = kept_from (is_place_of chosen) numbers 0 events

-- whether a place is in a list of places
abbrev pub is_among : List ℕ → ℕ → Bool
is_among places place = list_any (λ p. p == place) places
