-- What is proved of all histories and texts.
use Rattle.std.specs.Prelude.{◌≡◌, ◌<◌, ◌^◌, ◌*◌, ◌⊎◌, ⊤, All, ◌≤◌, ℕ, List, length, true}
use Rattle.snap_core.specs.declared.limit.Limit.{Limit}
use Rattle.std.specs.List.Sorted.{IsStrictlyIncreasing}
use Rattle.snap_core.specs.declared.event.Event.{Event}
use Rattle.snap_core.specs.declared.event.Event.TheVariants.{EndView}
use Rattle.snap_core.specs.Bounded.{IsBoundedBy, IsBoundedOrdered}
use Rattle.snap_text.specs.declared.fault.TextFault.{TextFault}
use Rattle.snap_text.specs.Fields.{Fields}
use Rattle.snap_format.specs.Rows.{rows_of}
use Rattle.snap_format.specs.Layout.{history_text, is_header_row, is_stamped_header_row, stamped_text}
use Rattle.snap_format.specs.Texts.{HasFault, IsText, bytes_within}
use Rattle.snap_format.specs.Records.{HaveRecords, SpellEvents}

-- the text of each history of at most a quarter of `limit` events is within the limit of bytes
abbrev pub TextsAreShort : Type 0
TextsAreShort =
    (limit : Limit) (events : List Event) → IsBoundedOrdered events → 4 * length events ≤ limit.events →
    length (history_text events) ≤ bytes_within limit

-- the end of a view lists at most this many entries
abbrev pub ListsAtMost : ℕ → Event → Type 0
ListsAtMost n (EndView p entries) = length entries ≤ n
ListsAtMost n _ = ⊤

-- the text of each history of at most `limit` events whose views list at most 36 entries each is within the limit of bytes
abbrev pub NarrowTextsAreShort : Type 0
NarrowTextsAreShort =
    (limit : Limit) (events : List Event) → IsBoundedOrdered events → length events ≤ limit.events → All (ListsAtMost 36) events →
    length (history_text events) ≤ bytes_within limit

-- the text of a history with such writers has no fault and is that of this history, if events and bytes are within the limit
abbrev pub TextsReadBack : Type 0
TextsReadBack =
    (limit : Limit) (events : List Event) → IsBoundedBy limit.writers events → length events ≤ limit.events → length (history_text events) ≤ bytes_within limit →
    IsText limit (history_text events) events

-- a text that is one of a history has no fault
abbrev pub TextsHaveNoFault : Type 0
TextsHaveNoFault =
    (limit : Limit) (text : List ℕ) (events : List Event) (place : ℕ) (fault : TextFault) → IsText limit text events →
    HasFault limit text place fault → ⊥

-- a text is one of at most one history
abbrev pub TextsHaveOneReading : Type 0
TextsHaveOneReading = (limit : Limit) (text : List ℕ) (xs ys : List Event) → IsText limit text xs → IsText limit text ys → xs ≡ ys

-- a text has at most one first fault, at one place
abbrev pub TextsHaveOneFault : Type 0
TextsHaveOneFault =
    (limit : Limit) (text : List ℕ) (place other : ℕ) (fault another : TextFault) → HasFault limit text place fault →
    HasFault limit text other another →
    (place ≡ other) × (fault ≡ another)

-- each text is one of a history, or has a first fault
abbrev pub TextsAreDecided : Type 0
TextsAreDecided =
    (limit : Limit) (text : List ℕ) → ((events : List Event) × IsText limit text events) ⊎ ((place : ℕ) × (fault : TextFault) × HasFault limit text place fault)

-- the events of a text within a limit are a history with such writers
abbrev pub TextsAreHistories : Type 0
TextsAreHistories = (limit : Limit) (text : List ℕ) (events : List Event) → IsText limit text events → IsBoundedBy limit.writers events

-- no record is both the header of texts without stamps and that of texts with them
abbrev pub HeadersDiffer : Type 0
HeadersDiffer = (r : Fields) → is_header_row r ≡ true → is_stamped_header_row r ≡ true → ⊥

-- the text of a history with such writers and strictly rising stamps has no fault and gives back this history, if events and bytes are within the limit
abbrev pub StampedTextsReadBack : Type 0
StampedTextsReadBack =
    (limit : Limit) (at : List ℕ) (events : List Event) → IsBoundedBy limit.writers events → length events ≤ limit.events → length at ≡ length events →
    IsStrictlyIncreasing at → All (λ n. n < 2 ^ 64) at → length (stamped_text at events) ≤ bytes_within limit →
    IsText limit (stamped_text at events) events

-- the record of each event's number spells that event
abbrev pub RecordsSpellEvents : Type 0
RecordsSpellEvents =
    (limit : Limit) (text : List ℕ) (events : List Event) (records : List ℕ) → HaveRecords limit text events records →
    SpellEvents (rows_of text) events records
