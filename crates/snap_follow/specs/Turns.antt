-- The events of a recording in the order in which they are judged: where each stands in the texts, and the stamp of its record.
use Rattle.std.specs.Prelude.{◌≡◌, ◌≤◌, ◌+◌, ⊤, ℕ, Bool, List, [], ◌∷◌, All, Ok, Option, Some, None, length, map, true}
use Rattle.std.specs.List.{range_with_len}
use Rattle.std.specs.List.Sorted.{IsPermutation}
use Rattle.snap_core.specs.declared.event.Event.{Event}
use Rattle.snap_format.specs.Layout.{is_header_row, is_stamped_header_row}
use Rattle.snap_format.specs.Stamps.{stamped_in, stamped_row}
use Rattle.snap_format.specs.declared.stamped.Stamped.{Stamped as StampedEvent}
use Rattle.snap_text.specs.Fields.{Fields, row_event}
use Rattle.snap_follow.specs.Spans.{stop}
use Rattle.snap_follow.specs.declared.form.Form.{Form}
use Rattle.snap_follow.specs.declared.form.Form.TheVariants.{Plain, Stamped}
use Rattle.snap_follow.specs.declared.span.Place.{Place}
use Rattle.snap_follow.specs.declared.waiting.Turn.{Turn}

abbrev pub events_of : List Turn → List Event
events_of turns = map (λ t. t.event) turns

abbrev pub places_of : List Turn → List Place
places_of turns = map (λ t. t.place) turns

abbrev pub stamps_of : List Turn → List ℕ
stamps_of turns = map (λ t. t.at) turns

-- the place of record n of the text of this number, counted from 0
abbrev pub place_in : ℕ → ℕ → Place
place_in text n = record { text = stop text; number = stop n }

-- the event of a record with a stamp, in the text of this number
abbrev pub turn_in : ℕ → StampedEvent → Turn
turn_in text x = record { at = x.at; place = place_in text x.place; event = x.event }

-- a record spells a stamp and an event
abbrev pub IsStamped : Fields → Type 0
IsStamped row = (x : ℕ × Event) × (stamped_row row ≡ Ok x)

-- stamps rise from n on: each is greater than all before it
abbrev pub RiseFrom : ℕ → List ℕ → Type 0
RiseFrom n [] = ⊤
RiseFrom n (stamp ∷ stamps) = (n ≤ stamp) × RiseFrom (stamp + 1) stamps

-- the least number from which stamps may go on to rise, after these that rise from n on, and after the last of them if there is one
abbrev pub after : ℕ → List ℕ → ℕ
after n [] = n
after n (stamp ∷ stamps) = after (stamp + 1) stamps

abbrev pub after_given : Option ℕ → ℕ
after_given None = 0
after_given (Some stamp) = stamp + 1

abbrev pub is_header_of : Form → Fields → Bool
is_header_of Plain row = is_header_row row
is_header_of Stamped row = is_stamped_header_row row

-- the records under the header of the text of this number spell these events. Without stamps they stand as the records do. With stamps
-- they may come in any order
abbrev pub SpellsIn : Form → ℕ → List Fields → List Turn → Type 0
SpellsIn Plain text rows turns = (map row_event rows ≡ map Ok (events_of turns)) × (places_of turns ≡ map (place_in text) (range_with_len 2 (length rows)))
SpellsIn Stamped text rows turns = All IsStamped rows × IsPermutation (map (turn_in text) (stamped_in rows)) turns

-- records that begin with a header, and the others spell these events
pub record Spells (form : Form) (text : ℕ) (rows : List Fields) (turns : List Turn) : Type 0 where
  pub head : Fields
  pub later : List Fields
  pub whole : rows ≡ head ∷ later
  pub header : is_header_of form head ≡ true
  pub spelled : SpellsIn form text later turns

-- with stamps the events come in rising order of them, text after text
abbrev pub AreInTurn : Form → List Turn → Type 0
AreInTurn Plain turns = ⊤
AreInTurn Stamped turns = RiseFrom 0 (stamps_of turns)
