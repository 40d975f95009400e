-- The header, and the text of a history.
use Rattle.std.specs.Prelude.{◌++◌, ◌&&◌, ℕ, Bool, false, List, [], ◌∷◌, map, codes, decimal}
use Rattle.std.specs.List.{flat_map, join_with_byte, zip}
use Rattle.std.specs.Str.{bytes_eq}
use Rattle.snap_core.specs.declared.event.Event.{Event}
use Rattle.snap_text.specs.Spelling.{spelled}

-- the first record of a text, compared byte for byte
abbrev pub header : List (List ℕ)
header = codes "event" ∷ codes "process" ∷ codes "op" ∷ codes "data" ∷ []

abbrev pub is_header_row : List (List ℕ) → Bool
is_header_row (a ∷ b ∷ c ∷ d ∷ []) = bytes_eq a (codes "event") && bytes_eq b (codes "process") && bytes_eq c (codes "op") && bytes_eq d (codes "data")
is_header_row others = false

-- the first record of a text whose records have stamps
abbrev pub stamped_header : List (List ℕ)
stamped_header = codes "at" ∷ header

abbrev pub is_stamped_header_row : List (List ℕ) → Bool
is_stamped_header_row (t ∷ a ∷ p ∷ o ∷ d ∷ []) = bytes_eq t (codes "at") && is_header_row (a ∷ p ∷ o ∷ d ∷ [])
is_stamped_header_row others = false

-- a record: its fields with commas (44) between and no quotes, and one newline (10)
unfoldable pub record_text : List (List ℕ) → List ℕ
record_text fields = join_with_byte 44 fields ++ 10 ∷ []

-- the header, and then the record of each event
unfoldable pub history_text : List Event → List ℕ
history_text events = flat_map record_text (header ∷ map spelled events)

-- the five fields of an event with its stamp
abbrev pub stamped_fields : ℕ × Event → List (List ℕ)
stamped_fields x = decimal x.0 ∷ spelled x.1

-- the header of texts with stamps, and then the record of each event
unfoldable pub stamped_lines : List (ℕ × Event) → List ℕ
stamped_lines xs = flat_map record_text (stamped_header ∷ map stamped_fields xs)

-- the text of events with a stamp for each
abbrev pub stamped_text : List ℕ → List Event → List ℕ
stamped_text at events = stamped_lines (zip at events)
