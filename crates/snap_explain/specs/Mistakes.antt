-- What is wrong with the field data of a record.
use Rattle.std.specs.Prelude.{◌==◌, ◌^◌, ◌+◌, ℕ, Bool, true, false, not, List, [], ◌∷◌, length, codes, if◌then◌else◌, nat_le, nat_lt, Option, Some, None, unwrap_or}
use Rattle.std.specs.Option.{option_map_or, option_or}
use Rattle.std.specs.Str.{bytes_eq}
use Rattle.snap_text.specs.Fields.{Fields, number_at, parts, three}
use Rattle.snap_explain.specs.declared.mistake.Mistake.{Mistake}
use Rattle.snap_explain.specs.declared.mistake.Mistake.TheVariants as mistakes

-- a part is a number from `least` on and below `limit`
abbrev pub is_number : ℕ → ℕ → List ℕ → Bool
is_number least limit part = option_map_or (nat_le least) (number_at limit part) false

-- the first mistake in the component, the number and the value of an entry
abbrev pub numbers_mistake : ℕ → List ℕ × List ℕ × List ℕ → Option Mistake
numbers_mistake place (component, number, value) =
    if not (is_number 0 (2 ^ 8) component) then Some (mistakes.Component place)
    else if not (is_number 1 (2 ^ 32) number) then Some (mistakes.Number place)
    else if not (is_number 0 (2 ^ 32) value) then Some (mistakes.Value place)
    else None

-- the first mistake in the parts of an entry: their number, and then what they are
abbrev pub parts_mistake : ℕ → List (List ℕ) → Option Mistake
parts_mistake place texts = option_map_or (numbers_mistake place) (three texts) (Some (mistakes.Parts place (length texts)))

-- the first mistake in the entry of a place, counted from 1; between its parts are colons (58)
unfoldable pub entry_mistake : ℕ → List ℕ → Option Mistake
entry_mistake place entry = if length entry == 0 then Some (mistakes.Spaces place) else parts_mistake place (parts 58 entry)

-- the first mistake in any of some entries, the first of which has a place
abbrev pub first_mistake : ℕ → List (List ℕ) → Option Mistake
first_mistake place [] = None
first_mistake place (entry ∷ entries) = option_or (entry_mistake place entry) (first_mistake (place + 1) entries)

-- the component of an entry is the number of its first part
abbrev pub component_in : List (List ℕ) → ℕ
component_in [] = 0
component_in (component ∷ others) = unwrap_or (number_at (2 ^ 8) component) 0

unfoldable pub component_of : List ℕ → ℕ
component_of entry = component_in (parts 58 entry)

-- the first of some entries whose component is not below that of the next one; the first of them all has a place
abbrev pub first_fall : ℕ → List (List ℕ) → Option Mistake
first_fall place [] = None
first_fall place (entry ∷ []) = None
first_fall place (entry ∷ next ∷ entries) =
    if nat_lt (component_of entry) (component_of next) then first_fall (place + 1) (next ∷ entries) else Some (mistakes.Fall place)

-- entries have one space (32) between two
abbrev pub entries_in : List ℕ → List (List ℕ)
entries_in field = parts 32 field

-- an update has one entry
abbrev pub several : ℕ → Option Mistake
several count = if count == 1 then None else Some (mistakes.Several count)

unfoldable pub update_mistake : List ℕ → Option Mistake
update_mistake field =
    if length field == 0 then Some mistakes.NoEntry else option_or (first_mistake 1 (entries_in field)) (several (length (entries_in field)))

-- a view has entries whose components rise, or none
unfoldable pub view_mistake : List ℕ → Option Mistake
view_mistake field = if length field == 0 then None else option_or (first_mistake 1 (entries_in field)) (first_fall 1 (entries_in field))

-- a mistake of a field that is not empty
abbrev pub unless_empty : Mistake → List ℕ → Option Mistake
unless_empty mistake field = if length field == 0 then None else Some mistake

-- the first mistake in the field data, by whether the call begins there and whether it is an update
abbrev pub data_mistake : Bool → Bool → List ℕ → Option Mistake
data_mistake true true field = update_mistake field
data_mistake true false field = unless_empty mistakes.BeginOfView field
data_mistake false true field = unless_empty mistakes.EndOfUpdate field
data_mistake false false field = view_mistake field

-- the first mistake in the field data of a record whose fields event and op are words that they may be
abbrev pub words_mistake : List ℕ → List ℕ → List ℕ → Option Mistake
words_mistake event op field = data_mistake (bytes_eq event (codes "begin")) (bytes_eq op (codes "update")) field

-- the first mistake in the field data of a record of four fields, or of five if the first is a stamp
unfoldable pub record_mistake : Fields → Option Mistake
record_mistake (event ∷ process ∷ op ∷ field ∷ []) = words_mistake event op field
record_mistake (at ∷ event ∷ process ∷ op ∷ field ∷ []) = words_mistake event op field
record_mistake others = None
