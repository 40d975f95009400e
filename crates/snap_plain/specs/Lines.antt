-- Plain texts: without a quote or a carriage return each record is a line, cut at its commas.
use Rattle.std.specs.Prelude.{◌≡◌, ◌≢◌, ◌<◌, ◌+◌, ◌⊎◌, ◌++◌, ⊤, ℕ, Bool, true, false, List, [], ◌∷◌, length, get_or, is_ok, Some, Ok}
use Rattle.snap_core.specs.declared.limit.Limit.{Limit}
use Rattle.std.specs.List.{All}
use Rattle.csv.specs.Machine.{Read, next_record}
use Rattle.csv.specs.Reading.{default_config, records_from}
use Rattle.csv.specs.declared.parser.State.TheVariants as st
use Rattle.snap_core.specs.declared.event.Event.{Event}
use Rattle.snap_plain.specs.declared.lines.Lines.{Lines}
use Rattle.snap_plain.specs.declared.lines.Lines.TheVariants as lines
use Rattle.snap_format.specs.Layout.{is_header_row, is_stamped_header_row}
use Rattle.snap_format.specs.Texts.{RowsFault}
use Rattle.snap_text.specs.declared.fault.TextFault.TheVariants as faults
use Rattle.snap_text.specs.Fields.{Fields, row_event}

-- no quote (34) and no carriage return (13)
abbrev pub IsPlain : ℕ → Type 0
IsPlain b = (b ≢ 34) × (b ≢ 13)

-- a byte inside a field: no comma (44) and no newline (10)
abbrev pub IsInner : ℕ → Type 0
IsInner b = (b ≢ 44) × (b ≢ 10)

-- none of the first n bytes of a text is one of two marks
abbrev pub AreNeither : ℕ → ℕ → ℕ → List ℕ → Type 0
AreNeither one other n text = (i : ℕ) → i < n → (get_or text i 0 ≢ one) × (get_or text i 0 ≢ other)

-- a plain text has these records
pub record HasRows (text : List ℕ) (rows : List Fields) : Type 0 where
  pub plain : All IsPlain text
  pub fuel : ℕ
  pub enough : length text < fuel
  pub gives : records_from default_config fuel st.StartRecord text ≡ rows

-- records begin with one that spells an event, and a rest of the text has those after it
abbrev pub SpellsFirst : Event → (List Fields → Type 0) → List Fields → Type 0
SpellsFirst x Left rows = (row : Fields) × (later : List Fields) × (rows ≡ row ∷ later) × (row_event row ≡ Ok x) × Left later

-- records begin with those that spell some events, and a rest of the text has those after them
abbrev pub SpellsAll : List Event → (List Fields → Type 0) → List Fields → Type 0
SpellsAll [] Left rows = Left rows
SpellsAll (x ∷ xs) Left rows = SpellsFirst x (SpellsAll xs Left) rows

-- nothing, or a comma or a newline and more
abbrev pub EndsField : List ℕ → Type 0
EndsField [] = ⊤
EndsField (b ∷ bs) = (b ≡ 44) ⊎ (b ≡ 10)

-- a field, and then a comma and a rest
pub record FieldGoesOn (f rest text : List ℕ) : Type 0 where
  pub inner : All IsInner f
  pub whole : text ≡ f ++ 44 ∷ rest

-- a field, and then the end of the record, and a rest
pub record FieldIsLast (f rest text : List ℕ) : Type 0 where
  pub inner : All IsInner f
  pub whole : (text ≡ f ++ 10 ∷ rest) ⊎ ((text ≡ f) × (rest ≡ []))

-- a rest of a text: what is after some bytes at its front
abbrev pub IsRest : List ℕ → List ℕ → Type 0
IsRest rest text = (front : List ℕ) × (text ≡ front ++ rest)

-- a line, or what is left of one after some fields of its record, ends with these fields, and a rest is after it
pub record HasFields (fields : Fields) (rest text : List ℕ) : Type 0 where
  pub plain : All IsPlain rest
  pub behind : IsRest rest text
  pub shorter : length rest < length text
  pub reads : (before : Fields) → next_record default_config st.StartField before [] text ≡ Some (before ++ fields, st.StartRecord, rest)

abbrev pub EndsWith : Fields → List ℕ → List ℕ → Type 0
EndsWith fields rest text = All IsPlain text → HasFields fields rest text

-- the first line of a text spells an event, and a rest is after it
abbrev pub BeginsLine : Event → List ℕ → List ℕ → Type 0
BeginsLine x rest text = (rows : List Fields) → HasRows text rows → IsRest rest text × SpellsFirst x (HasRows rest) rows

-- the first lines of a text spell some events, and a rest is after them
abbrev pub BeginsLines : List Event → List ℕ → List ℕ → Type 0
BeginsLines xs rest text = (rows : List Fields) → HasRows text rows → IsRest rest text × SpellsAll xs (HasRows rest) rows

-- records are a header and those of lines after it, or their first is not a header
abbrev pub HasLines : List Fields → Lines → Type 0
HasLines rows (lines.Bare text) = (head : Fields) × (later : List Fields) × (rows ≡ head ∷ later) × (is_header_row head ≡ true) × HasRows text.now later
HasLines rows (lines.Stamped text) = (head : Fields) × (later : List Fields) × (rows ≡ head ∷ later) × (is_stamped_header_row head ≡ true) × HasRows text.now later
HasLines rows lines.Headless = (limit : Limit) → RowsFault limit rows 1 faults.Header

-- a line, or what is left of one, ends with more fields than `count`, or with fewer
abbrev pub EndsWithOthers : ℕ → List ℕ → Type 0
EndsWithOthers count text =
    All IsPlain text → (before : Fields)
    → (r : Read) × (next_record default_config st.StartField before [] text ≡ Some r) × (length r.0 ≢ length before + count)

-- the first record of a text passes a test, and a rest has the records after it
abbrev pub BeginsWith : (Fields → Bool) → List ℕ → List ℕ → Type 0
BeginsWith test rest text = (rows : List Fields) → HasRows text rows → (first : Fields) × (later : List Fields) × (rows ≡ first ∷ later) × (test first ≡ true) × HasRows rest later

-- the first record of a text does not pass a test, or there is none
abbrev pub BeginsOtherwise : (Fields → Bool) → List ℕ → Type 0
BeginsOtherwise test text = (rows : List Fields) → HasRows text rows → (first : Fields) (later : List Fields) → rows ≡ first ∷ later → test first ≡ false

-- a record spells an event
abbrev pub spells_event : Fields → Bool
spells_event row = is_ok (row_event row)
