-- What the fields of a record spell.
use Rattle.std.specs.Prelude.{◌==◌, ◌&&◌, nat_lt, ◌^◌, if◌then◌else◌, ℕ, Bool, true, false, List, [], ◌∷◌, length, map, codes, decimal, Option, Some, None, is_none, option_map, option_and_then, Result, Ok, Err}
use Rattle.std.specs.List.{slice_split}
use Rattle.std.specs.Str.{bytes_eq}
use Rattle.std.specs.Str.Parse.{digits_value}
use Rattle.snap_core.specs.declared.entry.Entry.{Entry}
use Rattle.snap_core.specs.declared.event.Event.{Event}
use Rattle.snap_core.specs.declared.event.Event.TheVariants.{BeginUpdate, BeginView, EndUpdate, EndView}
use Rattle.snap_core.specs.Entries.{view_refusal}
use Rattle.snap_text.specs.declared.fault.TextFault.{TextFault}
use Rattle.snap_text.specs.declared.fault.TextFault.TheVariants as faults

-- one test after the other: the first fault is the answer
infixl 10 ◌>>=◌
abbrev pub ◌>>=◌ : {A B : Type 0} → Result A TextFault → (A → Result B TextFault) → Result B TextFault
(Ok x) >>= f = f x
(Err e) >>= f = Err e

-- what is read, or a fault if nothing is
abbrev pub or_fault : {A : Type 0} → TextFault → Option A → Result A TextFault
or_fault f None = Err f
or_fault f (Some x) = Ok x

-- the number below a limit whose decimal form a field is: without a sign or a leading zero, and zero is `0`
unfoldable pub number_at : ℕ → List ℕ → Option ℕ
number_at limit f = if nat_lt (digits_value 10 f) limit && bytes_eq (decimal (digits_value 10 f)) f then Some (digits_value 10 f) else None

-- the parts into which marks cut a text
abbrev pub parts : ℕ → List ℕ → List (List ℕ)
parts mark text = slice_split (λ b. b == mark) text

-- the three elements of a list of three
abbrev pub three : List (List ℕ) → Option (List ℕ × List ℕ × List ℕ)
three (a ∷ b ∷ c ∷ []) = Some (a, b, c)
three others = None

-- the entry of a component, a number and a value
abbrev pub entry_from : List ℕ × List ℕ × List ℕ → Option Entry
entry_from (k, n, v) =
    option_and_then (λ component. option_and_then (λ number. option_map (λ value.
    record { component = component; number = number; value = value }) (number_at (2 ^ 32) v)) (number_at (2 ^ 32) n)) (number_at (2 ^ 8) k)

-- an entry has colons (58) between its parts
unfoldable pub entry_at : List ℕ → Option Entry
entry_at text = option_and_then entry_from (three (parts 58 text))

-- all the entries, if none is missing
abbrev pub all_of : List (Option Entry) → Option (List Entry)
all_of [] = Some []
all_of (o ∷ os) = option_and_then (λ e. option_map (λ es. e ∷ es) (all_of os)) o

-- entries with one space (32) between two, or none
unfoldable pub entries_at : List ℕ → Option (List Entry)
entries_at text = if length text == 0 then Some [] else all_of (map entry_at (parts 32 text))

-- the entry of an update: its number is at least 1
abbrev pub numbered : Entry → Option Entry
numbered e = if e.number == 0 then None else Some e

unfoldable pub update_at : List ℕ → Option Entry
update_at d = option_and_then numbered (entry_at d)

-- entries that a view can show: they rise by component, and each number is at least 1
abbrev pub viewed : List Entry → Option (List Entry)
viewed es = if is_none (view_refusal es) then Some es else None

unfoldable pub view_at : List ℕ → Option (List Entry)
view_at d = option_and_then viewed (entries_at d)

-- whether the first field says that a call begins
abbrev pub begins_at : List ℕ → Result Bool TextFault
begins_at f = if bytes_eq f (codes "begin") then Ok true else if bytes_eq f (codes "end") then Ok false else Err faults.BadEvent

-- whether the third field says that the call is an update
abbrev pub updates_at : List ℕ → Result Bool TextFault
updates_at f = if bytes_eq f (codes "update") then Ok true else if bytes_eq f (codes "view") then Ok false else Err faults.BadOp

-- the event, if the fourth field is empty
abbrev pub empty_at : Event → List ℕ → Result Event TextFault
empty_at x d = if length d == 0 then Ok x else Err faults.BadData

-- the event with these begin, process and op, from the fourth field
abbrev pub event_with : Bool → ℕ → Bool → List ℕ → Result Event TextFault
event_with true p true d = or_fault faults.BadData (option_map (λ e. BeginUpdate p e) (update_at d))
event_with true p false d = empty_at (BeginView p) d
event_with false p true d = empty_at (EndUpdate p) d
event_with false p false d = or_fault faults.BadData (option_map (λ es. EndView p es) (view_at d))

-- the event that four fields spell, or the first fault in them: event, process, operation and data are tested in this order
unfoldable pub event_of : List ℕ → List ℕ → List ℕ → List ℕ → Result Event TextFault
event_of a p o d = do
  begins ← begins_at a
  process ← or_fault faults.BadProcess (number_at (2 ^ 16) p)
  updates ← updates_at o
  event_with begins process updates d

-- a record, as the list of its fields
abbrev pub Fields : Type 0
Fields = List (List ℕ)

-- the event of a record, or the first fault in its fields
unfoldable pub row_event : Fields → Result Event TextFault
row_event (a ∷ p ∷ o ∷ d ∷ []) = event_of a p o d
row_event others = Err faults.Fields
