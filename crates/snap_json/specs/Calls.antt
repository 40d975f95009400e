-- A call as JSON, with the records of its begin and its end.
use Rattle.std.specs.Prelude.{ℕ, ◌+◌, List, [], ◌∷◌, Option, Some, None, codes, get_or}
use Rattle.std.specs.Option.{option_map_or}
use Rattle.json.specs.Json.{Json, null, string, array, Items, no_items, item}
use Rattle.snap_core.specs.declared.entry.Entry.{Entry}
use Rattle.snap_core.specs.Calls.{Call, Operation, Updates, Views, entries_of}
use Rattle.snap_theory.specs.Updates.{update_of}
use Rattle.snap_json.specs.Values.{number_json, object_of}

-- {"component":K,"number":N,"value":V}
abbrev pub entry_json : Entry → Json
entry_json e =
    object_of ((codes "component", number_json e.component) ∷ (codes "number", number_json e.number) ∷ (codes "value", number_json e.value) ∷ [])

abbrev pub entry_items : List Entry → Items
entry_items [] = no_items
entry_items (e ∷ es) = item (entry_json e) (entry_items es)

abbrev pub op_word : Operation → List ℕ
op_word (Updates entry) = codes "update"
op_word (Views answer) = codes "view"

-- what an update writes, or what a view shows
abbrev pub entries_in : Operation → List Entry
entries_in (Updates entry) = entry ∷ []
entries_in (Views answer) = entries_of (Views answer)

-- the number of the record of the event at a place
abbrev pub record_json : List ℕ → ℕ → Json
record_json records place = number_json (get_or records place 0)

-- the record of the end, or null if the call is pending
abbrev pub end_json : List ℕ → Option ℕ → Json
end_json records None = null
end_json records (Some place) = record_json records place

-- {"call":A,"process":P,"op":"view","begin":B,"end":E,"entries":[..]}, with calls counted from 1
unfoldable pub call_json : List ℕ → Call → Json
call_json records c =
    object_of ((codes "call", number_json (c.number + 1)) ∷ (codes "process", number_json c.process) ∷ (codes "op", string (op_word c.operation))
    ∷ (codes "begin", record_json records c.begun) ∷ (codes "end", end_json records c.ended) ∷ (codes "entries", array (entry_items (entries_in c.operation))) ∷ [])

-- update n of component k, and null if there is none
abbrev pub update_json : List ℕ → List Call → ℕ → ℕ → Json
update_json records calls k n = option_map_or (call_json records) (update_of calls k n) null
