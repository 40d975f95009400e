-- The line of a call, with the records of its begin and its end.
use Rattle.std.specs.Prelude.{ℕ, List, ◌++◌, Option, Some, None, codes, decimal, get_or}
use Rattle.std.specs.List.{flat_map}
use Rattle.snap_core.specs.declared.entry.Entry.{Entry}
use Rattle.snap_core.specs.Calls.{Call, Operation, Updates, Views, entries_of}
use Rattle.snap_report.specs.Lines.{call_word, entry_word}

-- the number of the record of the event at a place
abbrev pub record_word : List ℕ → ℕ → List ℕ
record_word records place = decimal (get_or records place 0)

-- records B and E, or record B, pending
abbrev pub records_words : List ℕ → ℕ → Option ℕ → List ℕ
records_words records begun None = codes "record " ++ record_word records begun ++ codes ", pending"
records_words records begun (Some ended) = codes "records " ++ record_word records begun ++ codes " and " ++ record_word records ended

-- entries, each after a space
abbrev pub entries_text : List Entry → List ℕ
entries_text es = flat_map (λ e. codes " " ++ entry_word e) es

-- update K:N:V, or view K:N:V K:N:V ..
abbrev pub operation_text : Operation → List ℕ
operation_text (Updates entry) = codes "update " ++ entry_word entry
operation_text (Views answer) = codes "view" ++ entries_text (entries_of (Views answer))

-- call A of process P, records B and E, with two spaces before it, and a colon and a space after it
unfoldable pub call_begin : List ℕ → Call → List ℕ
call_begin records c =
    codes "  call " ++ call_word c.number ++ codes " of process " ++ decimal c.process ++ codes ", " ++ records_words records c.begun c.ended ++ codes ": "

-- call A of process P, records B and E: .., after two spaces
unfoldable pub call_text : List ℕ → Call → List ℕ
call_text records c = call_begin records c ++ operation_text c.operation ++ codes "\n"
