-- The lines of a report.
use Rattle.std.specs.Prelude.{ℕ, Bool, List, [], ◌∷◌, ◌++◌, ◌==◌, ◌&&◌, Option, Some, None, if◌then◌else◌, codes, count_by, decimal, length, map}
use Rattle.snap_core.specs.declared.event.Event.{Event}
use Rattle.snap_core.specs.Calls.{Call, Operation, Updates, Views, calls_of, entries_of, views_of}
use Rattle.snap_conditions.specs.declared.tally.Tally.{Tally}
use Rattle.snap_index.specs.Updates.{is_pending}
use Rattle.snap_report.specs.Faults.{fault_lines}
use Rattle.snap_report.specs.Lines.{Word, Line, call_word, entry_word, process_word, text_of}

-- events E calls C pending P views V
abbrev pub count_line : List Event → Line
count_line events =
    codes "events" ∷ decimal (length events)
    ∷ codes "calls" ∷ decimal (length (calls_of events))
    ∷ codes "pending" ∷ decimal (count_by is_pending (calls_of events))
    ∷ codes "views" ∷ decimal (length (views_of (calls_of events))) ∷ []

-- regular yes, or no, and so for monotone and atomic
abbrev pub verdict_line : Word → Bool → Line
verdict_line word holds = word ∷ (if holds then codes "yes" else codes "no") ∷ []

abbrev pub operation_words : Operation → Line
operation_words (Updates entry) = codes "update" ∷ entry_word entry ∷ []
operation_words (Views answer) = codes "view" ∷ map entry_word (entries_of (Views answer))

-- A pQ update K:N:V, or A pQ view K:N:V K:N:V ..
abbrev pub call_line : Call → Line
call_line c = call_word c.number ∷ process_word c.process ∷ operation_words c.operation

-- order N, and N lines of calls
abbrev pub order_lines : List Call → List Line
order_lines order = (codes "order" ∷ decimal (length order) ∷ []) ∷ map call_line order

abbrev pub verdict_lines : Bool → Bool → Bool → List Line
verdict_lines regular monotone atomic =
    verdict_line (codes "regular") regular ∷ verdict_line (codes "monotone") monotone ∷ verdict_line (codes "atomic") atomic ∷ []

-- the counts of the history, the three verdicts, and what they rest on
abbrev pub report_lines : List Event → Bool → Bool → Bool → List Line → List Line
report_lines events regular monotone atomic findings = count_line events ∷ verdict_lines regular monotone atomic ++ findings

-- no fault of one view alone
abbrev pub has_no_local_fault : Tally → Bool
has_no_local_fault t = (t.integrity.count == 0) && (t.proximity.count == 0)

-- no view goes back
abbrev pub has_no_stale_view : Tally → Bool
has_no_stale_view t = t.stale == 0

abbrev pub has_no_fault : Tally → Bool
has_no_fault t = has_no_local_fault t && ((t.read.count == 0) && (t.write.count == 0))

-- an order, or else the faults
abbrev pub finding_lines : Tally → Option (List Call) → List Line
finding_lines t (Some order) = order_lines order
finding_lines t None = fault_lines t

-- the report of a history by a tally of its faults, and by an order of its calls if there is one
abbrev pub report_text : List Event → Tally → Option (List Call) → List ℕ
report_text events t order = text_of (report_lines events (has_no_local_fault t) (has_no_stale_view t) (has_no_fault t) (finding_lines t order))
