-- The object of a text: a history, a refused text, a history with too few views, or a text that was not read.
use Rattle.std.specs.Prelude.{ℕ, List, [], ◌∷◌, ◌++◌, codes, count_by, length}
use Rattle.json.specs.Json.{Json, boolean, string}
use Rattle.snap_core.specs.declared.event.Event.{Event}
use Rattle.snap_core.specs.Calls.{calls_of, views_of}
use Rattle.snap_conditions.specs.declared.tally.Tally.{Tally}
use Rattle.snap_text.specs.declared.fault.TextFault.{TextFault}
use Rattle.snap_text.specs.Words.{word_of}
use Rattle.snap_index.specs.Updates.{is_pending}
use Rattle.snap_report.specs.Reports.{has_no_fault, has_no_local_fault, has_no_stale_view}
use Rattle.snap_json.specs.Faults.{fault_fields}
use Rattle.snap_json.specs.Values.{Field, number_json, object_of}

-- the name of a text and its exit status, and what is said about it
abbrev pub named_object : List ℕ → ℕ → List Field → Json
named_object name status fields = object_of ((codes "name", string name) ∷ (codes "status", number_json status) ∷ fields)

-- the counts of a history
abbrev pub count_fields : List Event → List Field
count_fields events =
    (codes "events", number_json (length events)) ∷ (codes "calls", number_json (length (calls_of events)))
    ∷ (codes "pending", number_json (count_by is_pending (calls_of events))) ∷ (codes "views", number_json (length (views_of (calls_of events)))) ∷ []

abbrev pub verdict_fields : Tally → List Field
verdict_fields t =
    (codes "regular", boolean (has_no_local_fault t)) ∷ (codes "monotone", boolean (has_no_stale_view t)) ∷ (codes "atomic", boolean (has_no_fault t)) ∷ []

-- a history, by the records of its events and a tally of its faults
abbrev pub history_json : List ℕ → ℕ → List Event → Tally → List ℕ → Json
history_json name status events t records =
    named_object name status (count_fields events ++ verdict_fields t ++ fault_fields records (calls_of events) t)

-- a text that is not a history: the record at fault, and the word of its fault
abbrev pub refusal_json : List ℕ → ℕ → ℕ → TextFault → Json
refusal_json name status place fault =
    named_object name status ((codes "refused", object_of ((codes "record", number_json place) ∷ (codes "fault", string (word_of fault)) ∷ [])) ∷ [])

-- a history with fewer completed views than are asked for
abbrev pub few_views_json : List ℕ → ℕ → ℕ → ℕ → Json
few_views_json name status views least =
    named_object name status ((codes "too_few_views", object_of ((codes "views", number_json views) ∷ (codes "least", number_json least) ∷ [])) ∷ [])

-- a text that was not read, or for which memory did not suffice
abbrev pub trouble_json : List ℕ → ℕ → List ℕ → Json
trouble_json name status reason = named_object name status ((codes "trouble", string reason) ∷ [])
