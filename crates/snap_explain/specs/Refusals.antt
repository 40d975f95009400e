-- Why a text is not a history: what is wrong with a field data or what converts the text, the rule that is broken, and the record that
-- breaks it.
use Rattle.std.specs.Prelude.{◌≡◌, ◌==◌, ◌∷◌, ℕ, Bool, false, List, [], ◌++◌, ◌||◌, codes, decimal, Option, Some, None, if◌then◌else◌, nat_lt}
use Rattle.snap_core.specs.declared.limit.Limit.{Limit}
use Rattle.std.specs.List.{flat_map}
use Rattle.std.specs.Option.{option_map_or}
use Rattle.snap_core.specs.Events.{event_cap}
use Rattle.snap_text.specs.declared.fault.TextFault.{TextFault}
use Rattle.snap_text.specs.declared.fault.TextFault.TheVariants as faults
use Rattle.snap_format.specs.Records.{record_at}
use Rattle.snap_text.specs.Fields.{Fields}
use Rattle.snap_format.specs.Rows.{rows_of}
use Rattle.snap_format.specs.Texts.{bytes_within}
use Rattle.snap_names.specs.Shown.{shown}
use Rattle.snap_report.specs.Lines.{line_text}
use Rattle.snap_report.specs.Refusals.{refusal_line}
use Rattle.snap_explain.specs.declared.mistake.Mistake.{Mistake}
use Rattle.snap_explain.specs.declared.mistake.Mistake.TheVariants as mistakes
use Rattle.snap_explain.specs.Mistakes.{record_mistake}

-- what is wrong with a field data
abbrev pub mistake_text : Mistake → List ℕ
mistake_text mistakes.BeginOfView = codes "the begin of a view has an empty field data, and this one is not empty\n"
mistake_text mistakes.EndOfUpdate = codes "the end of an update has an empty field data, and this one is not empty\n"
mistake_text mistakes.NoEntry = codes "the begin of an update has one entry in the field data, and this one has none\n"
mistake_text (mistakes.Spaces k) =
    codes "entry " ++ decimal k ++ codes " is empty: one space stands between two entries, and none before the first or after the last\n"
mistake_text (mistakes.Parts k n) = codes "entry " ++ decimal k ++ codes " has not the 3 parts of COMPONENT:NUMBER:VALUE, but " ++ decimal n ++ codes "\n"
mistake_text (mistakes.Component k) = codes "the component of entry " ++ decimal k ++ codes " is not a number from 0 to 255 without a sign or leading zeros\n"
mistake_text (mistakes.Number k) = codes "the number of entry " ++ decimal k ++ codes " is not a number from 1 to 4294967295 without a sign or leading zeros\n"
mistake_text (mistakes.Value k) = codes "the value of entry " ++ decimal k ++ codes " is not a number from 0 to 4294967295 without a sign or leading zeros\n"
mistake_text (mistakes.Several n) = codes "the begin of an update has one entry in the field data, and this one has " ++ decimal n ++ codes "\n"
mistake_text (mistakes.Fall k) = codes "the component of entry " ++ decimal k ++ codes " is not below that of the next entry\n"

-- what is wrong with the field data of a record, if there is one
abbrev pub told_of : Option Fields → List ℕ
told_of (Some fields) = option_map_or mistake_text (record_mistake fields) []
told_of None = []

-- a field begins with a brace or a bracket, as the logs of other tools do
abbrev pub begins_log : List ℕ → Bool
begins_log [] = false
begins_log (c ∷ field) = (c == 123) || (c == 91)

-- the first field of a record begins so, if there is one
abbrev pub is_log : Fields → Bool
is_log [] = false
is_log (field ∷ fields) = begins_log field

-- what makes histories of such a log
abbrev pub converter_text : Option Fields → List ℕ
converter_text (Some fields) =
    if is_log fields then codes "a text that begins with { or [ may be a log of Jepsen: snapjudge-from-jepsen makes histories of it (docs/JEPSEN.md)\n" else []
converter_text None = []

-- what is wrong with the field data of a record, if that field is its fault, or what converts the text, if its header is
abbrev pub fault_told : TextFault → Option Fields → List ℕ
fault_told faults.BadData found = told_of found
fault_told faults.Header found = converter_text found
fault_told _ found = []

-- the rule that a fault breaks: what a text without it has. If that is a limit, the words before its number
abbrev pub rule_of : TextFault → List ℕ
rule_of faults.Header = codes "the first record is event,process,op,data, or at,event,process,op,data where records have stamps\n"
rule_of faults.Fields = codes "a record has four fields, or five where records have stamps\n"
rule_of faults.TooMany = codes "a history has at most "
rule_of faults.BadEvent = codes "the field event is begin or end\n"
rule_of faults.BadProcess = codes "the field process is a number from 0 to 65535, without a sign or leading zeros\n"
rule_of faults.BadOp = codes "the field op is update or view\n"
rule_of faults.BadData =
    codes "the begin of an update has one entry in the field data\n"
    ++ codes "the end of a view has entries with rising components and one space between two, or none\n"
    ++ codes "any other record has an empty field data\n"
    ++ codes "an entry is COMPONENT:NUMBER:VALUE, from 0:1:0 to 255:4294967295:4294967295, without signs or leading zeros\n"
rule_of faults.Busy = codes "a process begins a call only after its last one has ended\n"
rule_of faults.Idle = codes "a process ends only a call that it has begun and not yet ended\n"
rule_of faults.OtherOp = codes "the end of a call has the field op of its begin\n"
rule_of faults.Writer = codes "a component is written by one process only; --writers many takes others too\n"
rule_of faults.Number = codes "an update has the next number of its component, which is one more than the updates of it that began before\n"
rule_of faults.Order = codes "an update ends after all updates of its component with lower numbers have ended\n"
rule_of faults.TooLong = codes "a text has at most "
rule_of faults.BadAt = codes "the field at is a number from 0 to 18446744073709551615, without a sign or leading zeros\n"
rule_of faults.Repeated = codes "no two records have the same stamp\n"

-- the words after the events that a history may have, and after the bytes of its text. If this is not the greatest limit, they also
-- say which option allows more
abbrev pub event_words : Limit → List ℕ
event_words limit = if nat_lt limit.events event_cap then codes " events; --events N allows up to 1048576\n" else codes " events\n"

abbrev pub byte_words : Limit → List ℕ
byte_words limit = if nat_lt limit.events event_cap then codes " bytes; --events N allows 1024 for each of up to 1048576 events\n" else codes " bytes\n"

-- the number of the limit that a fault breaks, and the words after it
abbrev pub limit_of : Limit → TextFault → List ℕ
limit_of limit faults.TooMany = decimal limit.events ++ event_words limit
limit_of limit faults.TooLong = decimal (bytes_within limit) ++ byte_words limit
limit_of limit _ = []

-- a field in quotes, after a space, with the escapes of a name
abbrev pub quoted : List ℕ → List ℕ
quoted field = codes " \"" ++ shown field ++ codes "\""

-- record R has the fields "A" "B" .., after two spaces, if the text has a record of that number
abbrev pub record_text : ℕ → Option Fields → List ℕ
record_text place (Some fields) = codes "  record " ++ decimal place ++ codes " has the fields" ++ flat_map quoted fields ++ codes "\n"
record_text place None = codes "  no record of the text has that number\n"

-- the line of a fault at a place, what is wrong with its field data or what converts the text, the rule that it breaks, and the record
-- there
unfoldable pub refusal_explanation : Limit → List ℕ → ℕ → TextFault → List ℕ
refusal_explanation limit text place fault =
    line_text (refusal_line place fault) ++ fault_told fault (record_at (rows_of text) place) ++ rule_of fault ++ limit_of limit fault
    ++ record_text place (record_at (rows_of text) place)

-- the bytes explain a fault of a text within a limit
abbrev pub IsRefusalExplanation : Limit → List ℕ → ℕ → TextFault → List ℕ → Type 0
IsRefusalExplanation limit text place fault out = out ≡ refusal_explanation limit text place fault
