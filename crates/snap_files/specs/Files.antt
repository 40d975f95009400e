-- What a check of several named texts answers, writes and says.
use Rattle.std.specs.Prelude.{◌≡◌, ◌≤◌, ◌<◌, ◌-◌, ◌^◌, ◌++◌, ◌⊎◌, ℕ, max, List, [], ◌∷◌, length, take, Option, Some, None, Result, Ok, Err, IfSome, codes, decimal, flat_map}
use Rattle.std.specs.Global.{Vec}
use Rattle.std.specs.List.{AllZip}
use Rattle.std.specs.Io.KnownBytes.{Appends}
use Rattle.snap_core.specs.Sending.{SendsFront}
use Rattle.snap_core.specs.declared.limit.Limit.{Limit}
use Rattle.snap_check.specs.declared.options.CheckOptions.{CheckOptions}
use Rattle.snap_check.specs.Options.{IsReportWith}
use Rattle.snap_check.specs.declared.status.Status.{Status}
use Rattle.snap_check.specs.Statuses.{code_of}
use Rattle.snap_explain.specs.TestCases.{ended_case}
use Rattle.snap_explain.specs.declared.test_case.Ending.TheVariants.{Error}
use Rattle.snap_json.specs.Objects.{trouble_json}
use Rattle.snap_json.specs.Values.{IsLineOf}
use Rattle.snap_runs.specs.Answers.{IsAnswerTo, IsCountsObject, IsObject, IsTestCase}
use Rattle.snap_runs.specs.Telling.{object_name}
use Rattle.snap_runs.specs.declared.question.Question.TheVariants.{Counts}
use Rattle.snap_names.specs.Said.{named_lines, trouble_line_text, trouble_text}
use Rattle.snap_names.specs.Shown.{shown}
use Rattle.snap_files.specs.declared.format.FileOptions.{FileOptions}
use Rattle.snap_files.specs.declared.format.Format.{Format}
use Rattle.snap_files.specs.declared.format.Format.TheVariants.{Plain, Json, CountsObject, Junit}
use Rattle.snap_files.specs.declared.format.Format.TheVariants as formats
use Rattle.snap_names.specs.declared.opener.Trouble.{Trouble}
use Rattle.snap_names.specs.declared.opener.Trouble.TheVariants.{Memory}

-- what became of a name: its status, or `None` if its history has fewer views than are asked for, or else its trouble
abbrev pub Answer : Type 0
Answer = Result (Option Status) Trouble

-- what is written alone, but each line with the name before it
abbrev pub IsNamed : (List ℕ → Type 0) → List ℕ → List ℕ → Type 0
IsNamed Is name out = (alone : List ℕ) × Is alone × (out ≡ named_lines name alone)

-- the report of a text, each line with the name before it
abbrev pub IsNamedReport : CheckOptions → List ℕ → List ℕ → Option Status → List ℕ → Type 0
IsNamedReport options name text status out = IsNamed (IsReportWith options text status) name out

-- What a name may be opened as: a text, whose bytes are known or not, or a trouble. An opener gives a text the trouble of a failed
-- read only for a reader whose count of failures rose.
abbrev pub Opens : Type 1
Opens = List ℕ → Result (Option (List ℕ)) Trouble → Type 0

-- Why a name has no status. Its opener says so, as when it can't be opened or a read failed; or memory ran out after it was opened.
abbrev pub IsTroubled : Opens → List ℕ → Trouble → Type 0
IsTroubled opens name trouble = opens name (Err trouble) ⊎ ((known : Option (List ℕ)) × opens name (Ok known) × (trouble ≡ Memory))

-- what a text has shown, each line with the name before it
abbrev pub IsNamedCounts : Limit → List ℕ → List ℕ → Option Status → List ℕ → Type 0
IsNamedCounts limit name text status out = IsNamed (IsAnswerTo (Counts None) limit text status) name out

-- what is answered and written for an opened text: its report or its counts, as named lines or as an object alone, or its test case
abbrev pub IsTextPage : Format → CheckOptions → List ℕ → List ℕ → Option Status → List ℕ → Type 0
IsTextPage Plain options name text status out = IsNamedReport options name text status out
IsTextPage Json options name text status out = IsObject name options.views options.limit text status out
IsTextPage formats.Counts options name text status out = IsNamedCounts options.limit name text status out
IsTextPage CountsObject options name text status out = IsCountsObject name options.limit text status out
IsTextPage Junit options name text status out = IsTestCase name options.views options.limit text status out

-- the exit status of a name
abbrev pub answer_code : Answer → ℕ
answer_code (Ok (Some status)) = code_of status
answer_code (Ok None) = 3
answer_code (Err trouble) = 4

-- nothing is written for a name that met a trouble
abbrev pub IsNoPage : Trouble → Trouble → List ℕ → Type 0
IsNoPage met trouble out = (trouble ≡ met) × (out ≡ [])

-- An object is written for it. If memory does not suffice for the object, memory is the trouble, and nothing is written.
abbrev pub IsTroubleObject : List ℕ → Trouble → Trouble → List ℕ → Type 0
IsTroubleObject name met trouble out =
    ((trouble ≡ met) × IsLineOf (trouble_json (object_name name) (answer_code (Err met)) (trouble_text met)) out) ⊎ IsNoPage Memory trouble out

-- the test case of a name that met a trouble: an error with the reason
abbrev pub trouble_case : List ℕ → Trouble → List ℕ
trouble_case name met = ended_case Error name (trouble_text met)

-- Its test case is written. If memory does not suffice for that, memory is the trouble, and nothing is written.
abbrev pub IsTroubleCase : List ℕ → Trouble → Trouble → List ℕ → Type 0
IsTroubleCase name met trouble out = ((trouble ≡ met) × (out ≡ trouble_case name met)) ⊎ IsNoPage Memory trouble out

-- for a name that met a trouble nothing is written, or its object, or its test case
abbrev pub IsTroublePage : Format → List ℕ → Trouble → Trouble → List ℕ → Type 0
IsTroublePage Plain name met trouble out = IsNoPage met trouble out
IsTroublePage Json name met trouble out = IsTroubleObject name met trouble out
IsTroublePage formats.Counts name met trouble out = IsNoPage met trouble out
IsTroublePage CountsObject name met trouble out = IsTroubleObject name met trouble out
IsTroublePage Junit name met trouble out = IsTroubleCase name met trouble out

-- what is answered and written for a name
abbrev pub IsPage : Opens → FileOptions → List ℕ → Answer → List ℕ → Type 0
IsPage opens options name (Ok status) out =
    (known : Option (List ℕ)) × opens name (Ok known) × IfSome known (λ text. IsTextPage options.format options.check name text status out)
IsPage opens options name (Err trouble) out = (met : Trouble) × IsTroubled opens name met × IsTroublePage options.format name met trouble out

-- what is said about a name whose history has fewer views than are asked for
abbrev pub refusal_line_text : CheckOptions → List ℕ → List ℕ
refusal_line_text options name = shown name ++ codes ": refused: fewer than " ++ decimal options.views ++ codes " views\n"

-- what is said about a name on the error output
abbrev pub told_text : FileOptions → List ℕ → Answer → List ℕ
told_text options name (Ok (Some status)) = []
told_text options name (Ok None) = refusal_line_text options.check name
told_text options name (Err trouble) = trouble_line_text name trouble

-- a text went out whole, or the count of failures rose, or is at its last value
abbrev pub Told : Option (List ℕ) → Option (List ℕ) → ℕ → ℕ → List ℕ → Type 0
Told old new failures_old failures_new text =
    (Appends old new text × (failures_new ≡ failures_old)) ⊎ (failures_old < failures_new) ⊎ (2 ^ 64 - 1 ≤ failures_new)

-- a name with what became of it
pub record Page : Type 0 where
  pub name : List ℕ
  pub answer : Answer
  pub out : List ℕ

-- the pages of some names, in the order of the names, each name once
abbrev pub ArePages : Opens → FileOptions → List (Vec ℕ) → List Page → Type 0
ArePages opens options names pages = AllZip (λ name page. (page.name ≡ name.items) × IsPage opens options page.name page.answer page.out) names pages

-- what is written for some pages, and said about them
abbrev pub written : List Page → List ℕ
written pages = flat_map (λ page. page.out) pages

abbrev pub said : FileOptions → List Page → List ℕ
said options pages = flat_map (λ page. told_text options page.name page.answer) pages

abbrev pub greatest_code : List Page → ℕ
greatest_code [] = 0
greatest_code (page ∷ pages) = max (answer_code page.answer) (greatest_code pages)

-- all names were checked: the greatest status, what was written, and what was said
pub record ChecksAll (opens : Opens) (options : FileOptions) (names : List (Vec ℕ)) (old new : Option (List ℕ)) (told_old told_new : Option (List ℕ)) (failures_old failures_new : ℕ) (code : ℕ) : Type 0 where
  pub pages : List Page
  pub each : ArePages opens options names pages
  pub greatest : code ≡ greatest_code pages
  pub wrote : Appends old new (written pages)
  pub told : Told told_old told_new failures_old failures_new (said options pages)

-- for some of the first names, a front went out of what is written for them
pub record ChecksSome (opens : Opens) (options : FileOptions) (names : List (Vec ℕ)) (old new : Option (List ℕ)) : Type 0 where
  pub count : ℕ
  pub within : count ≤ length names
  pub pages : List Page
  pub each : ArePages opens options (take count names) pages
  pub wrote : SendsFront old new (written pages)
