-- The explanation of a history: the verdict, and an order of its calls or its first faults.
use Rattle.std.specs.Prelude.{ℕ, List, ◌≡◌, ◌++◌, codes, if◌then◌else◌}
use Rattle.std.specs.List.{flat_map}
use Rattle.snap_core.specs.Calls.{Call, views_of}
use Rattle.snap_conditions.specs.declared.tally.Tally.{Tally}
use Rattle.snap_conditions.specs.Tally.{tally_of}
use Rattle.snap_theory.specs.Levels.{printed_order}
use Rattle.snap_report.specs.Reports.{has_no_fault, has_no_local_fault}
use Rattle.snap_explain.specs.declared.view.Entries.{Entries}
use Rattle.snap_explain.specs.declared.view.Entries.TheVariants.{OfFault}
use Rattle.snap_explain.specs.Calls.{call_text}
use Rattle.snap_explain.specs.Faults.{faults_text}
use Rattle.snap_explain.specs.FirstFaults.{first_faults_text}

-- the first line
abbrev pub verdict_text : Tally → List ℕ
verdict_text t =
    if has_no_fault t then codes "atomic: in this order each view shows the latest updates before it\n"
    else if has_no_local_fault t then codes "regular, and not atomic\n" else codes "not regular\n"

-- the lines of the printed order
abbrev pub order_text : List ℕ → List Call → List ℕ
order_text records calls = flat_map (call_text records) (printed_order calls)

-- the verdict, and the order of an atomic history or the first fault of each kind. It is made from the calls, the records of the events,
-- and the tally of all completed views, and lists these entries of the views of a fault
unfoldable pub explanation : Entries → List ℕ → List Call → Tally → List ℕ
explanation listed records calls t = verdict_text t ++ (if has_no_fault t then order_text records calls else faults_text listed records calls t)

-- the text explains the history of these calls, whose events have these records
abbrev pub IsExplanation : Entries → List ℕ → List Call → List ℕ → Type 0
IsExplanation listed records calls text = text ≡ explanation listed records calls (tally_of calls (views_of calls))

-- the verdict, and the order or the first so many faults of each kind
unfoldable pub long_explanation : ℕ → Entries → List ℕ → List Call → Tally → List ℕ
long_explanation most listed records calls t =
    verdict_text t ++ (if has_no_fault t then order_text records calls else first_faults_text most listed records calls)

-- the text explains the history of these calls by the first so many faults of each kind
abbrev pub IsLongExplanation : ℕ → Entries → List ℕ → List Call → List ℕ → Type 0
IsLongExplanation most listed records calls text = text ≡ long_explanation most listed records calls (tally_of calls (views_of calls))

-- the verdict, and the first fault of each kind
abbrev pub sentences_text : List ℕ → List Call → Tally → List ℕ
sentences_text records calls t = verdict_text t ++ faults_text OfFault records calls t
