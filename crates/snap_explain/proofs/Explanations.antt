-- The explanation of a history, put together from its parts.
use Rattle.std.proofs.Common.{◌≡◌, ◌++◌, ◌∙◌, ℕ, true, false, List, map, ap}
use Rattle.std.specs.Prelude.{if◌then◌else◌}
use Rattle.std.specs.List.{flat_map}
use Rattle.snap_core.specs.declared.event.Event.{Event}
use Rattle.snap_core.specs.Calls.{calls_of, views_of}
use Rattle.snap_conditions.specs.declared.tally.Tally.{Tally}
use Rattle.snap_conditions.specs.Tally.{tally_of}
use Rattle.snap_theory.specs.Levels.{printed_order}
use Rattle.snap_order.proofs.PrintedNumbers.{calls_of_order}
use Rattle.snap_report.specs.Orders.{calls_numbered}
use Rattle.snap_report.specs.Reports.{has_no_fault}
use Rattle.snap_explain.specs.declared.view.Entries.{Entries}
use Rattle.snap_explain.specs.Calls.{call_text}
use Rattle.snap_explain.specs.Explanations.{IsExplanation, explanation, order_text, verdict_text}
use Rattle.snap_explain.specs.Faults.{faults_text}

pub order_explains : (listed : Entries) (records : List ℕ) (es : List Event) (t : Tally) (numbers text : List ℕ) → t ≡ tally_of (calls_of es) (views_of (calls_of es)) → true ≡ has_no_fault t →
    numbers ≡ map (λ c. c.number) (printed_order (calls_of es)) →
    text ≡ verdict_text t ++ flat_map (call_text records) (calls_numbered (calls_of es) numbers) → IsExplanation listed records (calls_of es) text
unfolding explanation
order_explains listed records es t numbers text whole atomic same e =
    e
    ∙ ap (λ calls. verdict_text t ++ flat_map (call_text records) calls) (calls_of_order es numbers same)
    ∙ ap (λ b. verdict_text t ++ (if b then order_text records (calls_of es) else faults_text listed records (calls_of es) t)) atomic
    ∙ ap (explanation listed records (calls_of es)) whole

pub faults_explain : (listed : Entries) (records : List ℕ) (es : List Event) (t : Tally) (text : List ℕ) → t ≡ tally_of (calls_of es) (views_of (calls_of es)) → false ≡ has_no_fault t →
    text ≡ verdict_text t ++ faults_text listed records (calls_of es) t → IsExplanation listed records (calls_of es) text
unfolding explanation
faults_explain listed records es t text whole faulty e =
    e
    ∙ ap (λ b. verdict_text t ++ (if b then order_text records (calls_of es) else faults_text listed records (calls_of es) t)) faulty
    ∙ ap (explanation listed records (calls_of es)) whole
