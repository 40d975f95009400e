-- The test case of a history.
use Rattle.std.proofs.Common.{◌≡◌, ℕ, true, List}
use Rattle.std.proofs.lemmas.Bool.{and_parts, eqb-true}
use Rattle.snap_core.specs.declared.writers.Writers.{Writers}
use Rattle.snap_core.specs.declared.event.Event.{Event}
use Rattle.snap_core.specs.Calls.{calls_of}
use Rattle.snap_core.specs.Bounded.{IsBoundedBy}
use Rattle.snap_conditions.specs.declared.tally.Tally.{Tally}
use Rattle.snap_conditions.specs.Tally.{CountsNoFault}
use Rattle.snap_report.specs.Reports.{has_no_fault}
use Rattle.snap_check.specs.declared.status.Status.{Status}
use Rattle.snap_check.specs.Verdicts.{HasStatus}
use Rattle.snap_check.proofs.Verdicts.{IsTallied, all_to, atomic_is}
use Rattle.snap_explain.specs.declared.test_case.Ending.TheVariants.{Failure}
use Rattle.snap_explain.specs.declared.view.Entries.TheVariants.{OfFault}
use Rattle.snap_explain.specs.Explanations.{IsExplanation}
use Rattle.snap_explain.specs.TestCases.{ended_case, passed_case}
use Rattle.snap_runs.specs.Telling.{whole_tally}
use Rattle.snap_runs.specs.TestCases.{IsJudgedCase}

-- a history whose tally has no fault passes
pub case_passes : (name : List ℕ) (writers : Writers) (es : List Event) (records : List ℕ) (t : Tally) (status : Status) (out : List ℕ) → IsBoundedBy writers es → t ≡ whole_tally es → HasStatus writers es status
    → CountsNoFault t → out ≡ passed_case name → IsJudgedCase name writers es records status out
case_passes name writers es records t status out kept whole answers none is =
    let tallied : IsTallied writers es t = record { kept = kept; whole = whole } in
    record { answers = answers; passes = λ _. is; fails = λ no. absurd (no ((atomic_is writers es t tallied).0 (all_to t none))) }

counts_none : (t : Tally) → has_no_fault t ≡ true → CountsNoFault t
counts_none t none =
    let parts = and_parts _ _ none in
    let local = and_parts _ _ parts.0 in
    let pairs = and_parts _ _ parts.1 in
    record {
      local = record { integrity = eqb-true _ _ local.0; proximity = eqb-true _ _ local.1 };
      read = eqb-true _ _ pairs.0;
      write = eqb-true _ _ pairs.1;
    }

-- a history whose tally has a fault fails
pub case_fails : (name : List ℕ) (writers : Writers) (es : List Event) (records : List ℕ) (t : Tally) (status : Status) (said out : List ℕ) → IsBoundedBy writers es → t ≡ whole_tally es → HasStatus writers es status
    → (CountsNoFault t → ⊥) → IsExplanation OfFault records (calls_of es) said → out ≡ ended_case Failure name said → IsJudgedCase name writers es records status out
case_fails name writers es records t status said out kept whole answers some explained is =
    let tallied : IsTallied writers es t = record { kept = kept; whole = whole } in
    record {
      answers = answers;
      passes = λ atomic. absurd (some (counts_none t ((atomic_is writers es t tallied).1 atomic)));
      fails = λ _. record { said = said; explained = explained; case_is = is };
    }
