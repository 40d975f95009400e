-- The object of a history.
use Rattle.std.proofs.Common.{◌≡◌, ◌<◌, inl, ℕ, List, length, refl, subst}
use Rattle.snap_core.specs.declared.writers.Writers.{Writers}
use Rattle.snap_core.specs.declared.event.Event.{Event}
use Rattle.snap_core.specs.Calls.{calls_of, views_of}
use Rattle.snap_core.specs.Bounded.{IsBoundedBy}
use Rattle.snap_conditions.specs.declared.tally.Tally.{Tally}
use Rattle.snap_check.specs.declared.status.Status.{Status}
use Rattle.snap_check.specs.declared.status.Status.TheVariants.{Refused}
use Rattle.snap_check.specs.Statuses.{code_of}
use Rattle.snap_check.specs.Verdicts.{HasStatus}
use Rattle.snap_check.proofs.Verdicts.{IsTallied, atomic_is, monotone_is, regular_is}
use Rattle.snap_json.specs.Objects.{few_views_json, history_json}
use Rattle.snap_json.specs.Values.{IsLineOf}
use Rattle.snap_runs.specs.Telling.{IsToldHistory, TellsHistory, whole_tally}

pub told_history : (name : List ℕ) (writers : Writers) (es : List Event) (records : List ℕ) (t : Tally) (status : Status) (code : ℕ) (out : List ℕ) → IsBoundedBy writers es → t ≡ whole_tally es → HasStatus writers es status → code ≡ code_of status →
    IsLineOf (history_json name code es t records) out → IsToldHistory name writers es records status out
told_history name writers es records t status code out kept whole answers codes line =
    let tallied : IsTallied writers es (whole_tally es) = record { kept = kept; whole = refl } in
    record {
      answers = answers;
      regular_exactly = regular_is writers es (whole_tally es) tallied;
      monotone_exactly = monotone_is writers es (whole_tally es) tallied;
      atomic_exactly = atomic_is writers es (whole_tally es) tallied;
      line = subst (λ (t : Tally). IsLineOf (history_json name (code_of status) es t records) out) whole (subst (λ c. IsLineOf (history_json name c es t records) out) codes line);
    }

pub told_few : (name : List ℕ) (least : ℕ) (writers : Writers) (es : List Event) (records : List ℕ) (views code : ℕ) (out : List ℕ) → views ≡ length (views_of (calls_of es)) → views < least → code ≡ code_of Refused →
    IsLineOf (few_views_json name code views least) out → TellsHistory name least writers es records Refused out
told_few name least writers es records views code out count few codes line =
    inl (record {
      few = subst (λ n. n < least) count few;
      answers = refl;
      line = subst (λ n. IsLineOf (few_views_json name (code_of Refused) n least) out) count (subst (λ c. IsLineOf (few_views_json name c views least) out) codes line);
    })
