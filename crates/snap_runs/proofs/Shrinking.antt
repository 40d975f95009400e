-- What a history is cut down to.
use Rattle.std.proofs.Common.{◌≡◌, ◌≤◌, ◌↔◌, ℕ, true, false, length, List, Option, Some, None, refl, subst}
use Rattle.std.specs.Prelude.{IfSome, IsNone}
use Rattle.std.specs.declared.alloc.Global.{Global}
use Rattle.std.specs.declared.vec.Vec.{Vec}
use Rattle.snap_theory.proofs.OrderLaws.{in_order_by}
use Rattle.snap_core.specs.Bounded.{IsHistoryBy}
use Rattle.snap_core.specs.Limited.{LimitedEvents}
use Rattle.snap_core.specs.declared.event.Event.{Event}
use Rattle.snap_core.specs.Calls.{calls_of}
use Rattle.snap_core.specs.declared.writers.Writers.{Writers}
use Rattle.snap_core.specs.Orders.{IsAtomic}
use Rattle.snap_theory.specs.Versions.{IsAtomicInOrder}
use Rattle.snap_core.specs.Regular.{IsRegular}
use Rattle.snap_check.specs.declared.status.Status.{Status}
use Rattle.snap_check.specs.Verdicts.{HasStatus}
use Rattle.snap_theory.specs.First.{AreWholeCalls, HasFirstFault}
use Rattle.snap_runs.specs.Cutting.{IsNumbered}
use Rattle.snap_runs.specs.Shrinking.{IsCutTo, IsWitnessOf}

-- what is known of a witness that was found
pub witness_is : (es : List Event) (found : Option LimitedEvents) (w : LimitedEvents) → found ≡ Some w → IsNone found ↔ IsAtomicInOrder (calls_of es) →
    IfSome found (λ w. AreWholeCalls es w.events) → IfSome found (λ w. length (calls_of w.events) ≤ 4) → IfSome found (λ w. length w.events ≤ 8) →
    IfSome found (λ w. HasFirstFault es w.events) → IfSome found (λ w. IsAtomic (calls_of w.events) → ⊥) → IfSome found (λ w. IsRegular (calls_of w.events) ↔ IsRegular (calls_of es)) →
    (IsAtomicInOrder (calls_of es) → ⊥) × IsWitnessOf es w.events
witness_is es None w is none calls few_calls few_events fault not_atomic regular = absurd cc
witness_is es (Some other) w is none calls few_calls few_events fault not_atomic regular =
    let known : (IsAtomicInOrder (calls_of es) → ⊥) × IsWitnessOf es other.events = (
      λ a. let found : true ≡ false = none.1 a in absurd cc,
      record { calls = calls; few_calls = few_calls; few_events = few_events; fault = fault; not_atomic = not_atomic; regular = regular },
    ) in
    let same : other ≡ w = cc in
    subst (λ (w : LimitedEvents). (IsAtomicInOrder (calls_of es) → ⊥) × IsWitnessOf es w.events) same known

-- what a history is cut down to: its witness, or itself where it has none
pub cut_to_witness : (writers : Writers) (es : List Event) (status : Status) (found : Option (LimitedEvents × Vec ℕ Global)) (w : LimitedEvents × Vec ℕ Global) → found ≡ Some w → IsHistoryBy writers es → HasStatus writers es status → IsNumbered es found → IsCutTo writers es status w.0.events
cut_to_witness writers es status found w is history has h =
    let first : IsNumbered es (Some w) = subst (IsNumbered es) is h in
    record { answers = has; atomic = λ a. absurd (first.0 ((in_order_by writers es history).1 a)); not_atomic = λ _. first.1 }

pub cut_to_itself : (writers : Writers) (es : List Event) (status : Status) (found : Option (LimitedEvents × Vec ℕ Global)) → found ≡ None → IsHistoryBy writers es → HasStatus writers es status → IsNumbered es found → IsCutTo writers es status es
cut_to_itself writers es status found is history has h =
    let first : IsNumbered es None = subst (IsNumbered es) is h in
    record { answers = has; atomic = λ _. refl; not_atomic = λ no. absurd (no ((in_order_by writers es history).0 first)) }
