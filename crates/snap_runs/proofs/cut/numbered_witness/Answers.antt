use Rattle.std.proofs.Common.{◌∙◌, ℕ, ap, subst, sym}
use Rattle.std.specs.Option.{option_map}
use Rattle.std.specs.declared.alloc.Global.{Global}
use Rattle.std.specs.declared.vec.Vec.{Vec}
use Rattle.snap_core.specs.Limited.{LimitedEvents}
use Rattle.snap_core.specs.Calls.{calls_of}
use Rattle.snap_theory.specs.Versions.{IsAtomicInOrder}
use Rattle.snap_runs.specs.Cutting.{AreOfWitness}
use Rattle.snap_runs.specs.Shrinking.{IsWitnessOf}
use Rattle.snap_runs.proofs.Mapping.{witness_numbers}
use Rattle.snap_runs.proofs.Shrinking.{witness_is}
use Rattle.snap_runs.proofs.cut.numbered_witness.Goals as goal

pub returns : goal.returns
returns c =
    let es = c.args.index.now in
    let left = c.in-Some.left in
    let found = c.in_ok-left.ensures in
    let kept = sym (ap (option_map (λ (v : Vec ℕ Global). v.items)) c.in-Some-2.is) ∙ c.in_ok-numbers.ensures.first in
    let first = sym (ap (option_map (λ (h : LimitedEvents). h.events)) c.in-Some.is) ∙ found.first in
    let known = witness_is es c.in_ok-left.field-0 left c.in-Some.is found.none found.calls found.few_calls found.few_events found.fault found.not_atomic found.regular in
    let are = witness_numbers es left.events c.in-Some-2.numbers.items c.event_count-events.ensures.ordered kept first in
    subst (λ (h : LimitedEvents). (IsAtomicInOrder (calls_of es) → ⊥) × IsWitnessOf es h.events × AreOfWitness es h.events c.in-Some-2.numbers.items) (sym c.into_any.ensures) (known.0, known.1, are)
