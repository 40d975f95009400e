use Rattle.std.proofs.Common.{◌∙◌, ◌↔◌, sym, subst, ap}
use Rattle.std.specs.Prelude.{IsTrue}
use Rattle.std.proofs.lemmas.Bool.{eqb-true, eq-eqb}
use Rattle.snap_core.specs.Calls.{calls_of, views_of}
use Rattle.std.specs.List.{count_by}
use Rattle.snap_index.specs.Updates.{is_pending}
use Rattle.snap_conditions.specs.Tally.{CountsNoFault, CountsNoLocalFault, tally_of}
use Rattle.snap_windows.proofs.Cutting.{atomic_window, both_are, quiet_by_window, regular_window}
use Rattle.snap_windows.proofs.judge.WindowJudge.judge.Goals as goal

pub returns-clause-window : goal.returns-clause-window
returns-clause-window c = λ before since h.
    let judge = c.args.self.now in
    let k = c.events-events.ensures.limited in
    let whole = c.in_ok-tally.ensures.tally ∙ ap (λ z. tally_of (calls_of z) (views_of (calls_of z))) c.in_ok-index.ensures in
    let local : IsTrue c.is_regular.result ↔ CountsNoLocalFault (tally_of (calls_of judge.window.events) (views_of (calls_of judge.window.events))) = subst (λ z. IsTrue c.is_regular.result ↔ CountsNoLocalFault z) whole c.is_regular.ensures in
    let none : IsTrue c.is_atomic.result ↔ CountsNoFault (tally_of (calls_of judge.window.events) (views_of (calls_of judge.window.events))) = subst (λ z. IsTrue c.is_atomic.result ↔ CountsNoFault z) whole c.is_atomic.ensures in
    record {
      regular = regular_window judge before since c.is_regular.result _ h k local (both_are judge.shows c.is_regular.result);
      atomic = atomic_window judge before since c.is_atomic.result _ h k none (both_are judge.shows c.is_atomic.result);
    }

pub returns-clause-quiet : goal.returns-clause-quiet
returns-clause-quiet c = λ before since h.
    let law = quiet_by_window before since h.quiet in
    let count = c.pending_count.ensures ∙ ap (λ z. count_by is_pending (calls_of z)) (c.in_ok-index.ensures ∙ h.window) in (
      λ t. law.0 (sym count ∙ eqb-true _ _ t),
      λ q. eq-eqb _ _ (count ∙ law.1 q),
    )
