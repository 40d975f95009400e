use Rattle.std.proofs.Common.{◌≡◌, ◌∙◌, All, IfOk, ap₂, subst, sym}
use Rattle.snap_core.specs.Calls.{calls_of}
use Rattle.snap_core.proofs.Ordered.{are_ordered_calls}
use Rattle.snap_stats.specs.declared.span.Kind.TheVariants.{Update, View}
use Rattle.snap_stats.specs.inside.Spans.{Rises, is_of, overlapping_in}
use Rattle.snap_stats.proofs.Spans.{overlapping_is, spans_rise}
use Rattle.snap_stats.proofs.stats.overlapping_in.Goals as goal

pub count_overlaps-requires-clause-updates : goal.count_overlaps-requires-clause-updates
count_overlaps-requires-clause-updates g c =
    let es = c.args.index.now in
    subst (All Rises) (sym (c.deref.ensures.value ∙ c.in_ok-updates.ensures)) (spans_rise (calls_of es) (are_ordered_calls es c.event_count-events.ensures.ordered.history) (is_of Update))

pub count_overlaps-requires-clause-views : goal.count_overlaps-requires-clause-views
count_overlaps-requires-clause-views g c =
    let es = c.args.index.now in
    subst (All Rises) (sym (c.deref-2.ensures.value ∙ c.in_ok-views.ensures)) (spans_rise (calls_of es) (are_ordered_calls es c.event_count-events.ensures.ordered.history) (is_of View))

pub returns : goal.returns
returns g c =
    let es = c.args.index.now in
    subst (λ o. IfOk c.count_overlaps.result (λ found. found ≡ o))
    (ap₂ overlapping_in (c.deref.ensures.value ∙ c.in_ok-updates.ensures) (c.deref-2.ensures.value ∙ c.in_ok-views.ensures) ∙ overlapping_is (calls_of es) (are_ordered_calls es c.event_count-events.ensures.ordered.history))
    c.count_overlaps.ensures
