use Rattle.std.proofs.Common.{◌∙◌, All, ap, map, refl, subst, sym, filter, List}
use Rattle.snap_core.specs.Calls.{calls_of}
use Rattle.snap_core.proofs.Ordered.{are_ordered_calls}
use Rattle.snap_stats.specs.Overlaps.{greatest}
use Rattle.snap_stats.specs.declared.span.Span.{Span}
use Rattle.snap_stats.specs.declared.span.Kind.TheVariants.{Any}
use Rattle.snap_stats.specs.inside.Spans.{Rises, is_of, open_in, span_length, span_of}
use Rattle.snap_stats.proofs.Counts.{filter_all}
use Rattle.snap_stats.proofs.Spans.{longest_is, most_open_is, spans_rise}
use Rattle.snap_stats.proofs.stats.open_in.Goals as goal

pub most_open-requires : goal.most_open-requires
most_open-requires g c =
    let es = c.args.index.now in
    subst (All Rises) (sym (c.deref.ensures.value ∙ c.in_ok-calls.ensures)) (spans_rise (calls_of es) (are_ordered_calls es c.event_count-events.ensures.ordered.history) (is_of Any))

pub returns-clause-most : goal.returns-clause-most
returns-clause-most g c =
    let calls = calls_of c.args.index.now in
    c.in_ok-most.ensures
    ∙ ap (λ (z : List Span). greatest (open_in z) z) (c.deref.ensures.value ∙ c.in_ok-calls.ensures ∙ ap (map span_of) (filter_all (is_of Any) calls (λ x. refl)))
    ∙ most_open_is calls

pub returns-clause-longest : goal.returns-clause-longest
returns-clause-longest g c =
    let calls = calls_of c.args.index.now in
    c.longest.ensures
    ∙ ap (greatest span_length) (c.deref-2.ensures.value ∙ c.in_ok-calls.ensures ∙ ap (map span_of) (filter_all (is_of Any) calls (λ x. refl)))
    ∙ longest_is calls
