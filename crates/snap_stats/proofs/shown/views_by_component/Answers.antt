use Rattle.std.proofs.Common.{◌≡◌, ◌<◌, ◌≤◌, ◌+◌, ◌∙◌, All, ap, arith, length, length-take-le, subst, sym, take}
use Rattle.snap_core.specs.Calls.{calls_of, views_of}
use Rattle.snap_core.specs.Events.{event_cap}
use Rattle.snap_index.proofs.IndexedCalls.{call_count_within, view_count_within}
use Rattle.snap_stats.specs.inside.Marks.{AreCountedMore, AreViewCounts}
use Rattle.snap_stats.proofs.Counts.{whole_back}
use Rattle.snap_stats.proofs.Marks.{counts_few, counts_more, view_shown}
use Rattle.snap_stats.proofs.shown.views_by_component.Goals as goal

pub count_components-requires-clause-few : goal.count_components-requires-clause-few
count_components-requires-clause-few g c =
    let es = c.args.index.now in
    let views = views_of (calls_of es) in
    let place = c.loop-place.place in
    let within : place < length views = omega (arith, c.loop-place-test.true, c.view_count-place-end.ensures) in
    let few : length (take place views) ≤ event_cap = omega (arith, length-take-le place views (omega (arith, within)), within, view_count_within (calls_of es), call_count_within es, c.event_count-events.ensures.ordered.short) in
    subst (All (λ n. n ≤ event_cap)) (sym c.deref_mut.ensures.value) (counts_few (take place views) c.loop-place.counts.items event_cap c.loop-place.invariant.size few c.loop-place.invariant.counted)

pub loop-place-preserved : goal.loop-place-preserved
loop-place-preserved g c =
    let views = views_of (calls_of c.args.index.now) in
    let place = c.loop-place.place in
    let items = c.loop-place.counts.items in
    let new = c.count_components.new.counts in
    let within : place < length views = omega (arith, c.loop-place-test.true, c.view_count-place-end.ensures) in
    let kept : length new ≡ length items = omega (arith, c.count_components.auto.counts, ap length c.deref_mut.ensures.value) in
    let whole = whole_back c.loop-place.counts.len items new (omega (arith, c.loop-place.counts.ok)) kept in
    let more : AreCountedMore c.entries.result.now items new = subst (λ z. AreCountedMore c.entries.result.now z new) c.deref_mut.ensures.value c.count_components.ensures in
    record {
      size = ap length whole ∙ kept ∙ c.loop-place.invariant.size;
      counted = subst (AreViewCounts (take (place + 1) views)) (sym whole)
          (counts_more views place c.entries.result.now items new within (c.entries.ensures.entries ∙ view_shown views place c.in-Some.view.now within c.in-Some.ensures) c.loop-place.invariant.counted more);
    }
