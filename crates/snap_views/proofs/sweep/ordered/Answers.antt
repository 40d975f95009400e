use Rattle.std.proofs.Common.{◌≡◌, ◌<◌, ◌≤◌, ◌∙◌, length, get_or, refl, ap, subst, inl, inr, arith}
use Rattle.std.proofs.lemmas.Bool.{false≢true, cases_lt}
use Rattle.std.proofs.lemmas.List.{get_or_default}
use Rattle.snap_core.specs.Calls.{calls_of, views_of}
use Rattle.snap_index.specs.declared.call.Call.{Call as IndexedCall}
use Rattle.snap_views.specs.Quick.{shown_sum}
use Rattle.snap_views.specs.Seen.{view_in}
use Rattle.snap_views.proofs.Chains.{sum_in, view_is}
use Rattle.snap_views.proofs.Ordering.{NoneAbove, view_places, none_above, some_above, ordered_by_places}
use Rattle.snap_views.proofs.sweep.ordered.Goals as goal

pub index-requires : goal.index-requires
index-requires g c =
    let es = c.args.index.now in
    let r = view_in (calls_of es) c.loop-place.place in
    let within : c.loop-place.place < length (views_of (calls_of es)) = omega (arith, c.loop-place-test.true, c.view_count-place-end.ensures) in
    let at = view_places es c.event_count-events.ensures.ordered r (view_is (calls_of es) c.loop-place.place within) in
    let begun : c.view_at-begun.result.call.begun ≡ r.begun = ap (λ (z : IndexedCall). z.begun) c.view_at-begun.ensures.call in
    omega (arith, begun, at.begins, at.within, c.in_ok-greatest.greatest.ok, c.in_ok-greatest.ensures.size)

pub returns-then-sums-place : goal.returns-then-sums-place
returns-then-sums-place g c =
    let es = c.args.index.now in
    let r = view_in (calls_of es) c.loop-place.place in
    let within : c.loop-place.place < length (views_of (calls_of es)) = omega (arith, c.loop-place-test.true, c.view_count-place-end.ensures) in
    let sum = sum_in (calls_of es) c.args.sums.now c.loop-place.place 0 c.requires within in
    let begun : c.view_at-begun.result.call.begun ≡ r.begun = ap (λ (z : IndexedCall). z.begun) c.view_at-begun.ensures.call in
    let places = view_places es c.event_count-events.ensures.ordered r (view_is (calls_of es) c.loop-place.place within) in
    let at : c.view_at-begun.result.call.begun < length c.in_ok-greatest.greatest.items = omega (arith, begun, places.begins, places.within, c.in_ok-greatest.ensures.size) in
    let value : c.index.result.now ≡ get_or c.in_ok-greatest.greatest.items r.begun 0 = c.index.ensures ∙ get_or_default c.in_ok-greatest.greatest.items c.view_at-begun.result.call.begun c.index.result.now 0 at ∙ ap (λ b. get_or c.in_ok-greatest.greatest.items b 0) begun in
    let above : shown_sum r < get_or c.in_ok-greatest.greatest.items r.begun 0 = omega (arith, c.if-sums-place.true, value, sum) in (
      λ t. absurd (false≢true t),
      λ o. absurd (some_above es c.event_count-events.ensures.ordered (length (views_of (calls_of es))) (length c.in_ok-greatest.greatest.items) c.in_ok-greatest.greatest.items r c.in_ok-greatest.ensures.size c.in_ok-greatest.ensures.greatest
          (view_is (calls_of es) c.loop-place.place within) above o),
    )

pub loop-place-preserved : goal.loop-place-preserved
loop-place-preserved g c = λ place l. elim (cases_lt place c.loop-place.place) [
  | inl old ↦ c.loop-place.invariant place old
  | inr new ↦
      let es = c.args.index.now in
      let here : c.loop-place.place ≡ place = omega (arith, l, new) in
      let r = view_in (calls_of es) c.loop-place.place in
      let within : c.loop-place.place < length (views_of (calls_of es)) = omega (arith, c.loop-place-test.true, c.view_count-place-end.ensures) in
      let sum = sum_in (calls_of es) c.args.sums.now c.loop-place.place 0 c.requires within in
      let begun : c.view_at-begun.result.call.begun ≡ r.begun = ap (λ (z : IndexedCall). z.begun) c.view_at-begun.ensures.call in
      let places = view_places es c.event_count-events.ensures.ordered r (view_is (calls_of es) c.loop-place.place within) in
      let at : c.view_at-begun.result.call.begun < length c.in_ok-greatest.greatest.items = omega (arith, begun, places.begins, places.within, c.in_ok-greatest.ensures.size) in
      let value : c.index.result.now ≡ get_or c.in_ok-greatest.greatest.items r.begun 0 = c.index.ensures ∙ get_or_default c.in_ok-greatest.greatest.items c.view_at-begun.result.call.begun c.index.result.now 0 at ∙ ap (λ b. get_or c.in_ok-greatest.greatest.items b 0) begun in
      let most : get_or c.in_ok-greatest.greatest.items r.begun 0 ≤ shown_sum r = omega (arith, c.if-sums-place.false, value, sum) in
      subst (λ z. NoneAbove (calls_of es) (view_in (calls_of es) z)) here
      (none_above es c.event_count-events.ensures.ordered (length (views_of (calls_of es))) c.in_ok-greatest.greatest.items r refl c.in_ok-greatest.ensures.size c.in_ok-greatest.ensures.greatest
      (view_is (calls_of es) c.loop-place.place within) most)
]

pub returns : goal.returns
returns g c =
    let es = c.args.index.now in
    (λ t. ordered_by_places (calls_of es) (λ place l. c.loop-place.invariant place (omega (arith, l, c.loop-place-test.false, c.loop-place.auto.place-end, c.view_count-place-end.ensures))), λ o. refl)
