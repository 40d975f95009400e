use Rattle.std.proofs.Common.{◌≡◌, ◌+◌, ◌-◌, ◌<◌, ◌∙◌, length, set, get_or, max, sym, subst, arith}
use Rattle.std.proofs.lemmas.List.{length-set, get_or_default}
use Rattle.snap_core.specs.Calls.{calls_of, views_of}
use Rattle.snap_views.specs.inside.Sweeps.{IsSwept}
use Rattle.snap_views.proofs.Ordering.{place_swept}
use Rattle.snap_views.proofs.sweep.greatest_before.Goals as goal

pub loop-place-preserved : goal.loop-place-preserved
loop-place-preserved g c =
    let calls = calls_of c.args.index.now in
    let at = c.loop-place.place in
    let within : at < length c.loop-place.greatest.items = omega (arith, c.loop-place-test.true, c.len-place-end.ensures, c.in_ok-greatest.greatest.ok, c.in_ok-greatest.ensures.size, c.loop-place.invariant.size) in
    let here : c.index.result.now ≡ get_or c.loop-place.greatest.items at 0 = c.index.ensures ∙ get_or_default c.loop-place.greatest.items at c.index.result.now 0 within in
    let before : c.index-in-loop-place.result.now ≡ get_or c.loop-place.greatest.items (at - 1) 0 = c.index-in-loop-place.ensures ∙ get_or_default c.loop-place.greatest.items (at - 1) c.index-in-loop-place.result.now 0 (omega (arith, within)) in
    record {
      size = length-set _ _ _ ∙ c.loop-place.invariant.size;
      sums = subst (λ z. IsSwept calls (length (views_of calls)) (at + 1) (set c.loop-place.greatest.items at z)) (sym (c.max.ensures ∙ (λ i. max (here i) (before i)))) (place_swept calls (length (views_of calls)) at c.loop-place.greatest.items (omega (arith, c.loop-place.auto.place)) within c.loop-place.invariant.sums);
    }

pub returns-clause-greatest : goal.returns-clause-greatest
returns-clause-greatest g c =
    let calls = calls_of c.args.index.now in
    let all : c.loop-place.place ≡ length c.loop-place.greatest.items = omega (arith, c.loop-place-test.false, c.loop-place.auto.place-end, c.len-place-end.ensures, c.in_ok-greatest.greatest.ok, c.in_ok-greatest.ensures.size, c.loop-place.invariant.size) in
    subst (λ z. IsSwept calls (length (views_of calls)) z c.loop-place.greatest.items) all c.loop-place.invariant.sums
