use Rattle.std.proofs.Common.{◌≡◌, ◌<◌, ◌+◌, ◌∙◌, List, length, get_or, sym, ap, subst, arith, true≢false, Option, rules}
use Rattle.std.proofs.lemmas.List.FromFn.{length-map-range_with_len, get_or-map-range_with_len}
use Rattle.snap_threads.specs.Claiming.{ClaimView, new_claim}
use Rattle.snap_conditions.specs.declared.tally.Tally.{Tally}
use Rattle.snap_pairs.specs.inside.Pieces.{IsFull}
use Rattle.snap_pairs.proofs.Gathering.{drawn_full, some_of_all}
use Rattle.snap_pairs.proofs.whole.tally_by.Goals as goal

pub each_job-requires-after_bounds : goal.each_job-requires-after_bounds
each_job-requires-after_bounds g c κs within i x lt is =
    let counter = c.in_ok-counter.counter in
    let claims = c.in_ok-counter.ensures.claims in
    let long = ap length claims ∙ length-map-range_with_len (new_claim counter) 0 counter.workers in
    let from_zero : 0 + i ≡ i = omega arith in
    let new : x ≡ new_claim counter i = is ∙ ap (λ (l : List ClaimView). get_or l i x) claims ∙ get_or-map-range_with_len (new_claim counter) 0 counter.workers i i x (omega (arith, lt, long)) from_zero in
    ((c.requires, c.in_ok-counter.ensures.counter.0, (ap (λ (v : ClaimView). v.table) new, ap (λ (v : ClaimView). v.pieces) new), ap (λ (v : ClaimView). v.drawn) new), search rules)

pub unreachable-requires : goal.unreachable-requires
unreachable-requires g c =
    let counter = c.in_ok-counter.counter in
    let long = ap length c.in_ok-counter.ensures.claims ∙ length-map-range_with_len (new_claim counter) 0 counter.workers in
    let count : length c.in_ok-claims.claims.items ≡ counter.workers = omega (arith, c.in_ok-claims.ensures.count, c.in_ok-answers.ensures.len, long) in
    let some : 0 < length c.in_ok-claims.claims.items = omega (arith, count, c.in_ok-counter.ensures.counter.1, c.args.cutting.workers_fit.0) in
    true≢false (sym (c.in_default.ensures.exact.1 (count, some_of_all _ c.in_ok-claims.claims.items some c.in_ok-claims.ensures.claims.1)))

pub merge_slots-requires-clause-full : goal.merge_slots-requires-clause-full
merge_slots-requires-clause-full g c = λ p low.
    let counter = c.in_ok-counter.counter in
    let once = c.in-Ok.ensures.drawn p (omega (arith, low, c.in_ok-counter.ensures.counter.0)) in
    let gathered = c.in_ok-claims.ensures in
    subst (λ (l : List (Option Tally)). IsFull l p) (sym c.deref.ensures.value) (drawn_full counter p c.in_ok-claims.claims.items c.in_ok-claims.slots.items (omega (arith, low, c.in_ok-counter.ensures.counter.0)) gathered.claims.0 (omega (arith, once)) gathered.full)
