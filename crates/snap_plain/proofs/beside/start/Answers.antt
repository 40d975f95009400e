use Rattle.std.proofs.Common.{◌≡◌, ◌∙◌, All, List, ap, arith, length, subst}
use Rattle.std.proofs.lemmas.List.FromFn.{length-map-range_with_len}
use Rattle.snap_plain.specs.Sharing.{IsNewClaim}
use Rattle.snap_plain.proofs.SharingFacts.{all_new}
use Rattle.snap_threads.specs.Claiming.{ClaimView, new_claim}
use Rattle.snap_threads.proofs.Closing.{all_front, all_last}
use Rattle.snap_plain.proofs.beside.start.Goals as goal

pub unreachable-requires : goal.unreachable-requires
unreachable-requires g c =
    let counter = c.in_ok-counter.counter in
    let long = ap length c.in_ok-counter.ensures.claims ∙ length-map-range_with_len (new_claim counter) 0 counter.workers in
    omega (arith, long, c.in_ok-counter.ensures.counter.1, c.args.cutting.workers_fit.0, c.in_default.ensures.cases.0)

pub jobs_for-requires-clause-claims : goal.jobs_for-requires-clause-claims
jobs_for-requires-clause-claims g c =
    let counter = c.in_ok-counter.counter in
    let P : ClaimView → Type 0 = IsNewClaim counter in
    all_front P c.pop.new.self.items c.in-Some.own (subst (λ (xs : List ClaimView). All P xs) c.in-Some.ensures.items (all_new counter _ c.in_ok-counter.ensures.claims))

pub returns-clause-own : goal.returns-clause-own
returns-clause-own g c =
    let counter = c.in_ok-counter.counter in
    let P : ClaimView → Type 0 = IsNewClaim counter in
    all_last P c.pop.new.self.items c.in-Some.own (subst (λ (xs : List ClaimView). All P xs) c.in-Some.ensures.items (all_new counter _ c.in_ok-counter.ensures.claims))
