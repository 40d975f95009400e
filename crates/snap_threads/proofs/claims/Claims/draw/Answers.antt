use Rattle.std.proofs.Common.{◌≡◌, ◌<◌, ◌≤◌, ◌+◌, sym, ap, subst, ◌∙◌, arith, true≢false, refl}
use Rattle.std.specs.Prelude.{filter, nat_lt}
use Rattle.snap_threads.specs.Claiming.{ClaimView, CounterView, IsFinished, pieces_of}
use Rattle.snap_core.specs.Sums.{one_if}
use Rattle.snap_threads.specs.inside.Draws.{past}
use Rattle.snap_threads.specs.Draws.{first_of}
use Rattle.snap_threads.proofs.Keeps.{draws, lone_after, past_low, past_high}
use Rattle.snap_threads.proofs.Finishing.{finished_to, finished_from, pieces_stay, any_past}
use Rattle.snap_threads.proofs.claims.Claims.draw.Goals as goal

pub returns-then-claim-clause-added : goal.returns-then-claim-clause-added
returns-then-claim-clause-added c = λ no. absurd (no (subst IsFinished c.claim.view_is (finished_to _ _ c.claim.inside.finished c.claim.invariant.ended c.if-claim.true)))

pub returns-then-claim-clause-none : goal.returns-then-claim-clause-none
returns-then-claim-clause-none c = (subst IsFinished c.claim.view_is (finished_to _ _ c.claim.inside.finished c.claim.invariant.ended c.if-claim.true), refl)

pub fetch_add-found-requires : goal.fetch_add-found-requires
fetch_add-found-requires c =
    let claim = c.claim.inside in
    let counter = c.self.inside in
    let key = counter.table.shared.key in
    let p : key.pieces ≡ counter.cutting.pieces = ap (λ k. k.pieces) c.self.invariant.keyed in
    let w : key.workers ≡ counter.cutting.workers = ap (λ k. k.workers) c.self.invariant.keyed in
    let same : claim.cutting.pieces ≡ counter.cutting.pieces = ap (λ (v : ClaimView). v.pieces) c.claim.view_is ∙ c.requires.1 ∙ sym (ap (λ (v : CounterView). v.pieces) c.self.view_is) in
    let table : claim.seat.table_id ≡ counter.table.shared.table_id = ap (λ (v : ClaimView). v.table) c.claim.view_is ∙ c.requires.0 ∙ sym (ap (λ (v : CounterView). v.table) c.self.view_is) in
    let fresh = ap (λ m. past m (first_of claim.seat.me.0)) (p ∙ sym same) ∙ c.claim.invariant.ended ∙ ap one_if c.if-claim.false in
    let room : key.pieces + key.workers < 1048576 = omega (arith, p, w, counter.cutting.pieces_fit.1, counter.cutting.workers_fit.1) in
    (table, omega (arith, c.self.invariant.one_word), draws key.pieces key.workers counter.table.shared.table_id.slots claim.seat.id claim.seat.me (first_of claim.seat.me.0) room (ap (λ m. m.0) c.claim.invariant.alone) fresh)

pub invariant_of-claim : goal.invariant_of-claim
invariant_of-claim c =
    let claim = c.claim.inside in
    let after = lone_after claim.seat.me c.fetch_add-found.new.seat.me c.fetch_add-found.result c.claim.invariant.alone c.fetch_add-found.ensures.2.0 in
    let same : claim.cutting.pieces ≡ c.self.inside.cutting.pieces = ap (λ (v : ClaimView). v.pieces) c.claim.view_is ∙ c.requires.1 ∙ sym (ap (λ (v : CounterView). v.pieces) c.self.view_is) in
    record {
      alone = after.0;
      ended = past_low claim.cutting.pieces c.fetch_add-found.result claim.seat.me.0 c.fetch_add-found.new.seat.me.0 after.1 (omega (arith, c.if-found-from.true, c.from.ensures, c.pieces.ensures, same)) ∙ c.claim.invariant.ended;
    }

pub invariant_of-claim-else-found-from : goal.invariant_of-claim-else-found-from
invariant_of-claim-else-found-from c =
    let claim = c.claim.inside in
    let after = lone_after claim.seat.me c.fetch_add-found.new.seat.me c.fetch_add-found.result c.claim.invariant.alone c.fetch_add-found.ensures.2.0 in
    let same : claim.cutting.pieces ≡ c.self.inside.cutting.pieces = ap (λ (v : ClaimView). v.pieces) c.claim.view_is ∙ c.requires.1 ∙ sym (ap (λ (v : CounterView). v.pieces) c.self.view_is) in
    record {
      alone = after.0;
      ended = past_high claim.cutting.pieces c.fetch_add-found.result claim.seat.me.0 c.fetch_add-found.new.seat.me.0 after.1 (omega (arith, c.if-found-from.false, c.from.ensures, c.pieces.ensures, same)) (c.claim.invariant.ended ∙ ap one_if c.if-claim.false);
    }

pub returns-then-found-from-clause-finished : goal.returns-then-found-from-clause-finished
returns-then-found-from-clause-finished c = λ f. absurd (true≢false (sym (finished_from _ _ c.claim.inside.finished c.claim.invariant.ended (subst IsFinished (sym c.claim.view_is) f)) ∙ c.if-claim.false))

pub returns-else-found-from-clause-finished : goal.returns-else-found-from-clause-finished
returns-else-found-from-clause-finished c = λ f. absurd (true≢false (sym (finished_from _ _ c.claim.inside.finished c.claim.invariant.ended (subst IsFinished (sym c.claim.view_is) f)) ∙ c.if-claim.false))

pub returns-else-found-from-clause-none : goal.returns-else-found-from-clause-none
returns-else-found-from-clause-none c =
    let claim = c.claim.inside in
    let n = c.fetch_add-found.result in
    let p = claim.cutting.pieces in
    let after = lone_after claim.seat.me c.fetch_add-found.new.seat.me n c.claim.invariant.alone c.fetch_add-found.ensures.2.0 in
    let same : p ≡ c.self.inside.cutting.pieces = ap (λ (v : ClaimView). v.pieces) c.claim.view_is ∙ c.requires.1 ∙ sym (ap (λ (v : CounterView). v.pieces) c.self.view_is) in
    let high : p ≤ n = omega (arith, c.if-found-from.false, c.from.ensures, c.pieces.ensures, same) in
    let gone = past_high p n claim.seat.me.0 c.fetch_add-found.new.seat.me.0 after.1 high (c.claim.invariant.ended ∙ ap one_if c.if-claim.false) in (
      any_past p (first_of c.fetch_add-found.new.seat.me.0) (omega (arith, gone)),
      ap (filter (λ m. nat_lt m p)) after.1 ∙ pieces_stay p n (first_of claim.seat.me.0) high ∙ ap pieces_of c.claim.view_is,
    )
