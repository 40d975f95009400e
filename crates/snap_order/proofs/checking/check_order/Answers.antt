use Rattle.std.proofs.Common.{◌≡◌, ◌<◌, false, length, get_or, replicate, max, refl, sym, ap, ◌∙◌, subst, arith, rules}
use Rattle.std.proofs.lemmas.Bool.{false≢true}
use Rattle.snap_core.specs.Calls.{calls_of, call_numbered, nobody}
use Rattle.snap_core.proofs.Histories.{numbered_calls}
use Rattle.snap_index.specs.IndexedCalls.{as_indexed}
use Rattle.snap_index.specs.declared.call.Call.{Call}
use Rattle.snap_order.proofs.State.{IsState, Passed, passed, may_follow, next_state, first_state, last_state}
use Rattle.snap_order.proofs.Places.{found, not_lost}
use Rattle.snap_order.proofs.Checked.{bytes_of, within, Puts, puts_update, puts_nothing, read_false}
use Rattle.snap_theory.proofs.OrderLaws.{legal_order_has_no_fault}
use Rattle.snap_order.proofs.checking.check_order.Goals as goal
use Rattle.snap_order.proofs.checking.check_order.Goals.{then-index-via-then-index, then-index-via-else-index+then-not-may_stand, in-Update, in_default-op}

pub loop-number-init : goal.loop-number-init
loop-number-init c =
    let calls = calls_of c.args.index.now in
    let seen : c.in_ok-seen.seen.items ≡ replicate (length calls) false = c.in_ok-seen.ensures.items_if_clones_equal (search rules) ∙ ap (λ z. replicate z false) c.call_count.ensures in
    subst (λ z. IsState calls c.args.order.now 0 z c.in_ok-last.last 0) (sym seen)
    (subst (λ z. IsState calls c.args.order.now 0 (replicate (length calls) false) z 0) (sym c.in_ok-last.ensures) (first_state calls c.args.order.now))

pub returns-in_default-clause-exact : goal.returns-in_default-clause-exact
returns-in_default-clause-exact c =
    let es = c.args.index.now in (
      λ t. absurd (false≢true t),
      λ h. absurd (let q = passed (calls_of es) c.args.order.now c.loop-number.number-index c.loop-number.seen.items c.loop-number.last c.loop-number.latest (numbered_calls es) c.loop-number.invariant c.loop-number-test.true h in not_lost as_indexed (calls_of es) (get_or c.args.order.now c.loop-number.number-index 0) nobody q.below c.in_default.ensures),
    )

pub index-requires : goal.index-requires
index-requires c = let l = within as_indexed (calls_of c.args.index.now) (get_or c.args.order.now c.loop-number.number-index 0) c.in-Some.call.now c.in-Some.ensures in omega (arith, l, c.loop-number.invariant.seen_size)

pub index_mut-requires : goal.index_mut-requires
index_mut-requires c = let l = within as_indexed (calls_of c.args.index.now) (get_or c.args.order.now c.loop-number.number-index 0) c.in-Some.call.now c.in-Some.ensures in omega (arith, l, c.loop-number.invariant.seen_size)

pub may_stand-requires-clause-number : goal.may_stand-requires-clause-number
may_stand-requires-clause-number c = within as_indexed (calls_of c.args.index.now) (get_or c.args.order.now c.loop-number.number-index 0) c.in-Some.call.now c.in-Some.ensures

pub returns-then-index-clause-exact : goal.returns-then-index-clause-exact
returns-then-index-clause-exact c =
    let es = c.args.index.now in
    let n = get_or c.args.order.now c.loop-number.number-index 0 in
    let refused : Passed (calls_of es) n c.loop-number.seen.items c.loop-number.last c.loop-number.latest → ⊥ = λ q. elim c.then-index.branch [
      | then-index-via-then-index w ↦ false≢true (sym q.unseen ∙ read_false c.loop-number.seen.items n c.index.result.now (let s = c.loop-number.invariant.seen_size in let l = q.below in omega (arith, l, s)) c.index.ensures ∙ w.if-index.true)
      | then-index-via-else-index+then-not-may_stand w ↦ false≢true (sym w.if-not-may_stand.true ∙ w.may_stand.ensures.1 q.stands)
    ] in (
      λ t. absurd (false≢true t),
      λ h. absurd (refused (passed (calls_of es) c.args.order.now c.loop-number.number-index c.loop-number.seen.items c.loop-number.last c.loop-number.latest (numbered_calls es) c.loop-number.invariant c.loop-number-test.true h)),
    )

pub loop-number-preserved : goal.loop-number-preserved
loop-number-preserved c =
    let es = c.args.index.now in
    let calls = calls_of es in
    let n = get_or c.args.order.now c.loop-number.number-index 0 in
    let s = c.loop-number.invariant in
    let below : n < length calls = within as_indexed calls n c.in-Some.call.now c.in-Some.ensures in
    let is = found as_indexed calls n nobody c.in-Some.call.now below c.in-Some.ensures in
    let unseen : get_or c.loop-number.seen.items n false ≡ false = read_false c.loop-number.seen.items n c.index.result.now (omega (arith, below, s.seen_size)) c.index.ensures ∙ c.if-index.false in
    let m = may_follow calls c.args.order.now c.loop-number.number-index n c.loop-number.seen.items c.loop-number.last c.loop-number.latest (numbered_calls es) (bytes_of es c.event_count-events.ensures.ordered) s below unseen (c.may_stand.ensures.0 c.if-not-may_stand.false) in
    let written : Puts (call_numbered calls n) c.loop-number.last c.match-call-2.last = elim c.match-call-2.branch [
      | in-Update w ↦ puts_update calls n c.in-Some.call.now w.in-Update.entry c.loop-number.last c.match-call-2.last is w.in-Update.is (bytes_of es c.event_count-events.ensures.ordered) below s.last_size (w.last-is ∙ w.put.ensures)
      | in_default-op w ↦ puts_nothing calls n c.in-Some.call.now c.loop-number.last c.match-call-2.last is w.in_default-op.not-Update w.last-is
    ] in
    next_state calls c.args.order.now c.loop-number.number-index n c.loop-number.seen.items c.loop-number.last c.match-call-2.last c.loop-number.latest c.max-latest.result (numbered_calls es) s c.loop-number-test.true refl below m
    written.0 written.1 (c.max-latest.ensures ∙ ap (λ (z : Call). max c.loop-number.latest z.begun) is)

pub returns-clause-exact : goal.returns-clause-exact
returns-clause-exact c =
    let es = c.args.index.now in
    let e = last_state (calls_of es) c.args.order.now c.loop-number.number-index c.loop-number.seen.items c.loop-number.last c.loop-number.latest (numbered_calls es) c.loop-number.invariant c.loop-number-test.false in (
      λ t. e.1 (λ k l x. ap (λ z. get_or z k false) (sym c.deref.ensures.value) ∙ c.has_all_completed.ensures.0 t k l x),
      λ h. c.has_all_completed.ensures.1 (λ k l x. ap (λ z. get_or z k false) c.deref.ensures.value ∙ e.0 h k l x),
    )

pub returns-clause-no_fault : goal.returns-clause-no_fault
returns-clause-no_fault c = λ t.
    let es = c.args.index.now in
    let e = last_state (calls_of es) c.args.order.now c.loop-number.number-index c.loop-number.seen.items c.loop-number.last c.loop-number.latest (numbered_calls es) c.loop-number.invariant c.loop-number-test.false in
    let legal = e.1 (λ k l x. ap (λ z. get_or z k false) (sym c.deref.ensures.value) ∙ c.has_all_completed.ensures.0 t k l x) in
    legal_order_has_no_fault es c.event_count-events.ensures.kept.history legal.0 legal.2
