use Rattle.std.proofs.Common.{◌≡◌, ◌++◌, Some, take, get_or, sym, ap, ◌∙◌, append_assoc, append-nil}
use Rattle.std.specs.Option.{option_copied}
use Rattle.snap_core.specs.Calls.{calls_of, call_numbered}
use Rattle.snap_index.specs.IndexedCalls.{as_indexed}
use Rattle.snap_index.specs.declared.call.Call.{Call as IndexedCall}
use Rattle.snap_index.proofs.Known.{indexed_within}
use Rattle.snap_witness.specs.inside.Places.{begin_and_end, places_of, calls_numbered}
use Rattle.snap_witness.proofs.Places.{views_more}
use Rattle.snap_witness.proofs.calls.push_views.Goals as goal

pub loop-i-init : goal.loop-i-init
unfolding places_of calls_numbered
loop-i-init g c = sym (append-nil c.args.places.now.items)

pub unreachable-requires : goal.unreachable-requires
unreachable-requires g c =
    let there = indexed_within (calls_of c.args.index.now) (get_or c.args.views.now c.loop-i.i 0) (c.requires c.loop-i.i 0 c.loop-i-test.true) in
    let gone = sym (ap option_copied c.in_default.is) ∙ c.call.ensures ∙ there in
    cc

pub loop-i-preserved : goal.loop-i-preserved
loop-i-preserved g c =
    let n = get_or c.args.views.now c.loop-i.i 0 in
    let there = indexed_within (calls_of c.args.index.now) n (c.requires c.loop-i.i 0 c.loop-i-test.true) in
    let read : Some c.in-Some.call.now ≡ Some (as_indexed (call_numbered (calls_of c.args.index.now) n)) = sym (ap option_copied c.in-Some.is) ∙ c.call.ensures ∙ there in
    let same : c.in-Some.call.now ≡ as_indexed (call_numbered (calls_of c.args.index.now) n) = cc in
    c.in_ok-push_call.ensures
    ∙ ap (λ z. z ++ begin_and_end c.in-Some.call.now.begun c.in-Some.call.now.ended) c.loop-i.invariant
    ∙ append_assoc c.args.places.now.items (places_of (calls_numbered (calls_of c.args.index.now) (take c.loop-i.i c.args.views.now))) (begin_and_end c.in-Some.call.now.begun c.in-Some.call.now.ended)
    ∙ ap (λ (z : IndexedCall). c.args.places.now.items ++ (places_of (calls_numbered (calls_of c.args.index.now) (take c.loop-i.i c.args.views.now)) ++ begin_and_end z.begun z.ended)) same
    ∙ ap (λ z. c.args.places.now.items ++ z) (sym (views_more (calls_of c.args.index.now) c.args.views.now c.loop-i.i 0 c.loop-i-test.true))
