use Rattle.std.proofs.Common.{rules, ◌≡◌, append-nil, length, length-set, map, sym, ap, ◌∙◌, ℕ, ◌<◌, ◌-◌, arith, drop, reverse, replicate, get_or, [], Option, Some, None, Vec, Global}
use Rattle.std.proofs.lemmas.List.{get_or_default, drop_all, get_or-replicate, length-replicate}
use Rattle.snap_index.specs.declared.call.Call.{Call}
use Rattle.snap_core.specs.Events.{process_of}
use Rattle.snap_core.specs.Calls.{calls_of, calls_from, next_place}
use Rattle.snap_index.specs.IndexedCalls.{as_indexed}
use Rattle.snap_index.proofs.Back.{placed, so_far_more}
use Rattle.snap_index.proofs.listing.list_calls.Goals as goal
use Rattle.snap_index.proofs.listing.list_calls.Goals.{in-Some+in_ok-push, in_default}

pub loop-i-init : goal.loop-i-init
loop-i-init c =
    let empty : drop (length c.args.events.now) c.args.events.now ≡ [] = drop_all (length c.args.events.now) c.args.events.now (omega arith) in
    let n = c.process_limit.result in
    let table : c.in_ok-next.next.items ≡ replicate n None = c.in_ok-next.ensures.items_if_clones_equal (search rules) in
    record {
      within = omega arith;
      room = λ i e l. omega (arith, ap length table, length-replicate {A = Option ℕ} n None, c.process_limit.ensures i e l);
      places = λ p l. ap (λ z. get_or z p None) table ∙ get_or-replicate n p None None (omega (arith, l, ap length table, length-replicate {A = Option ℕ} n None)) ∙ sym (ap (next_place p (length c.args.events.now)) empty);
      so_far = ap reverse c.in_ok-calls.ensures.items ∙ sym (ap (λ z. map as_indexed (calls_from 0 (length c.args.events.now) z)) empty);
    }

pub loop-i-preserved : goal.loop-i-preserved
loop-i-preserved c =
    let fits : c.process-p.result < length c.loop-i.next.items = omega (arith, c.process-p.ensures, ap process_of c.index-events-i.is, c.loop-i.invariant.room (c.loop-i.i - 1) c.index-events-i.result (omega arith)) in
    let ends : c.index-ended.result.now ≡ next_place c.process-p.result c.loop-i.i (drop c.loop-i.i c.args.events.now) =
    c.index-ended.ensures ∙ get_or_default c.loop-i.next.items c.process-p.result c.index-ended.result.now None fits ∙ c.loop-i.invariant.places c.process-p.result fits in
    record {
      within = omega arith;
      room = λ i e l. omega (arith, length-set {A = Option ℕ}, c.loop-i.invariant.room i e l);
      places = λ p l. placed c.loop-i.next.items c.args.events.now c.loop-i.i c.index-events-i.result c.process-p.result fits c.process-p.ensures (omega arith) (omega arith) c.index-events-i.is p (c.loop-i.invariant.places p (omega (arith, l, length-set {A = Option ℕ})));
      so_far = elim c.match-begun_by.branch [
        | in-Some+in_ok-push w ↦ so_far_more c.args.events.now c.loop-i.i c.index-events-i.result c.process-p.result (Some w.in-Some.op) c.index-ended.result.now c.loop-i.calls.items c.match-begun_by.calls.items (omega arith) (omega arith) c.index-events-i.is c.process-p.ensures
            (sym w.in-Some.is ∙ c.begun_by.ensures) ends (ap (λ (v : Vec Call Global). v.items) w.calls-is ∙ w.in_ok-push.ensures.items) c.loop-i.invariant.so_far
        | in_default w ↦ so_far_more c.args.events.now c.loop-i.i c.index-events-i.result c.process-p.result None c.index-ended.result.now c.loop-i.calls.items c.match-begun_by.calls.items (omega arith) (omega arith) c.index-events-i.is c.process-p.ensures
            (sym w.in_default.is ∙ c.begun_by.ensures) ends (ap (λ (v : Vec Call Global). v.items) w.calls-is ∙ sym (append-nil c.loop-i.calls.items)) c.loop-i.invariant.so_far
      ];
    }

pub returns : goal.returns
unfolding calls_of
returns c =
    let zero : c.loop-i.i ≡ 0 = omega arith in
    c.reverse.ensures.items ∙ c.loop-i.invariant.so_far ∙ ap (λ z. map as_indexed (calls_from 0 z (drop z c.args.events.now))) zero
