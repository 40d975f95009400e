use Rattle.std.proofs.Common.{◌≡◌, ◌-◌, ◌+◌, [], ◌∷◌, ◌++◌, List, get_or, length, map, arith, sym, ap, ◌∙◌}
use Rattle.std.proofs.lemmas.List.FromFn.{map-range_with_len_more, length-map-range_with_len, get_or-map-range_with_len}
use Rattle.snap_threads.specs.inside.Draws.{empties, only_first, but_first, past}
use Rattle.snap_threads.specs.Draws.{first_of}
use Rattle.snap_threads.specs.Claiming.{ClaimView, CounterView, new_claim}
use Rattle.std.specs.List.{range_with_len}
use Rattle.snap_threads.proofs.Keeps.{begins, splits, next_list}
use Rattle.snap_threads.proofs.claims.Claims.start.Goals as goal

pub of_words-requires : goal.of_words-requires
of_words-requires c = begins c.args.cutting.pieces c.args.cutting.workers

pub split_seat-seat-requires : goal.split_seat-seat-requires
split_seat-seat-requires c =
    let i = c.loop-worker.invariant in
    (i.at, omega (arith, c.in_ok-table.ensures.0), splits _ _ _ _)

pub invariant_of-push : goal.invariant_of-push
invariant_of-push c =
    let n = next_list (c.args.cutting.workers - c.loop-worker.worker) (omega (arith, c.loop-worker-test.true, c.workers-worker-end.ensures)) in
    let left = c.loop-worker.invariant.left in
    let me = c.split_seat-seat.ensures.4 ∙ (λ j. (only_first (left j).0, [])) ∙ (λ j. (n.0 j, [])) in
    let first = ap (λ m. first_of m.0) me in
    record {
      alone = me ∙ (λ j. (sym first j ∷ [], []));
      ended = ap (past c.args.cutting.pieces) first;
    }

pub loop-worker-preserved : goal.loop-worker-preserved
loop-worker-preserved c =
    let i = c.loop-worker.invariant in
    let n = next_list (c.args.cutting.workers - c.loop-worker.worker) (omega (arith, c.loop-worker-test.true, c.workers-worker-end.ensures)) in
    let e = c.split_seat-seat.ensures in
    let me = e.4 ∙ (λ j. (only_first (i.left j).0, [])) ∙ (λ j. (n.0 j, [])) in
    let less : c.args.cutting.workers - c.loop-worker.worker - 1 ≡ c.args.cutting.workers - (c.loop-worker.worker + 1) = omega arith in
    let counter : CounterView = record { table = c.in_ok-table.table.shared.table_id; pieces = c.args.cutting.pieces; workers = c.args.cutting.workers } in
    let from_zero : 0 + c.loop-worker.worker ≡ c.loop-worker.worker = omega arith in
    let fresh : record { table = c.split_seat-seat.result.table_id; pieces = c.args.cutting.pieces; worker = c.loop-worker.worker; drawn = first_of c.split_seat-seat.result.me.0 } ≡ new_claim counter c.loop-worker.worker =
    λ j. record { table = (e.3 ∙ i.at) j; pieces = c.args.cutting.pieces; worker = c.loop-worker.worker; drawn = first_of (me j).0 } in
    record {
      at = e.0 ∙ i.at;
      left = e.2 ∙ (λ j. (but_first (i.left j).0, (i.left j).1)) ∙ (λ j. (n.1 j, [])) ∙ (λ j. (empties (less j), []));
      dealt = c.in_ok-push.ensures.items ∙ (λ j. i.dealt j ++ fresh j ∷ []) ∙ sym (map-range_with_len_more (new_claim counter) 0 c.loop-worker.worker c.loop-worker.worker from_zero);
    }

pub returns-clause-claims : goal.returns-clause-claims
returns-clause-claims c =
    let counter : CounterView = record { table = c.in_ok-table.table.shared.table_id; pieces = c.args.cutting.pieces; workers = c.args.cutting.workers } in
    let end : c.loop-worker.worker ≡ c.args.cutting.workers = omega (arith, c.loop-worker-test.false, c.workers-worker-end.ensures, c.loop-worker.auto.worker-end) in
    c.loop-worker.invariant.dealt ∙ ap (λ w. map (new_claim counter) (range_with_len 0 w)) end

pub returns-clause-of_start : goal.returns-clause-of_start
returns-clause-of_start c k d lt =
    let counter : CounterView = record { table = c.in_ok-table.table.shared.table_id; pieces = c.args.cutting.pieces; workers = c.args.cutting.workers } in
    let claims = returns-clause-claims c in
    let long = ap length claims ∙ length-map-range_with_len (new_claim counter) 0 counter.workers in
    let from_zero : 0 + k ≡ k = omega arith in
    let is = ap (λ (l : List ClaimView). get_or l k d) claims ∙ get_or-map-range_with_len (new_claim counter) 0 counter.workers k k d (omega (arith, lt, long)) from_zero in
    (ap (λ (v : ClaimView). v.table) is, ap (λ (v : ClaimView). v.pieces) is)
