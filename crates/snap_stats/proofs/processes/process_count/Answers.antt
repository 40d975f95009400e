use Rattle.std.proofs.Common.{◌≡◌, ◌<◌, ◌≤◌, ◌+◌, ◌-◌, ◌∙◌, refl, arith, drop, set, length, length-drop, rules, length-set, map, sym, ap, subst, get_or, [], ◌∷◌, true, false, replicate, ℕ, Fits, w64, List}
use Rattle.std.proofs.lemmas.List.{drop_all, get_or-replicate, get_or_default, length-map, length-replicate}
use Rattle.snap_core.specs.Calls.{call_numbered, calls_of}
use Rattle.snap_index.specs.declared.call.Call.{Call}
use Rattle.snap_index.proofs.IndexedCalls.{call_count_within}
use Rattle.snap_report.proofs.Calls.{op_is}
use Rattle.snap_stats.specs.Shown.{distinct_count, process_count, process_in}
use Rattle.snap_stats.proofs.Distinct.{AreSeen, count_again, count_new, distinct_few, first_dropped, seen_again, seen_more}
use Rattle.snap_stats.proofs.processes.process_count.Goals as goal

fits_more : (n : ℕ) → n ≤ 4294967296 → Fits w64 (n + 1)
fits_more n l = search (rules, l)

pub overflow_add-count : goal.overflow_add-count
overflow_add-count g c =
    let left = drop c.loop-number.number (calls_of c.args.index.now) in
    fits_more c.loop-number.count (omega (arith, c.loop-number.invariant.count, distinct_few (map process_in left), length-map left process_in, length-drop c.loop-number.number (calls_of c.args.index.now), c.call_count-number.ensures, c.call_count-number.type_inv))

pub loop-number-preserved-then-not-index : goal.loop-number-preserved-then-not-index
loop-number-preserved-then-not-index g c =
    let calls = calls_of c.args.index.now in
    let n = c.loop-number.number in
    let ns = map process_in (drop n calls) in
    let p = c.in-Some.call.now.process in
    let within : n - 1 < length calls = omega (arith, c.loop-number.invariant.within, c.loop-number-test.true) in
    let is = ap (λ (b : Call). b.process) (op_is c.args.index.now (n - 1) c.in-Some.call.now within c.in-Some.ensures) in
    let more = first_dropped calls n p c.loop-number-test.true c.loop-number.invariant.within is in
    let fits : p < length c.loop-number.seen.items = search (rules, c.loop-number.invariant.size) in
    let new : get_or c.loop-number.seen.items p false ≡ false = sym (c.index.ensures ∙ get_or_default c.loop-number.seen.items p c.index.result.now false fits) ∙ c.if-not-index.true in
    record {
      within = omega (arith, within);
      size = omega (arith, c.loop-number.invariant.size, length-set c.loop-number.seen.items p true);
      seen = subst (λ z. AreSeen z (set c.loop-number.seen.items p true)) (sym more) (seen_more ns c.loop-number.seen.items (set c.loop-number.seen.items p true) p fits c.loop-number.invariant.seen refl);
      count = count_new ns p c.loop-number.count (sym (c.loop-number.invariant.seen p fits) ∙ new) c.loop-number.invariant.count ∙ ap distinct_count (sym more);
    }

pub loop-number-preserved : goal.loop-number-preserved
loop-number-preserved g c =
    let calls = calls_of c.args.index.now in
    let n = c.loop-number.number in
    let ns = map process_in (drop n calls) in
    let p = c.in-Some.call.now.process in
    let within : n - 1 < length calls = omega (arith, c.loop-number.invariant.within, c.loop-number-test.true) in
    let is = ap (λ (b : Call). b.process) (op_is c.args.index.now (n - 1) c.in-Some.call.now within c.in-Some.ensures) in
    let more = first_dropped calls n p c.loop-number-test.true c.loop-number.invariant.within is in
    let fits : p < length c.loop-number.seen.items = search (rules, c.loop-number.invariant.size) in
    let old : get_or c.loop-number.seen.items p false ≡ true = sym (c.index.ensures ∙ get_or_default c.loop-number.seen.items p c.index.result.now false fits) ∙ c.if-not-index.false in
    record {
      within = omega (arith, within);
      size = c.loop-number.invariant.size;
      seen = subst (λ z. AreSeen z c.loop-number.seen.items) (sym more) (seen_again ns c.loop-number.seen.items p c.loop-number.invariant.seen old);
      count = count_again ns p c.loop-number.count (sym (c.loop-number.invariant.seen p fits) ∙ old) c.loop-number.invariant.count ∙ ap distinct_count (sym more);
    }

pub returns : goal.returns
unfolding process_count
returns g c =
    let zero : c.loop-number.number ≡ 0 = omega (arith, c.loop-number-test.false) in
    c.loop-number.invariant.count ∙ ap (λ n. distinct_count (map process_in (drop n (calls_of c.args.index.now)))) zero
