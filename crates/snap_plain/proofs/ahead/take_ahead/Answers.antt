use Rattle.std.proofs.Common.{◌≡◌, ◌-◌, ◌∷◌, ◌∙◌, drop, length, arith, rules, sym, subst}
use Rattle.std.proofs.lemmas.List.{take_rest}
use Rattle.std.proofs.lemmas.List.Elements.{All-head, All-tail}
use Rattle.std.proofs.lemmas.List.Sorted.{All-permutation, length_permutation}
use Rattle.std.proofs.lemmas.Result.{err_from_is_err_and}
use Rattle.snap_plain.specs.Ahead.{IsAhead}
use Rattle.snap_plain.specs.Turns.{HasTaken}
use Rattle.snap_plain.proofs.AheadFacts.{ahead_begins, behind}
use Rattle.snap_plain.proofs.ahead.take_ahead.Goals as goal

pub each-smaller : goal.each-smaller
each-smaller c = let len = length_permutation c.each.ahead.items (c.in-Some.next ∷ c.take_from.new.ahead.items) c.in-Some.ensures.taken in omega (arith, len)

pub slice_bounds-behind-count : goal.slice_bounds-behind-count
slice_bounds-behind-count c =
    let lines = c.args.lines.now in
    (All-head (IsAhead lines) c.in-Some.next c.take_from.new.ahead.items (All-permutation (IsAhead lines) c.each.ahead.items (c.in-Some.next ∷ c.take_from.new.ahead.items) c.in-Some.ensures.taken c.each.invariant.ahead)).0

pub slice_bounds-behind-start : goal.slice_bounds-behind-start
slice_bounds-behind-start c =
    let lines = c.args.lines.now in
    let within = (All-head (IsAhead lines) c.in-Some.next c.take_from.new.ahead.items (All-permutation (IsAhead lines) c.each.ahead.items (c.in-Some.next ∷ c.take_from.new.ahead.items) c.in-Some.ensures.taken c.each.invariant.ahead)).0 in
    omega (arith, within)

pub returns-in_err-take_all-clause-takes : goal.returns-in_err-take_all-clause-takes
returns-in_err-take_all-clause-takes c =
    let lines = c.args.lines.now in
    let next = c.in-Some.next in
    let (within, spells) = All-head (IsAhead lines) next c.take_from.new.ahead.items (All-permutation (IsAhead lines) c.each.ahead.items (next ∷ c.take_from.new.ahead.items) c.in-Some.ensures.taken c.each.invariant.ahead) in
    let at : next.from ≡ length lines - length c.each.behind.now = search (rules, arith) in
    let p = err_from_is_err_and c.from_residual.result c.from_residual.ensures.1 in
    rw (p.1, p.2) (λ rows begun.
    (rw c.each.invariant.limit at c.in_err-take_all.ensures.takes) (drop next.to lines) rows (ahead_begins c.args.history.now.limit rows lines c.each.behind.now next.from next.to next.events.items c.each.history.events spells at (c.each.invariant.taken rows begun)))

pub returns-in_err-take_all-clause-ahead : goal.returns-in_err-take_all-clause-ahead
returns-in_err-take_all-clause-ahead c =
    let lines = c.args.lines.now in
    All-tail (IsAhead lines) c.in-Some.next c.take_from.new.ahead.items (All-permutation (IsAhead lines) c.each.ahead.items (c.in-Some.next ∷ c.take_from.new.ahead.items) c.in-Some.ensures.taken c.each.invariant.ahead)

pub each-preserved : goal.each-preserved
each-preserved c =
    let lines = c.args.lines.now in
    let next = c.in-Some.next in
    let all = All-permutation (IsAhead lines) c.each.ahead.items (next ∷ c.take_from.new.ahead.items) c.in-Some.ensures.taken c.each.invariant.ahead in
    let (within, spells) = All-head (IsAhead lines) next c.take_from.new.ahead.items all in
    let at : next.from ≡ length lines - length c.each.behind.now = search (rules, arith) in
    record {
      taken = λ rows begun.
          subst (λ rest. HasTaken c.args.history.now.limit lines rest c.take_all.new.history.events rows) (sym (take_rest lines next.to)) (
            behind next.to lines,
            (rw c.each.invariant.limit at c.in_ok-take_all.ensures.takes) (drop next.to lines) rows (ahead_begins c.args.history.now.limit rows lines c.each.behind.now next.from next.to next.events.items c.each.history.events spells at (c.each.invariant.taken rows begun)),
          );
      limit = c.in_ok-take_all.ensures.limit ∙ c.each.invariant.limit;
      ahead = All-tail (IsAhead lines) next c.take_from.new.ahead.items all;
    }
