use Rattle.std.proofs.Common.{◌≡◌, ◌∙◌, [], ap, arith, length, subst}
use Rattle.std.proofs.lemmas.List.{nil_from_length}
use Rattle.std.proofs.lemmas.Result.{err_from_is_err_and}
use Rattle.std.specs.Vec.Iter.{into_iter_items}
use Rattle.snap_format.specs.Taking.{Midway}
use Rattle.snap_plain.specs.Lines.{HasRows, SpellsAll}
use Rattle.snap_plain.proofs.AheadFacts.{one_refused, one_taken}
use Rattle.snap_plain.proofs.ahead.take_all.Goals as goal

pub each-preserved : goal.each-preserved
each-preserved c =
    let s = c.in-Some.ensures.steps in
    record {
      taken = λ rest rows m.
          one_taken c.args.history.now.limit rows _ (into_iter_items c.next.new.self) c.in-Some.event (HasRows rest) c.each.history.events c.take_event.new.history.events s.0 (c.each.invariant.taken rest rows m) (rw c.each.invariant.limit at c.in_ok-take_event.ensures.takes);
      limit = c.in_ok-take_event.ensures.limit ∙ c.each.invariant.limit;
      left = let h = c.each.invariant.left in let e = ap length s.0 in omega (arith, s.1);
    }

pub returns-in_err-take_event-clause-takes : goal.returns-in_err-take_event-clause-takes
returns-in_err-take_event-clause-takes c =
    let s = c.in-Some.ensures.steps in
    let p = err_from_is_err_and c.from_residual.result c.from_residual.ensures.1 in
    rw (p.1, p.2) (λ rest rows m.
    one_refused c.args.history.now.limit rows _ (into_iter_items c.next.new.self) c.in-Some.event (HasRows rest) c.each.history.events c.take_event.new.history.events c.in_err-take_event.field-0.0 s.0 (c.each.invariant.taken rest rows m) (rw (c.each.invariant.limit, c.len.ensures.len) at c.in_err-take_event.ensures.takes))

pub returns-clause-takes : goal.returns-clause-takes
returns-clause-takes c = λ rest rows m.
    let none : into_iter_items c.each.event-iterator ≡ [] = nil_from_length _ (omega (arith, c.each.invariant.left, c.in-None.ensures.steps.0)) in
    subst (λ xs. Midway c.args.history.now.limit rows (SpellsAll xs (HasRows rest)) c.each.history.events (length c.each.history.events)) none (c.each.invariant.taken rest rows m)
