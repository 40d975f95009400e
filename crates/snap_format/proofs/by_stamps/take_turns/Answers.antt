use Rattle.std.proofs.Common.{ap, arith, length, refl, ◌∙◌}
use Rattle.std.proofs.lemmas.Result.{err_from_is_err_and}
use Rattle.std.specs.Vec.Iter.{into_iter_items}
use Rattle.snap_format.proofs.StampFacts.{turns_more, turns_stopped}
use Rattle.snap_format.proofs.by_stamps.take_turns.Goals as goal

pub each-preserved : goal.each-preserved
each-preserved c =
    let s = c.in-Some.ensures.steps in
    record {
      turns = turns_more c.args.limit c.args.stamped.items _ (into_iter_items c.next.new.self) c.each.history.events c.push_event.new.history.events c.in-Some.field-0 c.in-Some.field-0.place c.in-Some.field-0.event c.each.invariant.turns s.0 refl (rw c.each.invariant.limit at c.in_ok-push_event.ensures.takes);
      limit = c.in_ok-push_event.ensures.limit ∙ c.each.invariant.limit;
      left = let h = c.each.invariant.left in let e = ap length s.0 in omega (arith, s.1);
    }

pub returns-in_err-push_event : goal.returns-in_err-push_event
returns-in_err-push_event c =
    let s = c.in-Some.ensures.steps in
    let p = err_from_is_err_and c.from_residual.result c.from_residual.ensures.1 in
    rw (p.1, p.2) (turns_stopped c.args.limit c.args.stamped.items _ (into_iter_items c.next.new.self) c.each.history.events c.in-Some.field-0 c.in-Some.field-0.place c.in-Some.field-0.event c.in_err-push_event.field-0.0 c.each.invariant.turns s.0 refl refl (rw c.each.invariant.limit at c.in_err-push_event.ensures.takes))
