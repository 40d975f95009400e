use Rattle.std.proofs.Common.{ap, ◌∙◌}
use Rattle.std.proofs.lemmas.Result.{err_from_is_err_and}
use Rattle.snap_format.specs.Stamps.{places_of}
use Rattle.snap_format.proofs.StampFacts.{shapes_stop, turns_stop, whole}
use Rattle.snap_format.proofs.by_stamps.history_by_stamps.Goals as goal

pub returns-in_err-sorted : goal.returns-in_err-sorted
returns-in_err-sorted c = λ rows reads.
    let p = err_from_is_err_and c.from_residual.result c.from_residual.ensures.1 in
    rw (p.1, p.2) (shapes_stop c.args.limit rows c.in_err-sorted.field-0.0 (rw c.in_err-sorted.was at (c.in_stamp_order.ensures c.args.limit rows reads)))

pub returns-in_err-take_turns : goal.returns-in_err-take_turns
returns-in_err-take_turns c = λ rows reads.
    let p = err_from_is_err_and c.from_residual-in_err-take_turns.result c.from_residual-in_err-take_turns.ensures.1 in
    rw (p.1, p.2) (turns_stop c.args.limit rows c.in_ok-sorted.sorted.items c.in_err-take_turns.field-0.0 (c.in_ok-sorted.ensures c.args.limit rows reads) c.in_err-take_turns.ensures)

pub returns : goal.returns
returns c = λ rows reads.
    whole c.args.limit rows c.in_ok-sorted.sorted.items c.in_ok-take_turns.field-0 c.in_ok-places.places (c.in_ok-sorted.ensures c.args.limit rows reads) c.in_ok-take_turns.ensures (c.in_ok-places.ensures ∙ ap places_of c.deref.ensures.value)
