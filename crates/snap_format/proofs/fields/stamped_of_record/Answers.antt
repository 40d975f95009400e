use Rattle.std.proofs.Common.{refl}
use Rattle.std.proofs.lemmas.Result.{err_from_is_err_and}
use Rattle.snap_format.proofs.StampFacts.{has_event, no_event, no_stamp}
use Rattle.snap_format.proofs.fields.stamped_of_record.Goals as goal

pub returns-in_default : goal.returns-in_default
returns-in_default c = (refl, no_stamp _ _ _ _ _ c.in_default.ensures)

pub returns-in_err-event : goal.returns-in_err-event
returns-in_err-event c =
    let p = err_from_is_err_and c.from_residual.result c.from_residual.ensures.1 in
    rw (p.1, p.2) (no_event c.args.place _ _ _ _ _ c.in-Some.at c.in_err-event.field-0.0 c.in-Some.ensures c.in_err-event.ensures)

pub returns : goal.returns
returns c = has_event _ _ _ _ _ c.in-Some.at c.in_ok-event.event c.in-Some.ensures c.in_ok-event.ensures
