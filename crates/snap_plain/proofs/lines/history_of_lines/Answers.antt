use Rattle.std.proofs.lemmas.Result.{err_from_is_err_and}
use Rattle.snap_format.proofs.ReadFacts.{with_stamps, without_stamps}
use Rattle.snap_plain.proofs.lines.history_of_lines.Goals as goal

pub returns-in_err-history-in-Stamped : goal.returns-in_err-history-in-Stamped
returns-in_err-history-in-Stamped c = λ rows known.
    let (head, later, is, heads, left) = rw c.in-Stamped.is at known in
    let p = err_from_is_err_and c.from_residual.result c.from_residual.ensures.1 in
    rw (p.1, p.2) (without_stamps c.args.limit rows head later c.in_err-history-in-Stamped.field-0.0 is heads (c.in_err-history-in-Stamped.ensures later left))

pub returns-in_ok-history-in-Stamped : goal.returns-in_ok-history-in-Stamped
returns-in_ok-history-in-Stamped c = λ rows known.
    let (head, later, is, heads, left) = rw c.in-Stamped.is at known in
    with_stamps c.args.limit rows head later c.in_ok-history-in-Stamped.history c.in_ok-history-in-Stamped.records is heads (c.in_ok-history-in-Stamped.ensures later left)
