use Rattle.std.proofs.Common.{[], arith}
use Rattle.snap_plain.proofs.PlainFacts.{one_more, others_too, too_few, upto_first}
use Rattle.snap_plain.proofs.fields.five_first.Goals as goal

pub returns-in_err-at : goal.returns-in_err-at
returns-in_err-at c =
    let text = c.args.text.now in
    rw c.from_residual.ensures (too_few 5 text [] text _ _ (upto_first text) c.in_err-at.ensures.2 (omega arith))

pub returns-in_err-event : goal.returns-in_err-event
returns-in_err-event c = rw c.from_residual-in_err-event.ensures (others_too _ _ c.args.text.now 4 c.in_ok-at.ensures c.in_err-event.ensures)

pub returns : goal.returns
returns c = one_more _ _ c.args.text.now _ _ c.in_ok-at.ensures c.in_ok-event.ensures
