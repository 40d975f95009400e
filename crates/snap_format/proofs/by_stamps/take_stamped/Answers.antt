use Rattle.std.proofs.Common.{refl, arith}
use Rattle.std.proofs.lemmas.Result.{err_from_is_err_and}
use Rattle.snap_format.proofs.StampFacts.{row_fails, row_full, row_taken}
use Rattle.snap_format.proofs.by_stamps.take_stamped.Goals as goal

pub returns-then-len-events : goal.returns-then-len-events
returns-then-len-events c = (refl, (refl, row_full c.args.limit _ _ _ _ _ _ _ _ refl (omega arith)))

pub returns-in_err-at : goal.returns-in_err-at
returns-in_err-at c =
    let p = err_from_is_err_and c.from_residual.result c.from_residual.ensures.1 in
    rw (p.1, p.2) (refl, row_fails c.args.limit c.args.place c.args.stamped.now.items _ _ _ _ _ _ c.in_err-at.field-0.0 refl (omega arith) c.in_err-at.ensures)

pub returns : goal.returns
returns c =
    row_taken c.args.limit c.args.place c.args.stamped.now.items c.push.new.self.items _ _ _ _ _ _ _ refl (omega arith) c.in_ok-at.ensures c.in_ok-push.ensures.items
