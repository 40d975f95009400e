use Rattle.snap_follow.proofs.Taking.{some_bytes}
use Rattle.snap_follow.proofs.Unquoting.{same_rows}
use Rattle.snap_follow.proofs.quotes.unquote.Goals as goal

pub returns : goal.returns
returns c = λ _.
    let goes = c.in_ok-strip.ensures c.if-not-branch.false in
    let bare_mark = rw c.deref.ensures.value at (c.may_have_mark-else-is_empty.ensures c.if-may_have_mark-2.false) in
    same_rows c.args.line.now c.strip.new.bare.items goes.0 goes.1 (some_bytes c.strip.new.bare c.if-is_empty.ensures) (c.may_have_mark.ensures c.if-may_have_mark.false) bare_mark goes.2
