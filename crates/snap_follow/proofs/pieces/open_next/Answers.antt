use Rattle.snap_follow.proofs.Running.{goes_on_by_text}
use Rattle.snap_follow.proofs.pieces.open_next.Goals as goal

pub returns-in_ok-take_opened-in-Some-clause-opened : goal.returns-in_ok-take_opened-in-Some-clause-opened
returns-in_ok-take_opened-in-Some-clause-opened g c =
    let same = c.take_opened.ensures.same in
    λ next out. goes_on_by_text g.T.Text.Read.remaining c.args.course.now c.end_text.new.course c.take_opened.new.course c.args.at_hand.now c.take_opened.new.at_hand (g.T.Texts.left c.args.texts.now) (g.T.Texts.left c.open_next.new.self) c.in-Some.opened.text
    out (c.in_ok-end_text.ensures.ended c.if-not-branch.false) (rw c.in-Some.is at c.in_ok-opened.ensures.known) c.take_opened.ensures.text c.take_opened.ensures.next same.0 same.1 c.take_opened.ensures.kept
