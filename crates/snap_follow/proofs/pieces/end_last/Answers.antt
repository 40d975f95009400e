use Rattle.snap_follow.proofs.Running.{last_as_it_is, last_by_end, stops_by_end}
use Rattle.snap_follow.proofs.Taking.{if_ok_then}
use Rattle.snap_follow.proofs.pieces.end_last.Goals as goal

pub returns-in-End-clause-ended : goal.returns-in-End-clause-ended
returns-in-End-clause-ended c =
    if_ok_then c.take_last.result _ _ c.take_last.ensures.read (λ goes_on takes is. last_by_end c.args.until c.args.course.now c.take_last.new.self c.in-End.is c.take_last.ensures.rest (takes is))

pub returns-in-End-clause-refused : goal.returns-in-End-clause-refused
returns-in-End-clause-refused c =
    if_ok_then c.take_last.result _ _ c.take_last.ensures.refused (λ goes_on stops none. stops_by_end c.args.until c.args.course.now c.in-End.is (stops none))

pub returns-in-Ever-clause-ended : goal.returns-in-Ever-clause-ended
returns-in-Ever-clause-ended c = λ _. last_as_it_is c.args.until c.args.course.now c.in-Ever.is
