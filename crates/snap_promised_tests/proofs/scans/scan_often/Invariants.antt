use Rattle.snap_board.specs.Desks.{IsDeskOf}
use Rattle.snap_promised_tests.proofs.scans.scan_often.Given as goal

abbrev pub invariant-scans : goal.invariant-scans
invariant-scans l = IsDeskOf l.board l.desk
