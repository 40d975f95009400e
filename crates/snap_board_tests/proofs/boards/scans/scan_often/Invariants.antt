use Rattle.snap_board.specs.Desks.{IsDeskOf}
use Rattle.snap_board_tests.proofs.boards.scans.scan_often.Given as goal

abbrev pub invariant-scans : goal.invariant-scans
invariant-scans l = IsDeskOf l.board l.desk
