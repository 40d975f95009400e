use Rattle.snap_board.specs.Desks.{IsDeskOf}
use Rattle.snap_promised_tests.proofs.scans.store_up.Given as goal

abbrev pub invariant-values : goal.invariant-values
invariant-values l = IsDeskOf l.board l.desk
