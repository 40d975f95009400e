use Rattle.snap_board.specs.Desks.{IsDeskOf}
use Rattle.snap_promised_tests.proofs.boards.spend.Given as goal

abbrev pub invariant-stores : goal.invariant-stores
invariant-stores g l = IsDeskOf l.board l.desk
