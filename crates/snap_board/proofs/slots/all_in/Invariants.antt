use Rattle.snap_board.specs.inside.Slots.{AllIn}
use Rattle.snap_board.proofs.slots.all_in.Given as goal

abbrev pub invariant-each : goal.invariant-each
invariant-each l = AllIn l.d l.slots
