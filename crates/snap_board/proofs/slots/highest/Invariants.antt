use Rattle.std.proofs.Common.{◌≤◌}
use Rattle.snap_board.specs.inside.Slots.{NoneFrom}
use Rattle.snap_board.proofs.slots.highest.Given as goal

abbrev pub invariant-down : goal.invariant-down
invariant-down l = record { within : l.d ≤ l.desks; above : NoneFrom l.d l.desks l.slots }

abbrev pub decreases-down : goal.decreases-down
decreases-down l = l.d
