use Rattle.std.proofs.Common.{◌≡◌, ◌≤◌, length}
use Rattle.snap_board.specs.inside.Slots.{desks_in}
use Rattle.snap_board.proofs.board.Gathered.held.Given as goal

abbrev pub invariant-each : goal.invariant-each
invariant-each l = record { counted : l.count ≡ length (desks_in l.d l.self-inside.slots); low : l.count ≤ l.d }
