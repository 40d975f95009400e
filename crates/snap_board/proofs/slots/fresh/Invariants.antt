use Rattle.std.proofs.Common.{◌≡◌, length}
use Rattle.snap_board.specs.Refusals.{desk_limit}
use Rattle.snap_board.specs.inside.Slots.{Fresh}
use Rattle.snap_board.proofs.slots.fresh.Given as goal

abbrev pub invariant-rows : goal.invariant-rows
invariant-rows l = record { rows : Fresh l.d l.slots; all : length l.slots ≡ desk_limit }
