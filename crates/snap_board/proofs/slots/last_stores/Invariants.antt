use Rattle.std.proofs.Common.{◌≡◌, length}
use Rattle.snap_board.specs.Refusals.{desk_limit}
use Rattle.snap_board.specs.inside.Slots.{HasLast}
use Rattle.snap_board.proofs.slots.last_stores.Given as goal

abbrev pub invariant-rows : goal.invariant-rows
invariant-rows l = record { rows : HasLast l.d l.slots l.last; all : length l.last ≡ desk_limit }
