use Rattle.std.proofs.Common.{◌≡◌, map, take}
use Rattle.snap_core.specs.Calls.{calls_of}
use Rattle.snap_core.specs.Orders.{is_update}
use Rattle.snap_stats.proofs.shown.update_marks.Given as goal

abbrev pub invariant-loop-number : goal.invariant-loop-number
invariant-loop-number g l = l.marks.items ≡ map is_update (take l.number (calls_of l.index))
