use Rattle.std.proofs.Common.{◌≡◌, map, take}
use Rattle.snap_core.specs.Calls.{calls_of}
use Rattle.snap_draw.specs.Calls.{drawn_call}
use Rattle.snap_draw.proofs.drawn.all_calls.Given as goal

abbrev pub invariant-loop-number : goal.invariant-loop-number
invariant-loop-number g l = l.calls.items ≡ map drawn_call (take l.number (calls_of l.index))
