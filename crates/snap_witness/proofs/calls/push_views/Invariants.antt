use Rattle.std.proofs.Common.{◌≡◌, ◌++◌, take}
use Rattle.snap_core.specs.Calls.{calls_of}
use Rattle.snap_witness.specs.inside.Places.{places_of, calls_numbered}
use Rattle.snap_witness.proofs.calls.push_views.Given as goal

abbrev pub invariant-loop-i : goal.invariant-loop-i
invariant-loop-i g l = l.places.items ≡ l.initial.places.items ++ places_of (calls_numbered (calls_of l.index) (take l.i l.views))
