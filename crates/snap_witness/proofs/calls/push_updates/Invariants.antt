use Rattle.std.proofs.Common.{◌≡◌, ◌++◌, take}
use Rattle.snap_core.specs.Calls.{calls_of}
use Rattle.snap_witness.specs.inside.Places.{places_of}
use Rattle.snap_theory.specs.Witness.{updates_kept}
use Rattle.snap_witness.proofs.calls.push_updates.Given as goal

abbrev pub invariant-loop-i : goal.invariant-loop-i
invariant-loop-i g l = l.places.items ≡ l.initial.places.items ++ places_of (updates_kept (calls_of l.index) (take l.i l.updates))
