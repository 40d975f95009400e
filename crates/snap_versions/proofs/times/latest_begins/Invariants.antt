use Rattle.std.proofs.Common.{◌≡◌, map, take}
use Rattle.snap_versions.specs.inside.Updates.{begin_among}
use Rattle.snap_versions.proofs.times.latest_begins.Given as goal

abbrev pub invariant-loop-i : goal.invariant-loop-i
invariant-loop-i l = l.begins.items ≡ map (begin_among l.updates) (take l.i l.updates)
