use Rattle.std.proofs.Common.{◌≡◌, filter, take}
use Rattle.snap_versions.specs.inside.Listed.{calls_listed}
use Rattle.snap_versions.specs.inside.Unshown.{is_pending_update}
use Rattle.snap_versions.proofs.unshown.pending_updates.Given as goal

abbrev pub invariant-loop-call : goal.invariant-loop-call
invariant-loop-call l = calls_listed l.pending.items ≡ filter is_pending_update (calls_listed (take l.call-index l.calls))
