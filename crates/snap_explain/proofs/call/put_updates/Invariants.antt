use Rattle.std.proofs.Common.{◌≡◌, ◌++◌, take}
use Rattle.snap_core.specs.Calls.{calls_of}
use Rattle.snap_explain.specs.Faults.{updates_text}
use Rattle.snap_explain.proofs.call.put_updates.Given as goal

abbrev pub invariant-loop-update : goal.invariant-loop-update
invariant-loop-update g l = l.out.items ≡ l.fn.out.items ++ updates_text l.records (calls_of l.index) (take l.update-index l.updates)
