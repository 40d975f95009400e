use Rattle.std.proofs.Common.{◌≡◌, ◌≤◌, take}
use Rattle.snap_explain.specs.Views.{other_count}
use Rattle.snap_explain.proofs.view.other_count.Given as goal

abbrev pub invariant-loop-entry : goal.invariant-loop-entry
invariant-loop-entry l = (l.count ≡ other_count l.updates (take l.entry-index l.entries)) × (l.count ≤ l.entry-index)
