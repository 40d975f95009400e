use Rattle.std.proofs.Common.{◌≡◌, ◌++◌, take}
use Rattle.std.specs.List.{flat_map}
use Rattle.snap_explain.specs.Views.{named_text}
use Rattle.snap_explain.proofs.view.put_each_named.Given as goal

abbrev pub invariant-loop-entry : goal.invariant-loop-entry
invariant-loop-entry l = l.out.items ≡ l.fn.out.items ++ flat_map (named_text l.updates) (take l.entry-index l.entries)
