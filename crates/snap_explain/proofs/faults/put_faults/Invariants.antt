use Rattle.std.proofs.Common.{◌≡◌, ◌++◌, take}
use Rattle.std.specs.List.{flat_map}
use Rattle.snap_core.specs.Calls.{calls_of}
use Rattle.snap_conditions.specs.Kinds.{kinds}
use Rattle.snap_explain.specs.Faults.{kind_text}
use Rattle.snap_explain.proofs.faults.put_faults.Given as goal

abbrev pub invariant-loop-kind : goal.invariant-loop-kind
invariant-loop-kind g l = l.out.items ≡ l.fn.out.items ++ flat_map (kind_text l.lines.listed l.lines.records.now (calls_of l.index) l.tally) (take l.kind-index kinds)
