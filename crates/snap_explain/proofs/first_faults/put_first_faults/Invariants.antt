use Rattle.std.proofs.Common.{◌≡◌, ◌++◌, take}
use Rattle.std.specs.List.{flat_map}
use Rattle.snap_core.specs.Calls.{calls_of}
use Rattle.snap_conditions.specs.Kinds.{kinds}
use Rattle.snap_explain.specs.FirstFaults.{firsts_text}
use Rattle.snap_explain.proofs.first_faults.put_first_faults.Given as goal

abbrev pub invariant-loop-kind : goal.invariant-loop-kind
invariant-loop-kind g l = l.out.items ≡ l.fn.out.items ++ flat_map (firsts_text l.most l.lines.listed l.lines.records.now (calls_of l.index)) (take l.kind-index kinds)
