use Rattle.std.proofs.Common.{◌≡◌, ◌++◌, take}
use Rattle.std.specs.List.{flat_map}
use Rattle.snap_core.specs.Calls.{calls_of}
use Rattle.snap_report.specs.Orders.{calls_numbered}
use Rattle.snap_explain.specs.Calls.{call_text}
use Rattle.snap_explain.proofs.explanation.put_calls.Given as goal

abbrev pub invariant-loop-number : goal.invariant-loop-number
invariant-loop-number g l = l.out.items ≡ l.fn.out.items ++ flat_map (call_text l.records) (calls_numbered (calls_of l.index) (take l.number-index l.numbers))
