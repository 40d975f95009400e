use Rattle.std.proofs.Common.{◌≡◌, ◌++◌, take}
use Rattle.snap_core.specs.Calls.{calls_of}
use Rattle.snap_report.specs.inside.Parts.{lines_text}
use Rattle.snap_report.proofs.order.put_lines.Given as goal

abbrev pub invariant-loop-number : goal.invariant-loop-number
invariant-loop-number g l = l.out.items ≡ l.fn.out.items ++ lines_text (calls_of l.index) (take l.number-index l.numbers)
