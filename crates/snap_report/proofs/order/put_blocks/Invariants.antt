use Rattle.std.proofs.Common.{◌≡◌, ◌++◌, take}
use Rattle.std.specs.List.{flat_map}
use Rattle.rayon.specs.Lists.{chunks_of}
use Rattle.snap_core.specs.Calls.{calls_of}
use Rattle.snap_report.specs.inside.Parts.{lines_text}
use Rattle.snap_report.proofs.order.put_blocks.Given as goal

abbrev pub invariant-loop-text : goal.invariant-loop-text
invariant-loop-text g l = l.out.items ≡ l.fn.out.items ++ flat_map (lines_text (calls_of l.index)) (take l.text-index (chunks_of l.size l.numbers))
