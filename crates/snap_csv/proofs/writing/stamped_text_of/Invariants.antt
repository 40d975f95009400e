use Rattle.std.proofs.Common.{take}
use Rattle.std.specs.List.{zip}
use Rattle.snap_format.specs.Layout.{stamped_lines}
use Rattle.snap_csv.specs.Writing.{Holds}
use Rattle.snap_csv.proofs.writing.stamped_text_of.Given as goal

abbrev pub invariant-loop-i : goal.invariant-loop-i
invariant-loop-i g l = Holds l.writer (stamped_lines (take l.i (zip l.at l.events)))
