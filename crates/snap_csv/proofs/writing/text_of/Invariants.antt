use Rattle.std.proofs.Common.{take}
use Rattle.snap_format.specs.Layout.{history_text}
use Rattle.snap_csv.specs.Writing.{Holds}
use Rattle.snap_csv.proofs.writing.text_of.Given as goal

abbrev pub invariant-loop-event : goal.invariant-loop-event
invariant-loop-event g l = Holds l.writer (history_text (take l.event-index l.events))
