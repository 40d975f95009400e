-- The word of a text fault, as a refusal line has it.
use Rattle.std.specs.Prelude.{ℕ, List, codes}
use Rattle.snap_text.specs.declared.fault.TextFault.{TextFault}
use Rattle.snap_text.specs.declared.fault.TextFault.TheVariants as faults

abbrev pub word_of : TextFault → List ℕ
word_of faults.Header = codes "header"
word_of faults.Fields = codes "fields"
word_of faults.TooMany = codes "toomany"
word_of faults.BadEvent = codes "event"
word_of faults.BadProcess = codes "process"
word_of faults.BadOp = codes "op"
word_of faults.BadData = codes "data"
word_of faults.Busy = codes "busy"
word_of faults.Idle = codes "idle"
word_of faults.OtherOp = codes "otherop"
word_of faults.Writer = codes "writer"
word_of faults.Number = codes "number"
word_of faults.Order = codes "order"
word_of faults.TooLong = codes "toolong"
word_of faults.BadAt = codes "at"
word_of faults.Repeated = codes "repeated"
