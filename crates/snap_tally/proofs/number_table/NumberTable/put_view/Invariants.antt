use Rattle.std.proofs.Common.{take}
use Rattle.snap_tally.specs.inside.NumberTables.{IsPut}
use Rattle.snap_tally.proofs.number_table.NumberTable.put_view.Given as goal

abbrev pub invariant-loop-entry : goal.invariant-loop-entry
invariant-loop-entry l = IsPut l.count l.place (take l.entry-index l.entries) l.fn.self l.self
