use Rattle.std.proofs.Common.{◌≡◌, [], replicate}
use Rattle.snap_index.specs.Rows.{rows}
use Rattle.snap_tally.proofs.number_table.NumberTable.new.Given as goal

abbrev pub invariant-loop-k : goal.invariant-loop-k
invariant-loop-k l = rows l.by_component.items ≡ replicate l._k []
