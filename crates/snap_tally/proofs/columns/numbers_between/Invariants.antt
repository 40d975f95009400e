use Rattle.snap_core.specs.Calls.{calls_of}
use Rattle.snap_tally.specs.inside.NumberTables.{AreFilled}
use Rattle.snap_tally.proofs.columns.numbers_between.Given as goal

abbrev pub invariant-loop-place : goal.invariant-loop-place
invariant-loop-place g l = AreFilled (calls_of l.index) l.from l.to l.place l.table
