use Rattle.std.proofs.Common.{List, drop}
use Rattle.snap_text.specs.Fields.{Fields}
use Rattle.snap_csv.specs.inside.Rows.{Stands}
use Rattle.snap_csv.proofs.records.record_behind.Given as goal

abbrev pub invariant-loop : goal.invariant-loop
invariant-loop l = (rows : List Fields) → Stands l.fn.reader rows → Stands l.reader (drop l.counter rows)
