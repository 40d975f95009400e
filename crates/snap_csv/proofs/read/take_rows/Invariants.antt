use Rattle.std.proofs.Common.{◌≡◌, ◌≤◌, List, length}
use Rattle.snap_text.specs.Fields.{Fields}
use Rattle.snap_csv.specs.inside.Rows.{Stands}
use Rattle.snap_format.specs.Taking.{Midway}
use Rattle.snap_csv.proofs.read.take_rows.Given as goal

abbrev pub invariant-loop-i : goal.invariant-loop-i
invariant-loop-i l = record {
  midway : (rows : List Fields) → Midway l.fn.limit rows (Stands l.fn.reader) l.fn.history.events 0 → Midway l.fn.limit rows (Stands l.reader) l.history.events l.i;
  limit : l.history.limit ≡ l.fn.limit;
  count : length l.history.events ≡ l.i;
  room : l.i ≤ l.fn.limit.events;
}
