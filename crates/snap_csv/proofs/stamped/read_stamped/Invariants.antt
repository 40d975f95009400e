use Rattle.std.proofs.Common.{◌≡◌, ◌≤◌, List, length}
use Rattle.snap_text.specs.Fields.{Fields}
use Rattle.snap_csv.specs.inside.Rows.{Stands}
use Rattle.snap_format.proofs.StampFacts.{MidStamped}
use Rattle.snap_csv.proofs.stamped.read_stamped.Given as goal

abbrev pub invariant-loop-i : goal.invariant-loop-i
invariant-loop-i l = record {
  count : length l.stamped.items ≡ l.i;
  room : l.i ≤ l.limit.events;
  midway : (rows : List Fields) → Stands l.fn.reader rows → MidStamped l.limit rows (Stands l.reader) l.stamped.items l.i;
}
