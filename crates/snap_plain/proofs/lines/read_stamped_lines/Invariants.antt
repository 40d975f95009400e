use Rattle.std.proofs.Common.{◌≡◌, ◌≤◌, List, length}
use Rattle.snap_plain.specs.Lines.{HasRows}
use Rattle.snap_text.specs.Fields.{Fields}
use Rattle.snap_format.proofs.StampFacts.{MidStamped}
use Rattle.snap_plain.proofs.lines.read_stamped_lines.Given as goal

abbrev pub invariant-loop-i : goal.invariant-loop-i
invariant-loop-i l = record {
  count : length l.stamped.items ≡ l.i;
  room : l.i ≤ l.limit.events;
  midway : (rows : List Fields) → HasRows l.lines rows → MidStamped l.limit rows (HasRows l.left) l.stamped.items l.i;
}
