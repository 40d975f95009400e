use Rattle.std.proofs.Common.{◌≡◌, ◌≤◌, ℕ, List, length}
use Rattle.snap_plain.specs.Turns.{HasTaken}
use Rattle.snap_text.specs.Fields.{Fields}
use Rattle.snap_plain.proofs.lines.take_lines.Given as goal

abbrev pub invariant-each : goal.invariant-each
invariant-each l = record {
  taken : (lines : List ℕ) (rows : List Fields) → HasTaken l.fn.limit lines l.text l.fn.history.events rows → HasTaken l.fn.limit lines l.left l.history.events rows;
  limit : l.history.limit ≡ l.fn.limit;
  count : l.counter ≤ length l.history.events;
  room : l.counter ≤ l.fn.limit.events;
}
