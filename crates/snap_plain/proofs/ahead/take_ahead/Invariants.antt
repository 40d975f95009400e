use Rattle.std.proofs.Common.{◌≡◌, All, List, length}
use Rattle.snap_plain.specs.Ahead.{IsAhead}
use Rattle.snap_plain.specs.Turns.{HasTaken}
use Rattle.snap_text.specs.Fields.{Fields}
use Rattle.snap_plain.proofs.ahead.take_ahead.Given as goal

abbrev pub invariant-each : goal.invariant-each
invariant-each l = record {
  taken : (rows : List Fields) → HasTaken l.fn.history.limit l.lines l.fn.behind l.fn.history.events rows → HasTaken l.fn.history.limit l.lines l.behind l.history.events rows;
  limit : l.history.limit ≡ l.fn.history.limit;
  ahead : All (IsAhead l.lines) l.ahead.items;
}

abbrev pub decreases-each : goal.decreases-each
decreases-each l = length l.ahead.items
