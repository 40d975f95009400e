use Rattle.std.proofs.Common.{◌≡◌, ◌+◌, All, length}
use Rattle.rtrb.specs.Ring.{known_items, received}
use Rattle.snap_plain.specs.Ahead.{IsAhead}
use Rattle.snap_plain.specs.Sharing.{TakesOut}
use Rattle.snap_plain.proofs.rings.receive_from.Given as goal

abbrev pub invariant-each : goal.invariant-each
invariant-each g l = record {
  ahead : All (IsAhead g.T.Text.lines) l.waiting.items;
  count : length (known_items l.outlet) + l.counter ≡ l.known;
  taken : TakesOut (received l.fn.outlet) (received l.outlet) l.fn.waiting.items l.waiting.items;
}
