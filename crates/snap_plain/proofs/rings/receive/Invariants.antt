use Rattle.std.proofs.Common.{◌≡◌, ◌<◌, ℕ, [], All, get_or}
use Rattle.rtrb.specs.Ring.{known_items}
use Rattle.snap_plain.specs.Ahead.{IsAhead}
use Rattle.snap_plain.proofs.rings.receive.Given as goal

abbrev pub invariant-loop-ring : goal.invariant-loop-ring
invariant-loop-ring g l = record {
  ahead : All (IsAhead g.T.Text.lines) l.waiting.items;
  emptied : (i : ℕ) (d : _) → i < l.ring → known_items (get_or l.outlets i d) ≡ [];
}
