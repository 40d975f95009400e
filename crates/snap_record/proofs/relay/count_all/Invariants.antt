use Rattle.std.proofs.Common.{◌≡◌, ◌≤◌, ◌*◌, ◌^◌}
use Rattle.snap_record.specs.Relays.{HasPlaces, count_sent}
use Rattle.snap_record.proofs.relay.count_all.Given as goal

abbrev pub invariant-places : goal.invariant-places
invariant-places l = record {
  small : l.sum ≤ l.place * 2 ^ 64;
  places : HasPlaces l.senders l.place;
  sum : l.sum ≡ count_sent l.senders l.place;
}
