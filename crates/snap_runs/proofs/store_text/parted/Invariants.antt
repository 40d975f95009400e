use Rattle.std.proofs.Common.{◌≡◌, ◌++◌, length}
use Rattle.std.specs.Vec.Iter.{into_iter_items, into_iter_len}
use Rattle.snap_format.specs.Stamps.{events_of, places_of}
use Rattle.snap_runs.proofs.store_text.parted.Given as goal

abbrev pub invariant-each : goal.invariant-each
invariant-each l = record {
  events : l.events.items ++ events_of (into_iter_items l.place-iterator) ≡ events_of l.fn.sorted.items;
  records : l.records.items ++ places_of (into_iter_items l.place-iterator) ≡ places_of l.fn.sorted.items;
  left : into_iter_len l.place-iterator ≡ length (into_iter_items l.place-iterator);
}
