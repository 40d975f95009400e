use Rattle.std.proofs.Common.{◌≡◌, ◌++◌, length, map}
use Rattle.std.specs.Vec.Iter.{into_iter_items, into_iter_len}
use Rattle.snap_versions.specs.Cuts.{event_of}
use Rattle.snap_versions.specs.Stores.{many_writers, place_of}
use Rattle.snap_versions.proofs.store.history_told.Given as goal

abbrev pub invariant-each : goal.invariant-each
invariant-each l = record {
  told : l.history.events ++ map event_of (into_iter_items l.place-iterator) ≡ map event_of l.fn.moments.items;
  places : l.places.items ++ map place_of (into_iter_items l.place-iterator) ≡ map place_of l.fn.moments.items;
  limit : l.history.limit ≡ many_writers l.fn.limit;
  left : into_iter_len l.place-iterator ≡ length (into_iter_items l.place-iterator);
}
