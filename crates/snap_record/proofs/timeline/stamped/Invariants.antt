use Rattle.std.proofs.Common.{◌≡◌, ◌++◌, length}
use Rattle.std.specs.Vec.Iter.{into_iter_items, into_iter_len}
use Rattle.snap_board.specs.History.{stamped_events}
use Rattle.snap_record.proofs.timeline.stamped.Given as goal

abbrev pub invariant-each : goal.invariant-each
invariant-each l = record {
  whole : l.events.items ++ stamped_events (into_iter_items l.call-iterator) ≡ stamped_events l.fn.all.items;
  left : into_iter_len l.call-iterator ≡ length (into_iter_items l.call-iterator);
}
