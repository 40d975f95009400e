use Rattle.std.proofs.Common.{◌≡◌, ◌++◌, length}
use Rattle.std.specs.Vec.Iter.{into_iter_items, into_iter_len}
use Rattle.snap_core.specs.declared.writers.Writers.TheVariants.{One}
use Rattle.snap_board.specs.History.{events_in}
use Rattle.snap_record.proofs.timeline.history_of.Given as goal

abbrev pub invariant-each : goal.invariant-each
invariant-each l = record {
  whole : l.history.events ++ events_in (into_iter_items l.event-iterator) ≡ events_in l.fn.events.items;
  limit : l.history.limit.events ≡ l.fn.limit.events;
  writers : l.history.limit.writers ≡ One;
  left : into_iter_len l.event-iterator ≡ length (into_iter_items l.event-iterator);
}
