use Rattle.std.proofs.Common.{◌≡◌, length}
use Rattle.std.specs.Vec.Iter.{into_iter_items, into_iter_len}
use Rattle.snap_format.proofs.StampFacts.{MidTurns}
use Rattle.snap_format.proofs.by_stamps.take_turns.Given as goal

abbrev pub invariant-each : goal.invariant-each
invariant-each l = record {
  turns : MidTurns l.fn.limit l.fn.stamped.items (into_iter_items l.place-iterator) l.history.events;
  limit : l.history.limit ≡ l.fn.limit;
  left : into_iter_len l.place-iterator ≡ length (into_iter_items l.place-iterator);
}
