use Rattle.std.proofs.Common.{◌≡◌, ℕ, List, length}
use Rattle.std.specs.Vec.Iter.{into_iter_items, into_iter_len}
use Rattle.snap_format.specs.Taking.{Midway}
use Rattle.snap_plain.specs.Lines.{HasRows, SpellsAll}
use Rattle.snap_text.specs.Fields.{Fields}
use Rattle.snap_plain.proofs.ahead.take_all.Given as goal

abbrev pub invariant-each : goal.invariant-each
invariant-each l = record {
  taken : (rest : List ℕ) (rows : List Fields) → Midway l.fn.history.limit rows (SpellsAll l.fn.events.items (HasRows rest)) l.fn.history.events (length l.fn.history.events) → Midway l.fn.history.limit rows (SpellsAll (into_iter_items l.event-iterator) (HasRows rest)) l.history.events (length l.history.events);
  limit : l.history.limit ≡ l.fn.history.limit;
  left : into_iter_len l.event-iterator ≡ length (into_iter_items l.event-iterator);
}
