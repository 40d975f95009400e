use Rattle.std.proofs.Common.{◌≡◌, ◌≤◌, ◌<◌, ℕ, length, map, drop, reverse, get_or, None}
use Rattle.snap_core.specs.Calls.{calls_from, next_place}
use Rattle.snap_core.specs.declared.event.Event.{Event}
use Rattle.snap_core.specs.Events.{process_of}
use Rattle.snap_index.specs.IndexedCalls.{as_indexed}
use Rattle.snap_index.proofs.listing.list_calls.Given as goal

-- the calls begun from i on, and the place of each process's next event there
abbrev pub invariant-loop-i : goal.invariant-loop-i
invariant-loop-i l = record {
  within : l.i ≤ length l.events;
  room : (i : ℕ) (e : Event) → i < length l.events → process_of (get_or l.events i e) < length l.next.items;
  places : (p : ℕ) → p < length l.next.items → get_or l.next.items p None ≡ next_place p l.i (drop l.i l.events);
  so_far : reverse l.calls.items ≡ map as_indexed (calls_from 0 l.i (drop l.i l.events));
}

abbrev pub decreases-loop-i : goal.decreases-loop-i
decreases-loop-i l = l.i
