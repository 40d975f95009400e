use Rattle.std.proofs.Common.{◌<◌, ℕ, get_or}
use Rattle.snap_core.specs.declared.event.Event.{Event}
use Rattle.snap_core.specs.Events.{process_of}
use Rattle.snap_index.proofs.listing.process_limit.Given as goal

abbrev pub invariant-loop-event : goal.invariant-loop-event
invariant-loop-event l = (i : ℕ) (e : Event) → i < l.event-index → process_of (get_or l.events i e) < l.limit
