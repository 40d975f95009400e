-- What a call answered, read from the event that ends it.
use Rattle.std.specs.Prelude.{ℕ, List, slice_get, Option, Some, None}
use Rattle.std.specs.Option.{option_and_then}
use Rattle.snap_core.specs.Calls.{answer_at}
use Rattle.snap_core.specs.declared.entry.Entry.{Entry}
use Rattle.snap_core.specs.declared.event.Event.{Event}

-- what the event at the end of a call answers
abbrev pub answered_at : List Event → Option ℕ → Option (List Entry)
answered_at events None = None
answered_at events (Some end) = option_and_then answer_at (slice_get events end)
