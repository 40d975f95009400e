-- The limit of a history if none is chosen, the greatest one, and a limit for components with one writer.
use Rattle.std.proofs.Math.Dec.{lit≤}
use Rattle.snap_core.specs.declared.limit.Limit.{Limit}
use Rattle.snap_core.specs.declared.writers.Writers.TheVariants.{One}
use Rattle.snap_core.specs.Events.{event_cap}
use Rattle.snap_core.specs.Limits.{event_limit}

-- the limit if none is chosen: each component has one writer
abbrev pub usual_limit : Limit
usual_limit = record { events = event_limit; writers = One; fits = (lit≤ tt, lit≤ tt) }

-- the greatest limit where each component has one writer
abbrev pub greatest_limit : Limit
greatest_limit = record { events = event_cap; writers = One; fits = (lit≤ tt, lit≤ tt) }

-- so many events, where each component has one writer
abbrev pub one_writer : Limit → Limit
one_writer limit = record { events = limit.events; writers = One; fits = limit.fits }
