-- What contracts see of a history.
use Rattle.std.specs.Prelude.{List}
use Rattle.snap_core.specs.declared.event.Event.{Event}
use Rattle.snap_core.specs.declared.limit.Limit.{Limit}

-- its events and its limit
pub record LimitedEvents : Type 0 where
  pub events : List Event
  pub limit : Limit
