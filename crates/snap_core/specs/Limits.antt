-- The greatest number of events of a history, as a caller chooses it.
use Rattle.std.specs.Prelude.{ℕ, ◌≤◌}
use Rattle.snap_core.specs.declared.limit.TheConstants.{EVENT_LIMIT}
use Rattle.snap_core.specs.Events.{event_cap}

-- the greatest number of events of a history if no limit is chosen
abbrev pub event_limit : ℕ
event_limit = EVENT_LIMIT

-- a limit that may be chosen
abbrev pub IsLimit : ℕ → Type 0
IsLimit n = (1 ≤ n) × (n ≤ event_cap)
