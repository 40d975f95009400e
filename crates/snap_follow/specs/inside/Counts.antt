-- How many calls count as open.
use Rattle.std.specs.Prelude.{ℕ, ◌+◌, ◌-◌, ◌≤◌, if◌then◌else◌}
use Rattle.snap_core.specs.declared.event.Event.{Event}
use Rattle.snap_core.specs.Refusals.{is_begin}

-- the most calls that count as open, once an event has come: one more after a begin, and one fewer after an end
abbrev pub CountsOpen : ℕ → Event → ℕ → Type 0
CountsOpen before x after = after ≤ (if is_begin x then before + 1 else before - 1)
