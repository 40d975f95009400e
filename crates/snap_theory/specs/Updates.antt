-- The update of a component and a number.
use Rattle.std.specs.Prelude.{ℕ, true, List, Option, find, ◌≡◌, Contains}
use Rattle.snap_core.specs.declared.event.Event.{Event}
use Rattle.snap_core.specs.Events.{IsHistory}
use Rattle.snap_core.specs.Calls.{Call, calls_of, is_update_numbered}

-- update n of component k, if there is one
abbrev pub update_of : List Call → ℕ → ℕ → Option Call
update_of calls k n = find (is_update_numbered k n) calls

-- at most one update has a given component and number
abbrev pub UpdatesAreAlone : Type 0
UpdatesAreAlone = (events : List Event) → IsHistory events → (k n : ℕ) (a b : Call) → Contains (calls_of events) a → Contains (calls_of events) b → is_update_numbered k n a ≡ true → is_update_numbered k n b ≡ true → a ≡ b
