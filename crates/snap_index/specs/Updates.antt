-- The updates of a component, and the pending calls.
use Rattle.std.specs.Prelude.{ℕ, Bool, false, not, ◌==◌, List, filter}
use Rattle.snap_core.specs.Calls.{Call, Operation, Updates, Views}
use Rattle.snap_core.specs.Orders.{is_completed}

abbrev pub writes_component : Operation → ℕ → Bool
writes_component (Updates e) k = e.component == k
writes_component (Views answer) k = false

-- c is an update of component k
unfoldable pub is_update_of : ℕ → Call → Bool
is_update_of k c = writes_component c.operation k

-- the updates of component k, by call number
unfoldable pub updates_of : ℕ → List Call → List Call
updates_of k calls = filter (is_update_of k) calls

-- a call without an end
unfoldable pub is_pending : Call → Bool
is_pending c = not (is_completed c)
