use Rattle.std.proofs.Common.{ℕ, ◌<◌, ◌≡◌, get_or, true, false}
use Rattle.snap_core.specs.Calls.{calls_of, call_numbered}
use Rattle.snap_core.specs.Orders.{is_completed}
use Rattle.snap_order.proofs.checking.has_all_completed.Given as goal

abbrev pub invariant-loop-number : goal.invariant-loop-number
invariant-loop-number l = (k : ℕ) → k < l.number → is_completed (call_numbered (calls_of l.index) k) ≡ true → get_or l.seen k false ≡ true
