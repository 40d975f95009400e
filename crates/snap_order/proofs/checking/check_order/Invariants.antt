use Rattle.snap_core.specs.Calls.{calls_of}
use Rattle.snap_order.proofs.State.{IsState}
use Rattle.snap_order.proofs.checking.check_order.Given as goal

abbrev pub invariant-loop-number : goal.invariant-loop-number
invariant-loop-number l = IsState (calls_of l.index) l.order l.number-index l.seen.items l.last l.latest
