-- What holds of each member of a legal order, and of each two.
use Rattle.std.proofs.Common.{◌≡◌, ◌⊎◌, true, false, List, ap}
use Rattle.std.specs.Prelude.{is_some}
use Rattle.std.specs.List.{Contains}
use Rattle.snap_core.specs.Calls.{Call, precedes}
use Rattle.snap_core.specs.Orders.{is_completed, is_update}
use Rattle.snap_core.specs.Regular.{IsViewOf}
use Rattle.snap_core.proofs.Ordered.{AreOrderedCalls}

-- no later call precedes an earlier one
abbrev pub Kept : Call → Call → Type 0
Kept a b = precedes b a ≡ false

abbrev pub Stands : List Call → Call → Type 0
Stands calls c = Contains calls c × ((is_completed c ≡ true) ⊎ (is_update c ≡ true))

pub completed_view : (calls : List Call) → AreOrderedCalls calls → (r : Call) → IsViewOf calls r → is_completed r ≡ true
unfolding is_completed
completed_view calls f r v = let e = f.answered r v in ap is_some e.ends
