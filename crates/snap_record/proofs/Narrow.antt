-- A view of a recording lists at most one entry for each desk.
use Rattle.std.proofs.Common.{◌≤◌, ℕ, true, List, length, ap, subst, arith}
use Rattle.snap_core.specs.declared.entry.Entry.{Entry}
use Rattle.snap_core.specs.declared.event.Event.{Event}
use Rattle.snap_core.specs.declared.event.Event.TheVariants.{EndView}
use Rattle.snap_account.specs.Calls.{Mem, view_record}
use Rattle.snap_board.proofs.Listing.{listed_short}
use Rattle.snap_board.proofs.DeskEvents.{view_of}
use Rattle.snap_board.proofs.Merging.{mem_event}
use Rattle.snap_board.proofs.Ordering.{in_order_of}
use Rattle.snap_record.specs.declared.plan.Step.{Step}
use Rattle.snap_record.specs.Recording.{AreStamped}

-- a view shows what its record read, one word of each desk
pub shows_few : (scripts : List (List Step)) (events : List Event) (stamps : List ℕ) → AreStamped scripts events stamps → (p : ℕ) (es : List Entry) → Mem (EndView p es) events → length es ≤ length scripts
shows_few scripts events stamps s p es m =
    let at = mem_event s.timeline (EndView p es) (subst (Mem (EndView p es)) s.events_are m) in
    let own = (in_order_of s.accounts s.timeline s.merged).only (at.0, EndView p es) at.1 in
    let view = view_of own.0.desk own.0.calls (s.closed.rising own.0 own.1) at.0 p es own.2 in
    let whole = s.closed.whole own.0 own.1 (view_record view.begun at.0 true view.read) view.there in
    omega (arith, whole, ap length view.lists, listed_short 0 view.read)
