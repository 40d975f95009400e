-- When an event is refused after a list of events, by counts over the whole list and its calls.
use Rattle.std.specs.Prelude.{ℕ, suc, ◌%◌, Bool, true, false, not, ◌&&◌, List, [], ◌∷◌, ◌≡◌, ◌==◌, count_by, Option, Some, None, is_some, if◌then◌else◌, nat_le, nat_lt, length}
use Rattle.std.specs.List.{list_any}
use Rattle.snap_core.specs.declared.history.EventRefusal.{EventRefusal}
use Rattle.snap_core.specs.declared.history.EventRefusal.TheVariants.{TooMany, Busy, Idle, OtherOp, Writer, Number, Order}
use Rattle.snap_core.specs.declared.entry.Entry.{Entry}
use Rattle.snap_core.specs.declared.limit.Limit.{Limit}
use Rattle.snap_core.specs.declared.writers.Writers.{Writers}
use Rattle.snap_core.specs.declared.writers.Writers.TheVariants.{One, Many}
use Rattle.snap_core.specs.Calls.{Call, Operation, Updates, Views, calls_of}
use Rattle.snap_core.specs.Events.{Event, BeginUpdate, BeginView, EndUpdate, EndView, process_of, begins_update_of}

abbrev pub is_begin : Event → Bool
is_begin (BeginUpdate p e) = true
is_begin (BeginView p) = true
is_begin (EndUpdate p) = false
is_begin (EndView p es) = false

-- a process has a call open if the count of its events is odd
abbrev pub has_open : ℕ → List Event → Bool
has_open p es = count_by (λ e. process_of e == p) es % 2 == 1

-- the last event of a process, or what was there before the list
abbrev pub last_event : ℕ → Option Event → List Event → Option Event
last_event p last [] = last
last_event p last (e ∷ es) = last_event p (if process_of e == p then Some e else last) es

abbrev pub is_end_of : Event → Event → Bool
is_end_of (BeginUpdate p e) (EndUpdate q) = true
is_end_of (BeginView p) (EndView q es) = true
is_end_of _ _ = false

abbrev pub ends_last : Option Event → Event → Bool
ends_last None e = false
ends_last (Some b) e = is_end_of b e

-- a begin of a process with an open call
abbrev pub is_busy : List Event → Event → Bool
is_busy es e = is_begin e && has_open (process_of e) es

-- an end of a process without an open call
abbrev pub is_idle : List Event → Event → Bool
is_idle es e = not (is_begin e) && not (has_open (process_of e) es)

-- an end of another kind than its process's last event
abbrev pub is_other : List Event → Event → Bool
is_other es e = not (is_begin e) && not (ends_last (last_event (process_of e) None es) e)

-- an update of the component by another process
abbrev pub is_by_other : ℕ → ℕ → Event → Bool
is_by_other p k (BeginUpdate q e) = (e.component == k) && not (q == p)
is_by_other p k _ = false

-- an update of a component that has an update of another process
abbrev pub has_other_writer : List Event → Event → Bool
has_other_writer es (BeginUpdate p e) = list_any (is_by_other p e.component) es
has_other_writer es _ = false

-- an update whose number is not one more than the count of the updates of its component
abbrev pub has_other_number : List Event → Event → Bool
has_other_number es (BeginUpdate p e) = not (e.number == suc (count_by (begins_update_of e.component) es))
has_other_number es _ = false

abbrev pub writes_below : Operation → Entry → Bool
writes_below (Updates d) e = (d.component == e.component) && nat_lt d.number e.number
writes_below (Views answer) e = false

-- a pending update of an entry's component with a lower number
abbrev pub is_open_below : Entry → Call → Bool
is_open_below e c = writes_below c.operation e && not (is_some c.ended)

-- some call overtook the end of what was begun: a lower number of its component has not ended
abbrev pub has_open_below : List Call → Option Event → Bool
has_open_below calls (Some (BeginUpdate p e)) = list_any (is_open_below e) calls
has_open_below calls _ = false

-- the end of an update before that of a lower number of its component
abbrev pub ends_early : List Event → Event → Bool
ends_early es (EndUpdate p) = has_open_below (calls_of es) (last_event p None es)
ends_early es _ = false

-- where a component has one writer: an update by another process
abbrev pub breaks_writer : Writers → List Event → Event → Bool
breaks_writer One es e = has_other_writer es e
breaks_writer Many es e = false

-- where a component has many writers: an end out of order. With one writer there is none
abbrev pub breaks_order : Writers → List Event → Event → Bool
breaks_order One es e = false
breaks_order Many es e = ends_early es e

-- no refusal applies where so many processes may write a component
pub record IsAcceptedBy (writers : Writers) (es : List Event) (e : Event) : Type 0 where
  pub not_busy : is_busy es e ≡ false
  pub not_idle : is_idle es e ≡ false
  pub not_other : is_other es e ≡ false
  pub writer : breaks_writer writers es e ≡ false
  pub number : has_other_number es e ≡ false
  pub order : breaks_order writers es e ≡ false

-- no refusal applies where each component has one writer
abbrev pub IsAccepted : List Event → Event → Type 0
IsAccepted = IsAcceptedBy One

-- the first refusal that applies to a history with this limit, lack of memory aside
unfoldable pub refusal_of : Limit → List Event → Event → Option EventRefusal
refusal_of limit es e =
    if nat_le limit.events (length es) then Some TooMany
    else if is_busy es e then Some Busy
    else if is_idle es e then Some Idle
    else if is_other es e then Some OtherOp
    else if breaks_writer limit.writers es e then Some Writer
    else if has_other_number es e then Some Number
    else if breaks_order limit.writers es e then Some Order
    else None
