-- Which calls overlap, how many are open at once, and how many events a call lasts.
use Rattle.std.specs.Prelude.{ℕ, suc, Bool, not, ◌&&◌, ◌||◌, ◌-◌, ◌==◌, max, nat_lt, List, Option, Some, None, count_by, filter, fold}
use Rattle.std.specs.List.{list_any}
use Rattle.snap_core.specs.Calls.{Call, is_before, precedes, views_of}
use Rattle.snap_core.specs.Orders.{is_update}

-- neither call precedes the other: they are concurrent (Herlihy and Wing 1990)
unfoldable pub overlaps : Call → Call → Bool
overlaps a b = not (precedes a b) && not (precedes b a)

-- the updates, pending ones among them, by call number
unfoldable pub all_updates : List Call → List Call
all_updates calls = filter is_update calls

-- r overlaps an update
unfoldable pub overlaps_update : List Call → Call → Bool
overlaps_update calls r = list_any (overlaps r) (all_updates calls)

-- r overlaps another completed view
unfoldable pub overlaps_view : List Call → Call → Bool
overlaps_view calls r = list_any (λ s. overlaps r s && not (s.number == r.number)) (views_of calls)

unfoldable pub overlaps_nothing : List Call → Call → Bool
overlaps_nothing calls r = not (overlaps_update calls r || overlaps_view calls r)

-- c has begun when the event at a place has happened, and has not ended before that event
unfoldable pub is_open_at : ℕ → Call → Bool
is_open_at place c = not (nat_lt place c.begun) && not (is_before c.ended place)

-- the number of calls that are open as c begins, c among them
unfoldable pub open_with : List Call → Call → ℕ
open_with calls c = count_by (is_open_at c.begun) calls

-- the greatest of some numbers that calls have, or 0 without a call
abbrev pub greatest : {X : Type 0} → (X → ℕ) → List X → ℕ
greatest size xs = fold (λ most x. max most (size x)) 0 xs

-- the most calls open at once: the number rises only at a begin
unfoldable pub most_open : List Call → ℕ
most_open calls = greatest (open_with calls) calls

-- the events from a begin to an end, both counted
abbrev pub events_between : ℕ → Option ℕ → ℕ
events_between begun None = 0
events_between begun (Some end) = suc (end - begun)

-- the number of events from the begin of a call to its end, both counted, or 0 for a pending call
unfoldable pub call_length : Call → ℕ
call_length c = events_between c.begun c.ended

unfoldable pub longest_call : List Call → ℕ
longest_call calls = greatest call_length calls
