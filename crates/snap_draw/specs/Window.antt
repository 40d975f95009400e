-- Which calls are drawn.
use Rattle.std.specs.Prelude.{ℕ, ◌-◌, ◌/◌, min, Bool, true, false, ◌&&◌, ◌||◌, List, ◌==◌, nat_lt, nat_le, Option, Some, None, filter, length, not, take, if◌then◌else◌}
use Rattle.std.specs.List.{list_any}
use Rattle.snap_draw.specs.declared.drawn.Drawn.{Drawn}
use Rattle.snap_draw.specs.declared.marks.Mark.{Mark}
use Rattle.snap_draw.specs.declared.window.TheConstants.{PAGE_CALLS}
use Rattle.snap_draw.specs.declared.window.Place.{Place}
use Rattle.snap_draw.specs.declared.window.Place.TheVariants.{Faults, From, Around}
use Rattle.snap_draw.specs.declared.window.Window.{Window}
use Rattle.snap_options.specs.declared.limits.TheConstants.{LINE_CALLS}

abbrev pub is_marked : List Mark → ℕ → Bool
is_marked marks number = list_any (λ (m : Mark). m.call == number) marks

abbrev pub is_among : List Drawn → ℕ → Bool
is_among calls number = list_any (λ (d : Drawn). d.number == number) calls

abbrev pub ends_before : Option ℕ → ℕ → Bool
ends_before None place = false
ends_before (Some end) place = nat_lt end place

-- neither of two calls ended before the other began
abbrev pub overlap : Drawn → Drawn → Bool
overlap a b = not (ends_before a.call.ended b.call.begun) && not (ends_before b.call.ended a.call.begun)

abbrev pub marked_calls : List Mark → List Drawn → List Drawn
marked_calls marks calls = filter (λ (d : Drawn). is_marked marks d.number) calls

abbrev pub overlaps_one : List Drawn → Drawn → Bool
overlaps_one calls d = list_any (λ m. overlap m d) calls

-- a call overlaps one of the marked calls, or none is marked
abbrev pub is_near : List Drawn → Drawn → Bool
is_near marked d = (length marked == 0) || overlaps_one marked d

-- a call is near the marked ones, and is not marked
abbrev pub is_beside : List Mark → List Drawn → Drawn → Bool
is_beside marks marked d = not (is_marked marks d.number) && is_near marked d

-- the first other calls that overlap a marked one, or the first of all if none is marked. With the marked ones they go up to a limit
abbrev pub near_calls : ℕ → List Mark → List Drawn → List Drawn
near_calls limit marks calls = take (limit - length (marked_calls marks calls)) (filter (is_beside marks (marked_calls marks calls)) calls)

-- the calls that are marked or near
abbrev pub marked_or_among : List Mark → List Drawn → List Drawn → List Drawn
marked_or_among marks near calls = filter (λ (d : Drawn). is_marked marks d.number || is_among near d.number) calls

-- all calls of a history that has no more than a limit. Otherwise those that are marked, and the first that overlap one of these
unfoldable pub window_of : ℕ → List Mark → List Drawn → List Drawn
window_of limit marks calls =
    if nat_le (length calls) limit then calls
    else marked_or_among marks (near_calls limit marks calls) calls

-- the first calls whose numbers are no less than a first one, up to a count
abbrev pub calls_from : ℕ → ℕ → List Drawn → List Drawn
calls_from first count calls = take count (filter (λ (d : Drawn). nat_le first d.number) calls)

-- The number of the first call of a window around a call, of a history of `all` calls. Half of the window is before the call. Near an end
-- of the history it is moved, so that it has as many calls as it can
abbrev pub first_around : ℕ → ℕ → ℕ → ℕ
first_around count all call = min (call - count / 2) (all - count)

-- the calls of a window, of all calls of a history
abbrev pub drawn_in : Place → ℕ → List Mark → List Drawn → List Drawn
drawn_in Faults count marks calls = window_of count marks calls
drawn_in (From call) count marks calls = calls_from call count calls
drawn_in (Around call) count marks calls = calls_from (first_around count (length calls) call) count calls

-- a history of `all` calls has the call that a place names
abbrev pub has_call : Place → ℕ → Bool
has_call Faults all = true
has_call (From call) all = nat_lt call all
has_call (Around call) all = nat_lt call all

-- the windows of a picture if no other is asked for

abbrev pub usual_page : Window
usual_page = record { calls = PAGE_CALLS; place = Faults }

abbrev pub usual_lines : Window
usual_lines = record { calls = LINE_CALLS; place = Faults }
