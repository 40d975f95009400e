-- The places of calls, and the calls of numbers.
use Rattle.std.specs.Prelude.{ℕ, List, [], ◌∷◌, Option, Some, None, map, flat_map}
use Rattle.snap_core.specs.Calls.{Call, call_numbered}

-- the places of a begin and of its end, if there is one
abbrev pub begin_and_end : ℕ → Option ℕ → List ℕ
begin_and_end begun None = begun ∷ []
begin_and_end begun (Some ended) = begun ∷ ended ∷ []

abbrev pub call_places : Call → List ℕ
call_places c = begin_and_end c.begun c.ended

-- the places of some calls, in the order of the calls
unfoldable pub places_of : List Call → List ℕ
places_of chosen = flat_map call_places chosen

-- the calls of these call numbers
unfoldable pub calls_numbered : List Call → List ℕ → List Call
calls_numbered calls numbers = map (call_numbered calls) numbers
