-- The pieces of a long history that a page holds.
use Rattle.std.specs.Prelude.{ℕ, ◌%◌, max, ◌==◌, List, [], ◌∷◌, drop, filter, if◌then◌else◌, length, map, nat_le, slice_get, take}
use Rattle.std.specs.List.{range_with_len}
use Rattle.std.specs.Option.{option_map_or}
use Rattle.snap_draw.specs.declared.drawn.Drawn.{Drawn}
use Rattle.snap_draw.specs.declared.marks.Mark.{Mark}
use Rattle.snap_draw.specs.declared.shapes.Shapes.{Shapes}
use Rattle.snap_draw.specs.declared.window.Place.{Place}
use Rattle.snap_draw.specs.declared.window.Place.TheVariants.{Faults, From, Around}
use Rattle.snap_draw.specs.declared.window.Window.{Window}
use Rattle.snap_draw.specs.Timelines.{AreShapes}
use Rattle.snap_draw.specs.Window.{calls_from, first_around}

-- the call around which a page holds others: that of its window, or the first that is marked, or the first of all
abbrev pub center_of : Place → List Mark → ℕ
center_of Faults marks = option_map_or (λ (m : Mark). m.call) (slice_get marks 0) 0
center_of (From call) marks = call
center_of (Around call) marks = call

-- the calls that a page holds in pieces: none if its window has all, and otherwise up to `most` around the place of the window
abbrev pub held_calls : ℕ → Window → List Mark → List Drawn → List Drawn
held_calls most window marks calls =
    if nat_le (length calls) window.calls then []
    else calls_from (first_around most (length calls) (center_of window.place marks)) most calls

-- the places in a list at which its pieces begin: the multiples of their size
abbrev pub starts_of : ℕ → ℕ → List ℕ
starts_of size count = filter (λ place. (place % max size 1) == 0) (range_with_len 0 count)

abbrev pub piece_at : ℕ → List Drawn → ℕ → List Drawn
piece_at size held place = take size (drop place held)

-- the pieces of some calls, one after the other, of one size each but for the last
abbrev pub pieces_of : ℕ → List Drawn → List (List Drawn)
pieces_of size held = map (piece_at size held) (starts_of size (length held))

-- the shapes of each of some lists of calls
abbrev pub AreEach : List ℕ → List Mark → List (List Drawn) → List Shapes → Type 0
AreEach order marks [] [] = Unit {0}
AreEach order marks (calls ∷ more) (shapes ∷ others) = AreShapes order marks calls shapes × AreEach order marks more others
AreEach order marks [] (shapes ∷ others) = ⊥
AreEach order marks (calls ∷ more) [] = ⊥
