-- Small histories that are worked by computation, each named by what it shows.
use Rattle.std.specs.Prelude.{ℕ, List, [], ◌∷◌}
use Rattle.snap_core.specs.declared.entry.Entry.{Entry}
use Rattle.snap_core.specs.Events.{Event, BeginUpdate, BeginView, EndUpdate, EndView}

abbrev pub entry : ℕ → ℕ → ℕ → Entry
entry k n v = record { component = k; number = n; value = v }

-- an update has ended, and a later view shows nothing
abbrev pub stale_view : List Event
stale_view = BeginUpdate 0 (entry 0 1 7) ∷ EndUpdate 0 ∷ BeginView 1 ∷ EndView 1 [] ∷ []

-- a view shows an update that begins after its end
abbrev pub view_of_the_future : List Event
view_of_the_future = BeginView 1 ∷ EndView 1 (entry 0 1 7 ∷ []) ∷ BeginUpdate 0 (entry 0 1 7) ∷ EndUpdate 0 ∷ []

-- beside an open update one view shows it, and a later view does not
abbrev pub new_then_old : List Event
new_then_old = BeginUpdate 0 (entry 0 1 7) ∷ BeginView 1 ∷ EndView 1 (entry 0 1 7 ∷ []) ∷ BeginView 2 ∷ EndView 2 [] ∷ EndUpdate 0 ∷ []

-- two views disagree about the order of two updates
abbrev pub crossed_views : List Event
crossed_views =
    BeginUpdate 0 (entry 0 1 1) ∷ BeginUpdate 1 (entry 1 1 1) ∷ BeginView 2 ∷ BeginView 3 ∷
    EndView 2 (entry 0 1 1 ∷ []) ∷ EndView 3 (entry 1 1 1 ∷ []) ∷ EndUpdate 0 ∷ EndUpdate 1 ∷ []

-- of two views the later one shows more of one component and less of another
abbrev pub forward_and_back : List Event
forward_and_back =
    BeginUpdate 0 (entry 0 1 1) ∷ BeginUpdate 1 (entry 1 1 1) ∷
    BeginView 2 ∷ EndView 2 (entry 1 1 1 ∷ []) ∷ BeginView 3 ∷ EndView 3 (entry 0 1 1 ∷ []) ∷ []

-- a view shows an update and not the one that ended before it began
abbrev pub missed_update : List Event
missed_update = BeginView 2 ∷ BeginUpdate 0 (entry 0 1 5) ∷ EndUpdate 0 ∷ BeginUpdate 1 (entry 1 1 6) ∷ EndUpdate 1 ∷ EndView 2 (entry 1 1 6 ∷ []) ∷ []

-- of two pending updates one was seen
abbrev pub seen_pending : List Event
seen_pending = BeginUpdate 0 (entry 0 1 3) ∷ BeginUpdate 1 (entry 1 1 4) ∷ BeginView 2 ∷ EndView 2 (entry 0 1 3 ∷ []) ∷ []

-- a view beside an update that it does not show
abbrev pub view_before_update : List Event
view_before_update = BeginUpdate 0 (entry 0 1 3) ∷ BeginView 1 ∷ EndView 1 [] ∷ EndUpdate 0 ∷ []

-- five calls of four processes, atomic
abbrev pub atomic_run : List Event
atomic_run =
    BeginUpdate 0 (entry 0 1 10) ∷ EndUpdate 0 ∷ BeginUpdate 1 (entry 1 1 20) ∷ BeginView 2 ∷ BeginUpdate 0 (entry 0 2 11) ∷
    EndView 2 (entry 0 1 10 ∷ []) ∷ EndUpdate 0 ∷ BeginView 3 ∷ EndView 3 (entry 0 2 11 ∷ entry 1 1 20 ∷ []) ∷ EndUpdate 1 ∷ []

-- a view shows a value that was never written
abbrev pub wrong_value : List Event
wrong_value = BeginUpdate 0 (entry 0 1 7) ∷ EndUpdate 0 ∷ BeginView 1 ∷ EndView 1 (entry 0 1 8 ∷ []) ∷ []

-- a view shows the largest number, which no update has
abbrev pub largest_number : List Event
largest_number = BeginUpdate 0 (entry 0 1 7) ∷ EndUpdate 0 ∷ BeginView 1 ∷ EndView 1 (entry 0 4294967295 7 ∷ []) ∷ []

-- a stale view, and a view of a value that was never written
abbrev pub stale_and_wrong : List Event
stale_and_wrong = BeginUpdate 0 (entry 0 1 7) ∷ EndUpdate 0 ∷ BeginView 1 ∷ EndView 1 [] ∷ BeginView 2 ∷ EndView 2 (entry 0 1 9 ∷ []) ∷ []

-- four calls that are pending
abbrev pub all_pending : List Event
all_pending = BeginUpdate 0 (entry 0 1 1) ∷ BeginUpdate 1 (entry 1 1 1) ∷ BeginView 2 ∷ BeginView 3 ∷ []
