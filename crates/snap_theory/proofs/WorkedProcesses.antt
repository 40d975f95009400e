-- Two processes update one component in turn: no history. The same calls are one where another process makes both updates.
use Rattle.std.specs.Prelude.{List, [], ◌∷◌, refl}
use Rattle.snap_core.specs.declared.event.Event.{Event}
use Rattle.snap_core.specs.declared.event.Event.TheVariants.{BeginUpdate, BeginView, EndUpdate, EndView}
use Rattle.snap_core.specs.Calls.{calls_of}
use Rattle.snap_core.proofs.Worked.{entry}
use Rattle.snap_theory.specs.Processes.{AreSameEvents, AreSameCalls}

abbrev two_writers : List Event
two_writers =
    BeginUpdate 0 (entry 0 1 7) ∷ EndUpdate 0 ∷ BeginUpdate 1 (entry 0 2 8) ∷ BeginView 0 ∷ EndUpdate 1 ∷
    EndView 0 (entry 0 2 8 ∷ []) ∷ BeginView 1 ∷ EndView 1 (entry 0 2 8 ∷ []) ∷ []

abbrev one_writer : List Event
one_writer =
    BeginUpdate 2 (entry 0 1 7) ∷ EndUpdate 2 ∷ BeginUpdate 2 (entry 0 2 8) ∷ BeginView 0 ∷ EndUpdate 2 ∷
    EndView 0 (entry 0 2 8 ∷ []) ∷ BeginView 1 ∷ EndView 1 (entry 0 2 8 ∷ []) ∷ []

same_events : AreSameEvents two_writers one_writer
unfolding calls_of
same_events = record { each = refl; ends = refl }

same_calls : AreSameCalls (calls_of two_writers) (calls_of one_writer)
unfolding calls_of
same_calls = refl
