-- The calls that are marked: those that the first fault of each kind concerns.
use Rattle.std.specs.Prelude.{ℕ, List, [], ◌∷◌, ◌++◌, Option, Some, None}
use Rattle.std.specs.List.{flat_map}
use Rattle.std.specs.Option.{option_map, option_map_or}
use Rattle.snap_core.specs.Calls.{Call}
use Rattle.snap_conditions.specs.Kinds.{first_in, kinds}
use Rattle.snap_conditions.specs.declared.fault.Fault.{Fault}
use Rattle.snap_conditions.specs.declared.fault.Kind.{Kind}
use Rattle.snap_conditions.specs.declared.tally.Tally.{Tally}
use Rattle.snap_theory.specs.Updates.{update_of}
use Rattle.snap_index.specs.IndexedCalls.{number_of}
use Rattle.snap_witness.specs.Concerned.{updates_concerned, views_concerned}
use Rattle.snap_draw.specs.declared.marks.Mark.{Mark}

-- a call, if there is one
abbrev pub mark_at : Kind → Option ℕ → List Mark
mark_at kind None = []
mark_at kind (Some c) = record { kind = kind; call = c } ∷ []

-- the view of a call number
abbrev pub view_mark : Kind → ℕ → List Mark
view_mark kind view = mark_at kind (Some view)

-- the update of a component and a number, if there is one
abbrev pub update_mark : Kind → List Call → ℕ × ℕ → List Mark
update_mark kind calls update = mark_at kind (option_map number_of (update_of calls update.0 update.1))

-- the views of a fault, and the updates that show it
abbrev pub fault_marks : Kind → List Call → Fault → List Mark
fault_marks kind calls f = flat_map (view_mark kind) (views_concerned f) ++ flat_map (update_mark kind calls) (updates_concerned calls f)

-- the calls of the first fault of a kind
abbrev pub kind_marks : List Call → Tally → Kind → List Mark
kind_marks calls t kind = option_map_or (fault_marks kind calls) (first_in kind t) []

-- the calls of the first fault of each kind that a tally has
unfoldable pub marks_of : List Call → Tally → List Mark
marks_of calls t = flat_map (kind_marks calls t) kinds
