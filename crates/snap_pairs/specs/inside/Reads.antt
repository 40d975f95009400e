-- A grid of the views, if they have a read fault.
use Rattle.std.specs.Prelude.{ℕ, List, [], ◌≡◌, ◌<◌, ◌+◌, ◌*◌, ◌/◌, length, get_or, Option, Some, None, Result, IfOk}
use Rattle.std.specs.declared.alloc.AllocError.{AllocError}
use Rattle.std.specs.declared.alloc.Global.{Global}
use Rattle.std.specs.declared.vec.Vec.{Vec}
use Rattle.snap_core.specs.declared.event.Event.{Event}
use Rattle.snap_core.specs.Calls.{Call, calls_of, views_of}
use Rattle.snap_core.specs.Entries.{component_count}
use Rattle.snap_theory.specs.Faults.{read_faults}
use Rattle.snap_tally.specs.Grids.{AreColumnsOf}

-- the grid is of the events; if there is none, no two views are a read fault
abbrev pub IsGridFor : List Event → Option (List Event) → Type 0
IsGridFor events (Some grid) = grid ≡ events
IsGridFor events None = read_faults (calls_of events) (views_of (calls_of events)) ≡ []

-- the first component of part p, if the components are cut into a part for each of `workers` workers
abbrev pub part_start : ℕ → ℕ → ℕ
part_start workers p = p * component_count / workers

-- the columns of each part of the components, if memory did not run out
abbrev pub AreParts : List Call → ℕ → List (Result (Vec (List ℕ) Global) AllocError) → Type 0
AreParts calls workers parts = (i : ℕ) (none : Result (Vec (List ℕ) Global) AllocError) → i < length parts → IfOk (get_or parts i none) (λ columns. AreColumnsOf calls (part_start workers i) (part_start workers (i + 1)) columns.items)
