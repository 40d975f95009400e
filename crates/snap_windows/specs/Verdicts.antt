-- The verdict on a window.
use Rattle.std.specs.Prelude.{List, ◌↔◌, IsTrue}
use Rattle.snap_core.specs.declared.event.Event.{Event}
use Rattle.snap_core.specs.Calls.{calls_of}
use Rattle.snap_core.specs.declared.writers.Writers.{Writers}
use Rattle.snap_theory.specs.Windows.{IsRegularFrom, IsAtomicFromBy, left_by}
use Rattle.snap_windows.specs.declared.judge.Verdict.{Verdict}

-- whether a window is regular, and atomic, from what the events before it left; where a component has many writers, by their versions
pub record IsVerdict (writers : Writers) (verdict : Verdict) (before since : List Event) : Type 0 where
  pub regular : IsTrue verdict.regular ↔ IsRegularFrom (left_by before) (calls_of since)
  pub atomic : IsTrue verdict.atomic ↔ IsAtomicFromBy writers (left_by before) (calls_of since)
