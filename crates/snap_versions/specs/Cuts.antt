-- What a cut of calls is.
use Rattle.std.specs.Prelude.{ℕ, List, map, ◌≡◌, ◌⊎◌, Option, Some, None, All, Contains}
use Rattle.snap_core.specs.declared.event.Event.{Event}
use Rattle.snap_core.specs.Calls.{Call}
use Rattle.snap_theory.specs.Intervals.{cut, cut_calls}
use Rattle.snap_theory.specs.Telling.{Tells, begin_event, end_event}
use Rattle.snap_theory.specs.Versioned.{AgreeWithTime, Contradict}
use Rattle.snap_versions.specs.declared.moment.Cut.{Cut}
use Rattle.snap_versions.specs.declared.moment.Cut.TheVariants.{Told, Contradiction}
use Rattle.snap_versions.specs.declared.moment.Moment.{Moment}

abbrev pub event_of : Moment → Event
event_of m = m.event

-- the place of an end, or that of the begin if there is no end
abbrev pub end_or : Option ℕ → ℕ → ℕ
end_or (Some place) begun = place
end_or None begun = begun

-- m is the begin of the cut call c, and has the place where c began
pub record IsBeginOf (calls : List Call) (c : Call) (m : Moment) : Type 0 where
  pub at : m.at ≡ (cut calls c).begun
  pub place : m.place ≡ c.begun
  pub event : m.event ≡ begin_event c.process c.operation

-- m is the end of the cut call c, and has the place where c ended, if it did
pub record IsEndOf (calls : List Call) (c : Call) (m : Moment) : Type 0 where
  pub at : (cut calls c).ended ≡ Some m.at
  pub place : m.place ≡ end_or c.ended c.begun
  pub event : m.event ≡ end_event c.process c.operation

abbrev pub IsPartOf : List Call → Moment → Type 0
IsPartOf calls m = (c : Call) × Contains calls c × (IsBeginOf calls c m ⊎ IsEndOf calls c m)

-- the moments are those of the cut calls, in their order, and no two updates contradict time
pub record AreTold (calls : List Call) (moments : List Moment) : Type 0 where
  pub agree : AgreeWithTime calls
  pub tells : Tells (cut_calls calls) (map event_of moments)
  pub parts : All (IsPartOf calls) moments

-- an update ended at the first place, and one with a lower number began at the second, which is later
pub record AreContradicted (calls : List Call) (ended begun : ℕ) : Type 0 where
  pub lower : Call
  pub higher : Call
  pub contradict : Contradict calls lower higher
  pub end : higher.ended ≡ Some ended
  pub begin : lower.begun ≡ begun

abbrev pub IsCut : List Call → Cut → Type 0
IsCut calls (Told moments) = AreTold calls moments.items
IsCut calls (Contradiction ended begun) = AreContradicted calls ended begun
