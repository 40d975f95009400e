-- The faults of a history as sets: each kind in the order of a report, without a repeated fault.
use Rattle.std.specs.Prelude.{ℕ, List, Some, ◌≡◌, ◌≢◌, ◌<◌, ◌⊎◌, All, AllPairs, Contains}
use Rattle.snap_core.specs.declared.event.Event.{Event}
use Rattle.snap_core.specs.Events.{IsHistory, EventFits}
use Rattle.snap_core.specs.Calls.{Call, calls_of, views_of}
use Rattle.snap_theory.specs.KeyOrder.{KeyLess}
use Rattle.snap_theory.specs.Faults.{integrity_faults, proximity_faults, read_faults, write_faults, first_of}

-- by view, then by component
abbrev pub ByComponent : Call × ℕ → Call × ℕ → Type 0
ByComponent f g = KeyLess (f.0.number, f.1) (g.0.number, g.1)

-- by view, then by other view
abbrev pub ByOther : Call × Call → Call × Call → Type 0
ByOther f g = KeyLess (f.0.number, f.1.number) (g.0.number, g.1.number)

-- by view, then by the component that it misses, then by the one that it shows
abbrev pub ByComponents : Call × ℕ × ℕ → Call × ℕ × ℕ → Type 0
ByComponents f g = (f.0.number < g.0.number) ⊎ ((f.0.number ≡ g.0.number) × KeyLess (f.1, f.2) (g.1, g.2))

-- faults that rise strictly: their count is the size of a set, and the first is its least
pub record RiseStrictly {F : Type 0} (Less : F → F → Type 0) (faults : List F) : Type 0 where
  pub rising : AllPairs Less faults
  pub distinct : AllPairs (λ f g. f ≢ g) faults
  pub least : (f g : F) → first_of faults ≡ Some f → Contains faults g → (f ≡ g) ⊎ Less f g

-- the faults of all completed views, kind by kind
pub record FaultsRise (calls : List Call) : Type 0 where
  pub integrity : RiseStrictly ByComponent (integrity_faults calls (views_of calls))
  pub proximity : RiseStrictly ByComponent (proximity_faults calls (views_of calls))
  pub read : RiseStrictly ByOther (read_faults calls (views_of calls))
  pub write : RiseStrictly ByComponents (write_faults calls (views_of calls))

-- for a history of any length whose fields fit their types
abbrev pub FaultsRiseAlways : Type 0
FaultsRiseAlways = (events : List Event) → IsHistory events → All EventFits events → FaultsRise (calls_of events)
