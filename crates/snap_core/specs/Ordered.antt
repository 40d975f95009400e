-- When a list of events is an ordered history: several processes may write a component, and the numbers of its updates are versions.
use Rattle.std.specs.Prelude.{ℕ, true, List, ◌≡◌, ◌<◌, Some}
use Rattle.snap_core.specs.declared.entry.Entry.{Entry}
use Rattle.snap_core.specs.Events.{Event, IsWellFormed, IsNumbered}
use Rattle.snap_core.specs.Calls.{Call, calls_of, is_before}
use Rattle.snap_core.specs.Regular.{IsUpdateOf}

-- of two updates of a component, the lower number has ended before the higher one ends; if it is pending, so is the higher one
abbrev pub EndInOrder : List Call → Type 0
EndInOrder calls =
    (a b : Call) (d e : Entry) (place : ℕ) → IsUpdateOf calls a d → IsUpdateOf calls b e → d.component ≡ e.component → d.number < e.number →
    b.ended ≡ Some place → is_before a.ended place ≡ true

-- a history whose updates of a component begin and end in the order of their numbers. They may overlap, and several processes
-- may write a component (Anderson 1994). The numbers are versions, and their order is the version order of multiversion
-- concurrency control (Bernstein and Goodman 1983)
pub record IsOrdered (es : List Event) : Type 0 where
  pub well_formed : IsWellFormed es
  -- the numbers count the updates as they begin
  pub numbered : IsNumbered es
  pub in_order : EndInOrder (calls_of es)
