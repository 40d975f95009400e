-- Where a list of events is none of a store: a process takes no turns, or two updates have one version.
use Rattle.std.specs.Prelude.{ℕ, Bool, false, ◌&&◌, ◌==◌, List, ◌∷◌, ◌++◌, ◌≡◌, length, Option, Some, None, if◌then◌else◌}
use Rattle.std.specs.List.{list_any}
use Rattle.snap_core.specs.declared.entry.Entry.{Entry}
use Rattle.snap_core.specs.declared.event.Event.{Event}
use Rattle.snap_core.specs.declared.event.Event.TheVariants.{BeginUpdate}
use Rattle.snap_core.specs.declared.history.EventRefusal.{EventRefusal}
use Rattle.snap_core.specs.declared.history.EventRefusal.TheVariants.{Busy, Idle, OtherOp, Number}
use Rattle.snap_core.specs.Calls.{calls_of}
use Rattle.snap_core.specs.Events.{IsWellFormed}
use Rattle.snap_core.specs.Refusals.{is_busy, is_idle, is_other}
use Rattle.snap_theory.specs.Versioned.{AreVersioned}

-- an update with the component and the number of an entry begins
abbrev pub begins_version : Entry → Event → Bool
begins_version e (BeginUpdate p d) = (d.component == e.component) && (d.number == e.number)
begins_version e _ = false

-- an update whose version an earlier one has
abbrev pub has_known_version : List Event → Event → Bool
has_known_version es (BeginUpdate p e) = list_any (begins_version e) es
has_known_version es _ = false

-- the first refusal that applies to an event of a store, after the events before it
abbrev pub store_refusal : List Event → Event → Option EventRefusal
store_refusal es e =
    if is_busy es e then Some Busy else if is_idle es e then Some Idle else if is_other es e then Some OtherOp
    else if has_known_version es e then Some Number else None

-- no event is refused after those before it
abbrev pub AreTaken : List Event → Type 0
AreTaken es = (before after : List Event) (e : Event) → es ≡ before ++ e ∷ after → store_refusal before e ≡ None

-- the event at a place is the first that is refused
pub record IsRefusedAt (es : List Event) (place : ℕ) (refusal : EventRefusal) : Type 0 where
  pub before : List Event
  pub after : List Event
  pub event : Event
  pub split : es ≡ before ++ event ∷ after
  pub place_is : place ≡ length before
  pub refused : store_refusal before event ≡ Some refusal
  pub first : AreTaken before

-- without a refusal each process takes turns, and two updates of a component have two versions
pub record AreStored (es : List Event) : Type 0 where
  pub taken : AreTaken es
  pub well_formed : IsWellFormed es
  pub versioned : AreVersioned (calls_of es)

abbrev pub AnswersTurns : List Event → Option (ℕ × EventRefusal) → Type 0
AnswersTurns es None = AreStored es
AnswersTurns es (Some x) = IsRefusedAt es x.0 x.1
