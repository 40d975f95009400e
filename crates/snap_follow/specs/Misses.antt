-- What the views of a window miss.
use Rattle.std.specs.Prelude.{◌≡◌, ◌+◌, ◌++◌, List, ◌∷◌, Option, Some, None, MatchOption, All, length}
use Rattle.snap_core.specs.declared.entry.Entry.{Entry}
use Rattle.snap_core.specs.declared.event.Event.{Event}
use Rattle.snap_theory.specs.Windows.{left_by}
use Rattle.snap_windows.specs.Missed.{EventMisses, EventShowsNoLess}
use Rattle.snap_windows.specs.Taken.{HasTaken}
use Rattle.snap_windows.specs.declared.judge.WindowJudge.{WindowJudge}
use Rattle.snap_follow.specs.Places.{IsPlaceOfEvent}
use Rattle.snap_follow.specs.declared.span.Place.{Place}

-- an entry that was left before a window, and the place at which the first view of it ends that shows neither that nor a later number
pub record IsFirstMiss (places : List Place) (before window : List Event) (entry : Entry) (place : Place) : Type 0 where
  pub front : List Event
  pub view : Event
  pub behind : List Event
  pub parts : window ≡ front ++ view ∷ behind
  pub shown : All (EventShowsNoLess (left_by before)) front
  pub misses : EventMisses (left_by before) view entry
  pub place_is : IsPlaceOfEvent places (length before + length front + 1) place

-- what the views of a window miss first, if one misses anything
abbrev pub AreMissed : List Place → List Event → List Event → Option (Entry × Place) → Type 0
AreMissed places before window None = All (EventShowsNoLess (left_by before)) window
AreMissed places before window (Some missed) = IsFirstMiss places before window missed.0 missed.1

-- what was missed first, once one event more has come, which may miss something
abbrev pub first_missed : Option (Entry × Place) → Option Entry → Place → Option (Entry × Place)
first_missed None None place = None
first_missed None (Some entry) place = Some (entry, place)
first_missed (Some missed) found place = Some missed

-- an event at a place may be the first that misses something
abbrev pub MissesNext : WindowJudge → Event → Option (Entry × Place) → Place → Option (Entry × Place) → Type 0
MissesNext judge x old place new =
    (found : Option Entry) × (new ≡ first_missed old found place) × ((before since : List Event) → HasTaken judge before since → MatchOption found (EventShowsNoLess (left_by before) x) (EventMisses (left_by before) x))
