-- How many events and completed views a window has.
use Rattle.std.specs.Prelude.{◌≡◌, ◌≢◌, ◌+◌, ◌-◌, ◌^◌, min, ℕ, Bool, true, false, if◌then◌else◌, List, length, count_by}
use Rattle.snap_core.specs.declared.event.Event.{Event}
use Rattle.snap_core.specs.declared.event.Event.TheVariants.{BeginUpdate, BeginView, EndUpdate, EndView}
use Rattle.snap_follow.specs.declared.span.Place.{Place}
use Rattle.snap_follow.specs.declared.span.Span.{Span}

-- counts stop at 2 ^ 64 - 1
abbrev pub stop : ℕ → ℕ
stop n = min n (2 ^ 64 - 1)

-- an event completes a view
abbrev pub ends_view : Event → Bool
ends_view (BeginUpdate p e) = false
ends_view (BeginView p) = false
ends_view (EndUpdate p) = false
ends_view (EndView p es) = true

-- a span has the counts of these events
pub record IsSpanOf (span : Span) (events : List Event) : Type 0 where
  pub events_are : span.events ≡ stop (length events)
  pub views_are : span.views ≡ stop (count_by ends_view events)

-- a span has one event more, at this place
abbrev pub HasOneMore : Span → Event → Place → Span → Type 0
HasOneMore before x place after =
    (after.events ≡ stop (before.events + 1)) × (after.views ≡ stop (before.views + (if ends_view x then 1 else 0))) × (after.last ≡ place) × (before.events ≡ 0 → after.first ≡ place) × (before.events ≢ 0 → after.first ≡ before.first)
