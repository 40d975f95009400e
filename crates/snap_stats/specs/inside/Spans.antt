-- Calls by the places of their begin and end.
use Rattle.std.specs.Prelude.{ℕ, Bool, true, not, ◌&&◌, ◌||◌, ◌≡◌, ◌≤◌, nat_lt, List, Option, Some, None, count_by}
use Rattle.std.specs.List.{list_any}
use Rattle.std.specs.Option.{ForSome}
use Rattle.snap_core.specs.Calls.{Call, is_before, is_view}
use Rattle.snap_core.specs.Orders.{is_update}
use Rattle.snap_stats.specs.Overlaps.{events_between}
use Rattle.snap_stats.specs.declared.span.Span.{Span}
use Rattle.snap_stats.specs.declared.span.Kind.{Kind}
use Rattle.snap_stats.specs.declared.span.Kind.TheVariants.{Any, Update, View}
use Rattle.snap_stats.specs.declared.overlaps.Overlapping.{Overlapping}

abbrev pub span_of : Call → Span
span_of c = record { begun = c.begun; ended = c.ended }

abbrev pub is_of : Kind → Call → Bool
is_of Any c = true
is_of Update c = is_update c
is_of View c = is_view c

-- a call ends no earlier than it begins
abbrev pub Rises : Span → Type 0
Rises s = ForSome s.ended (λ end. s.begun ≤ end)

-- s begins no later than an end, and does not end before a begin
abbrev pub meets : ℕ → Option ℕ → Span → Bool
meets begun ended s = not (is_before ended s.begun) && not (is_before s.ended begun)

abbrev pub meets_span : Span → Span → Bool
meets_span r s = meets r.begun r.ended s

-- begins and ends of spans: as many are up to any place as the spans have
pub record AreTimesOf (spans : List Span) (begins ends : List ℕ) : Type 0 where
  pub begins_are : (ended : Option ℕ) → count_by (λ x. not (is_before ended x)) begins ≡ count_by (λ s. not (is_before ended s.begun)) spans
  pub ends_are : (place : ℕ) → count_by (λ x. nat_lt x place) ends ≡ count_by (λ s. is_before s.ended place) spans

-- r meets a span, and r meets more than one
abbrev pub meets_some : List Span → Span → Bool
meets_some spans r = nat_lt 0 (count_by (meets_span r) spans)

abbrev pub meets_two : List Span → Span → Bool
meets_two spans r = nat_lt 1 (count_by (meets_span r) spans)

abbrev pub overlapping_in : List Span → List Span → Overlapping
overlapping_in updates views = record {
  update = count_by (meets_some updates) views;
  view = count_by (meets_two views) views;
  nothing = count_by (λ r. not (meets_some updates r || meets_two views r)) views;
}

-- the number of spans that meet the begin of one, itself among them
abbrev pub open_in : List Span → Span → ℕ
open_in spans r = count_by (meets r.begun (Some r.begun)) spans

abbrev pub span_length : Span → ℕ
span_length s = events_between s.begun s.ended
