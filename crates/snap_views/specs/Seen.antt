-- What the code reads of a completed view.
use Rattle.std.specs.Prelude.{ℕ, ◌-◌, ◌<◌, ◌≡◌, List, length, take, drop, get_or, Option, unwrap_or}
use Rattle.snap_core.specs.Entries.{AreEntries}
use Rattle.snap_core.specs.Calls.{Call, entries_of, views_of, nobody}
use Rattle.snap_index.specs.IndexedCalls.{as_indexed}
use Rattle.snap_views.specs.declared.seen.SeenView.{SeenView}

pub record IsSeen (r : Call) (view : SeenView) : Type 0 where
  pub number : view.call_number ≡ r.number
  pub call : view.call ≡ as_indexed r
  pub entries : view.entries.now ≡ entries_of r.operation
  pub shape : AreEntries (entries_of r.operation)

-- the completed view at a place
abbrev pub view_in : List Call → ℕ → Call
view_in calls place = get_or (views_of calls) place nobody

-- the end of a call; a place after all begins if there is none
abbrev pub end_or_never : Option ℕ → ℕ
end_or_never ended = unwrap_or ended 4294967295

-- the completed views with places from `from` to before `to`
abbrev pub views_between : List Call → ℕ → ℕ → List Call
views_between calls from to = take (to - from) (drop from (views_of calls))

-- the completed views at two places
abbrev pub views_at : List Call → ℕ × ℕ → Call × Call
views_at calls places = (view_in calls places.0, view_in calls places.1)

-- both are places of completed views
abbrev pub AreViewPlaces : List Call → ℕ × ℕ → Type 0
AreViewPlaces calls places = (places.0 < length (views_of calls)) × (places.1 < length (views_of calls))
