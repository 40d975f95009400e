-- What the grid of the views has, and what its rows say of them.
use Rattle.std.specs.Prelude.{ℕ, ◌<◌, ◌≡◌, true, List, [], length, get_or, nat_lt, filter}
use Rattle.snap_core.specs.declared.event.Event.{Event}
use Rattle.snap_core.specs.Calls.{Call, calls_of, views_of, precedes}
use Rattle.snap_core.specs.Bounded.{IsBoundedOrdered}
use Rattle.snap_grid.specs.Columns.{GridValue, number, clashes, any_passes, drops}
use Rattle.snap_theory.specs.Faults.{exceeds, read_fault, is_stale}
use Rattle.snap_views.specs.Seen.{end_or_never, view_in}

-- the columns show of any two views whether one shows more of some component than the other
pub record ShowAll (calls : List Call) (columns : List (List ℕ)) : Type 0 where
  pub count : (j : ℕ) → j < length columns → length (get_or columns j []) ≡ length (views_of calls)
  pub exceed : (a b : ℕ) → a < length (views_of calls) → b < length (views_of calls) → exceeds (view_in calls a) (view_in calls b) ≡ any_passes true columns a b

-- the views with which the view at a place is a read fault
abbrev pub faults_at : List Call → ℕ → List Call
faults_at calls place = filter (read_fault (view_in calls place)) (views_of calls)

-- places of the begins and ends of the first n completed views: they compare as the views precede
pub record ArePlacesOf (calls : List Call) (n : ℕ) (begins ends : List ℕ) : Type 0 where
  pub begun : length begins ≡ n
  pub ended : length ends ≡ n
  pub precede : (a b : ℕ) → a < n → b < n → precedes (view_in calls a) (view_in calls b) ≡ nat_lt (number ends a) (number begins b)

-- rows of the grid clash exactly when the views are a read fault, and one drops to another exactly when that view is stale
pub record IsGridOf (events : List Event) (grid : GridValue) : Type 0 where
  pub kept : IsBoundedOrdered events
  pub rows : length grid.begins ≡ length (views_of (calls_of events))
  pub clash : (a b : ℕ) → a < length (views_of (calls_of events)) → b < length (views_of (calls_of events)) → clashes grid a b ≡ read_fault (view_in (calls_of events) a) (view_in (calls_of events) b)
  pub drop : (a b : ℕ) → a < length (views_of (calls_of events)) → b < length (views_of (calls_of events)) → drops grid a b ≡ is_stale (view_in (calls_of events) a) (view_in (calls_of events) b)

-- the places at which the first n completed views begin and end
pub record ArePlaced (calls : List Call) (n : ℕ) (begins ends : List ℕ) : Type 0 where
  pub begun : length begins ≡ n
  pub ended : length ends ≡ n
  pub begin : (a : ℕ) → a < n → number begins a ≡ (view_in calls a).begun
  pub end : (a : ℕ) → a < n → number ends a ≡ end_or_never (view_in calls a).ended
