-- What a view shows beside what was left before it.
use Rattle.std.specs.Prelude.{ℕ, ◌≡◌, ◌<◌, ◌⊎◌, ⊤, List, Option, Some}
use Rattle.snap_core.specs.declared.entry.Entry.{Entry}
use Rattle.snap_core.specs.declared.event.Event.{Event}
use Rattle.snap_core.specs.declared.event.Event.TheVariants.{BeginUpdate, BeginView, EndUpdate, EndView}
use Rattle.snap_core.specs.Entries.{entry_of, number_in}

-- entries have of component k what was left, or an entry of a later number
abbrev pub ShowsAt : (ℕ → Option Entry) → List Entry → ℕ → Type 0
ShowsAt left es k = (entry_of k es ≡ left k) ⊎ (number_in (left k) < number_in (entry_of k es))

-- entries have this of each component
abbrev pub ShowsNoLess : (ℕ → Option Entry) → List Entry → Type 0
ShowsNoLess left es = (k : ℕ) → ShowsAt left es k

-- the entry e was left of a component, and the entries have neither it nor a later number; of each lesser component they have
pub record Misses (left : ℕ → Option Entry) (es : List Entry) (e : Entry) : Type 0 where
  pub component : ℕ
  pub left_there : left component ≡ Some e
  pub less : ¬ ShowsAt left es component
  pub first : (k : ℕ) → k < component → ShowsAt left es k

-- the view that an event ends shows no less than what was left
abbrev pub EventShowsNoLess : (ℕ → Option Entry) → Event → Type 0
EventShowsNoLess left (BeginUpdate p e) = ⊤
EventShowsNoLess left (BeginView p) = ⊤
EventShowsNoLess left (EndUpdate p) = ⊤
EventShowsNoLess left (EndView p es) = ShowsNoLess left es

abbrev pub EventMisses : (ℕ → Option Entry) → Event → Entry → Type 0
EventMisses left (BeginUpdate p d) e = ⊥
EventMisses left (BeginView p) e = ⊥
EventMisses left (EndUpdate p) e = ⊥
EventMisses left (EndView p es) e = Misses left es e
