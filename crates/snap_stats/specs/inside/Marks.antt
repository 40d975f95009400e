-- Marks of updates, which are taken when views show the updates, and counts of the components that views show.
use Rattle.std.specs.Prelude.{ℕ, Bool, false, not, ◌&&◌, ◌+◌, ◌≡◌, ◌<◌, List, cond, get_or, is_some, length, count_by}
use Rattle.std.specs.List.{list_any}
use Rattle.snap_core.specs.declared.entry.Entry.{Entry}
use Rattle.snap_core.specs.Calls.{Call, call_numbered}
use Rattle.snap_core.specs.Entries.{component_count, entry_of}
use Rattle.snap_core.specs.Orders.{is_update}
use Rattle.snap_stats.specs.Shown.{is_listed, shows, shows_component}

-- the marks of the updates that the entries list are taken, and no others
abbrev pub AreTaken : List Call → List Entry → List Bool → List Bool → Type 0
AreTaken calls entries old new =
    (c : ℕ) → c < length calls → get_or new c false ≡ (get_or old c false && not (is_listed entries (call_numbered calls c)))

-- the updates that none of some views shows have a mark, and no other call has one
abbrev pub AreLeft : List Call → List Call → List Bool → Type 0
AreLeft calls views marks =
    (c : ℕ) → c < length calls → get_or marks c false ≡ (is_update (call_numbered calls c) && not (list_any (λ r. shows r (call_numbered calls c)) views))

-- each component of some entries is counted once more
abbrev pub AreCountedMore : List Entry → List ℕ → List ℕ → Type 0
AreCountedMore entries old new =
    (k : ℕ) → k < component_count → get_or new k 0 ≡ get_or old k 0 + cond (is_some (entry_of k entries)) 1 0

-- the number of views, among some, that show each component
abbrev pub AreViewCounts : List Call → List ℕ → Type 0
AreViewCounts views counts = (k : ℕ) → k < component_count → get_or counts k 0 ≡ count_by (shows_component k) views
