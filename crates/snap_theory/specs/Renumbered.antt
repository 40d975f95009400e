-- A history after a quiet moment with numbers from 1, as a recorder writes it that begins there.
use Rattle.std.specs.Prelude.{ℕ, Bool, ◌-◌, ◌≡◌, ◌<◌, ◌⊎◌, List, map, filter, nat_lt, Option}
use Rattle.snap_core.specs.declared.entry.Entry.{Entry}
use Rattle.snap_core.specs.declared.event.Event.{Event}
use Rattle.snap_core.specs.declared.event.Event.TheVariants.{BeginUpdate, BeginView, EndUpdate, EndView}
use Rattle.snap_core.specs.Entries.{number_in}
use Rattle.snap_core.specs.Calls.{Call, shown, shown_number}
use Rattle.snap_core.specs.Regular.{IsViewOf}

-- an entry with its number reduced by the number of what was left
abbrev pub renumbered_entry : (ℕ → Option Entry) → Entry → Entry
renumbered_entry left e = record { component = e.component; number = e.number - number_in (left e.component); value = e.value }

-- an entry is of a later update than what was left
abbrev pub is_later : (ℕ → Option Entry) → Entry → Bool
is_later left e = nat_lt (number_in (left e.component)) e.number

-- the entries of a view, without those of what was left
abbrev pub renumbered_entries : (ℕ → Option Entry) → List Entry → List Entry
renumbered_entries left es = map (renumbered_entry left) (filter (is_later left) es)

abbrev pub renumbered_event : (ℕ → Option Entry) → Event → Event
renumbered_event left (BeginUpdate p e) = BeginUpdate p (renumbered_entry left e)
renumbered_event left (BeginView p) = BeginView p
renumbered_event left (EndUpdate p) = EndUpdate p
renumbered_event left (EndView p es) = EndView p (renumbered_entries left es)

abbrev pub renumbered : (ℕ → Option Entry) → List Event → List Event
renumbered left events = map (renumbered_event left) events

-- each view shows of each component what was left, or the entry of a later number
abbrev pub ShowsNoLess : (ℕ → Option Entry) → List Call → Type 0
ShowsNoLess left calls = (r : Call) (k : ℕ) → IsViewOf calls r → (shown r k ≡ left k) ⊎ (number_in (left k) < shown_number r k)
