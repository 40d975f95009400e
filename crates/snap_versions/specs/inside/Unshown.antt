-- The versions of pending updates that no view shows, and the calls that stay beside them.
use Rattle.std.specs.Prelude.{ℕ, Bool, true, false, not, ◌&&◌, ◌||◌, ◌≡◌, List, Option, is_some}
use Rattle.std.specs.List.{list_any}
use Rattle.snap_core.specs.declared.entry.Entry.{Entry}
use Rattle.snap_core.specs.Calls.{Call, Operation, Updates, Views, writes_number}
use Rattle.snap_theory.specs.Versioned.{shows_version}
use Rattle.snap_versions.specs.inside.Versions.{has_version, versions_in}

abbrev pub is_open_update : Operation → Option ℕ → Bool
is_open_update (Updates e) ended = not (is_some ended)
is_open_update (Views answer) ended = false

-- an update without an end
abbrev pub is_pending_update : Call → Bool
is_pending_update c = is_open_update c.operation c.ended

-- an update of component k and version n without an end
abbrev pub is_pending_version : ℕ → ℕ → Call → Bool
is_pending_version k n c = is_pending_update c && writes_number c.operation k n

-- version n of component k, without its value
abbrev pub version : ℕ → ℕ → Entry
version k n = record { component = k; number = n; value = 0 }

-- some call is a view that shows version n of component k
abbrev pub is_shown : List Call → ℕ → ℕ → Bool
is_shown calls k n = list_any (shows_version (version k n)) calls

-- the lists have the versions of pending updates, but for those that a view shows
abbrev pub AreUnshown : List Call → List (List ℕ) → Type 0
AreUnshown calls lists = (k n : ℕ) → has_version (versions_in lists k) n ≡ (list_any (is_pending_version k n) calls && not (is_shown calls k n))

abbrev pub stays_operation : List (List ℕ) → Operation → Option ℕ → Bool
stays_operation unshown (Updates e) ended = is_some ended || not (has_version (versions_in unshown e.component) e.number)
stays_operation unshown (Views answer) ended = true

-- a call that is no update of a version in these lists, unless it ended
abbrev pub stays_beside : List (List ℕ) → Call → Bool
stays_beside unshown c = stays_operation unshown c.operation c.ended
