-- The versions of updates, in a list for each component.
use Rattle.std.specs.Prelude.{ℕ, suc, Bool, false, ◌&&◌, ◌==◌, nat_lt, ◌≡◌, ◌≤◌, List, [], length, get_or, count_by, if◌then◌else◌}
use Rattle.std.specs.List.{list_any}
use Rattle.std.specs.List.Sorted.{IsNonDecreasing}
use Rattle.snap_core.specs.Calls.{Call, Operation, Updates, Views}
use Rattle.snap_core.specs.Entries.{component_count}
use Rattle.snap_core.specs.Events.{event_cap}

-- the versions of component k
abbrev pub versions_in : List (List ℕ) → ℕ → List ℕ
versions_in lists k = get_or lists k []

-- an update of component k with a version that passes a test
abbrev pub writes_where : ℕ → (ℕ → Bool) → Operation → Bool
writes_where k test (Updates e) = (e.component == k) && test e.number
writes_where k test (Views answer) = false

-- the versions of component k are those of its updates: a test passes as many of either
pub record AreVersionsOf (calls : List Call) (lists : List (List ℕ)) : Type 0 where
  pub size : length lists ≡ component_count
  pub same : (k : ℕ) (test : ℕ → Bool) → count_by test (versions_in lists k) ≡ count_by (λ c. writes_where k test c.operation) calls

-- the versions of each component rise
abbrev pub AllRise : List (List ℕ) → Type 0
AllRise lists = (k : ℕ) → IsNonDecreasing (versions_in lists k)

pub record IsTable (lists : List (List ℕ)) : Type 0 where
  pub size : length lists ≡ component_count
  pub rising : AllRise lists
  pub few : (k : ℕ) → length (versions_in lists k) ≤ event_cap

-- version n is among some
abbrev pub has_version : List ℕ → ℕ → Bool
has_version versions n = list_any (λ m. m == n) versions

-- the rank of version n among some, from 1. A version that is none of them gets the number after theirs.
abbrev pub rank_among : List ℕ → ℕ → ℕ
rank_among versions n = if has_version versions n then suc (count_by (λ m. nat_lt m n) versions) else suc (length versions)
