-- Updates as calls, and the order of their versions.
use Rattle.std.specs.Prelude.{ℕ, List, length, map, get_or, ◌≡◌, ◌<◌, ◌≤◌, ◌⊎◌, Option, None, AllPairs}
use Rattle.snap_core.specs.Calls.{Call, Updates}
use Rattle.snap_theory.specs.Intervals.{latest_begin, earliest_end}
use Rattle.snap_theory.specs.Versioned.{AreVersioned}
use Rattle.snap_versions.specs.declared.update.Update.{Update}

abbrev pub update_call : Update → Call
update_call u = record { number = u.number; process = u.process; operation = Updates u.entry; begun = u.begun; ended = u.ended }

abbrev pub update_calls : List Update → List Call
update_calls updates = map update_call updates

-- a comes before b or has its version: by component, and then by number
abbrev pub IsNoLaterVersion : Update → Update → Type 0
IsNoLaterVersion a b = (a.entry.component < b.entry.component) ⊎ ((a.entry.component ≡ b.entry.component) × (a.entry.number ≤ b.entry.number))

-- the updates are sorted by version, and no two have one version
pub record AreSorted (updates : List Update) : Type 0 where
  pub sorted : AllPairs IsNoLaterVersion updates
  pub versioned : AreVersioned (update_calls updates)

-- the latest begin of the updates up to u
abbrev pub begin_among : List Update → Update → ℕ
begin_among updates u = latest_begin (update_calls updates) u.entry

-- the earliest end of the updates from u on
abbrev pub end_among : List Update → Update → Option ℕ
end_among updates u = earliest_end (update_calls updates) u.entry

-- the earliest end from each update on, of those from a place on
pub record AreEndsFrom (updates : List Update) (place : ℕ) (ends : List (Option ℕ)) : Type 0 where
  pub size : length ends ≡ length updates
  pub each : (k : ℕ) (d : Update) → place ≤ k → k < length updates → get_or ends k None ≡ end_among updates (get_or updates k d)
