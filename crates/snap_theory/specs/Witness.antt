-- The history of some views, and of one update for each of some components.
use Rattle.std.specs.Prelude.{ℕ, List, [], ◌∷◌, ◌++◌, ◌==◌, ◌≡◌, Option, Some, None, if◌then◌else◌, Contains}
use Rattle.snap_core.specs.declared.event.Event.{Event}
use Rattle.snap_core.specs.Calls.{Call, calls_of}
use Rattle.snap_core.specs.Regular.{IsViewOf}
use Rattle.snap_theory.specs.Updates.{update_of}
use Rattle.snap_theory.specs.Kept.{is_place_of, kept_call, kept_events}

-- the number in the first pair with component k, 0 if there is none
abbrev pub numbers_of : List (ℕ × ℕ) → ℕ → ℕ
numbers_of [] k = 0
numbers_of (p ∷ ps) k = if p.0 == k then p.1 else numbers_of ps k

abbrev pub found_call : Option Call → List Call
found_call None = []
found_call (Some c) = c ∷ []

-- the updates of these components and numbers, as far as there are such updates
abbrev pub updates_kept : List Call → List (ℕ × ℕ) → List Call
updates_kept calls [] = []
updates_kept calls (p ∷ ps) = found_call (update_of calls p.0 p.1) ++ updates_kept calls ps

unfoldable pub witness_calls : List Call → List Call → List (ℕ × ℕ) → List Call
witness_calls calls rs ps = rs ++ updates_kept calls ps

unfoldable pub witness_of : List Event → List Call → List (ℕ × ℕ) → List Event
witness_of events rs ps = kept_events (witness_calls (calls_of events) rs ps) (numbers_of ps) events

-- a call as it is in the witness, with this number
unfoldable pub in_witness : List Event → List Call → List (ℕ × ℕ) → ℕ → Call → Call
in_witness events rs ps n c = kept_call (is_place_of (witness_calls (calls_of events) rs ps)) (numbers_of ps) n c

-- completed views, and components with a number each
pub record AreWitnesses (events : List Event) (rs : List Call) (ps : List (ℕ × ℕ)) : Type 0 where
  pub views : (r : Call) → Contains rs r → IsViewOf (calls_of events) r
  pub apart : (p : ℕ × ℕ) → Contains ps p → numbers_of ps p.0 ≡ p.1
