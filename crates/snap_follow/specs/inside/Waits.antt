-- The records that wait, one of which comes to its place.
use Rattle.std.specs.Prelude.{◌≡◌, ◌≤◌, ◌<◌, ◌-◌, ◌+◌, ◌⊎◌, ℕ, List, length, slice_index_or}
use Rattle.std.specs.List.{insert}
use Rattle.snap_core.specs.declared.event.Event.{Event}
use Rattle.snap_follow.specs.declared.follow.Follow.{Follow}
use Rattle.snap_follow.specs.Followed.{IsLate, TakesFirst}
use Rattle.snap_follow.specs.declared.waiting.Turn.{Turn}

-- the last of the first `rank` turns has a lower stamp, and the one after them a higher one
pub record FitsAt (turns : List Turn) (at rank : ℕ) : Type 0 where
  pub within : rank ≤ length turns
  pub low : (d : Turn) → 0 < rank → (slice_index_or turns (rank - 1) d).at < at
  pub high : (d : Turn) → rank < length turns → at < (slice_index_or turns rank d).at

-- a turn comes to its place
pub record AddsTurn (old : List Turn) (turn : Turn) (new : List Turn) : Type 0 where
  pub rank : ℕ
  pub fits : FitsAt old turn.at rank
  pub placed : new ≡ insert old rank turn

-- how many wait once one more has come: one more, or as many as before if no more may
abbrev pub WaitsAfter : ℕ → ℕ → ℕ → Type 0
WaitsAfter late before now = (before < late → now ≡ before + 1) × (late ≤ before → now ≡ before)

-- the record that was read last has come to its place among those that wait, and nothing else has changed
pub record IsAdded (old : Follow) (at : ℕ) (event : Event) (new : Follow) : Type 0 where
  pub in_time : ¬ IsLate old.given at
  pub adds : AddsTurn old.waiting.turns.items (record { at = at; place = old.place; event = event }) new.waiting.turns.items
  pub same : (new.judge ≡ old.judge) × (new.form ≡ old.form) × (new.headed ≡ old.headed) × (new.place ≡ old.place) × (new.given ≡ old.given) × (new.least ≡ old.least) × (new.open_calls ≡ old.open_calls) × (new.span ≡ old.span)

-- it has, and the first of them may have gone to the judge
abbrev pub TakesTurn : Follow → ℕ → Event → Follow → Type 0
TakesTurn old at event new = (between : Follow) × IsAdded old at event between × ((new ≡ between) ⊎ TakesFirst between new)
