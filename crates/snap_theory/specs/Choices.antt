-- What is proved of a choice of calls as a history.
use Rattle.std.specs.Prelude.{ℕ, Bool, true, List, ◌≡◌, Some, Contains}
use Rattle.snap_core.specs.declared.entry.Entry.{Entry}
use Rattle.snap_core.specs.declared.event.Event.{Event}
use Rattle.snap_core.specs.Events.{IsHistory}
use Rattle.snap_core.specs.Calls.{Call, Updates, calls_of, precedes}
use Rattle.snap_core.specs.Regular.{IsUpdateOf}
use Rattle.snap_theory.specs.Kept.{kept_from, kept_call}

-- a call is kept with its end or not at all; of each component only the update with the component's number is kept
pub record IsChoice (keeps : ℕ → Bool) (numbers : ℕ → ℕ) (calls : List Call) : Type 0 where
  pub whole : (c : Call) (place : ℕ) → Contains calls c → c.ended ≡ Some place → keeps place ≡ keeps c.begun
  pub one : (c : Call) (e : Entry) → IsUpdateOf calls c e → keeps c.begun ≡ true → e.number ≡ numbers e.component

-- what is kept of a history is a history; its calls are those that are kept, with the precedence that they had
pub record KeepsCalls (keeps : ℕ → Bool) (numbers : ℕ → ℕ) (events : List Event) : Type 0 where
  pub history : IsHistory (kept_from keeps numbers 0 events)
  pub each : (c : Call) → Contains (calls_of events) c → keeps c.begun ≡ true → (n : ℕ) × Contains (calls_of (kept_from keeps numbers 0 events)) (kept_call keeps numbers n c)
  pub only : (d : Call) → Contains (calls_of (kept_from keeps numbers 0 events)) d → (c : Call) × Contains (calls_of events) c × (keeps c.begun ≡ true) × (d ≡ kept_call keeps numbers d.number c)
  pub precedence : (a b : Call) (m n : ℕ) → Contains (calls_of events) a → Contains (calls_of events) b → keeps a.begun ≡ true → keeps b.begun ≡ true → precedes (kept_call keeps numbers m a) (kept_call keeps numbers n b) ≡ precedes a b

abbrev pub ChoiceKeepsCalls : Type 0
ChoiceKeepsCalls = (keeps : ℕ → Bool) (numbers : ℕ → ℕ) (events : List Event) → IsHistory events → IsChoice keeps numbers (calls_of events) → KeepsCalls keeps numbers events

-- some calls of a history, and the number of the update of each component among them
pub record AreChosen (chosen : List Call) (numbers : ℕ → ℕ) (calls : List Call) : Type 0 where
  pub there : (c : Call) → Contains chosen c → Contains calls c
  pub one : (c : Call) (e : Entry) → Contains chosen c → c.operation ≡ Updates e → e.number ≡ numbers e.component
