-- Calls with places of their own, as the calls of a list of events have them.
use Rattle.std.specs.Prelude.{ℕ, List, ◌≡◌, ◌≢◌, ◌<◌, Some, None, AllPairs, Contains}
use Rattle.snap_core.specs.Calls.{Call, Views}

-- no two begins, no two ends, and no begin and end have one place, a call ends after it begins, and a view that has ended has an answer
pub record ArePlaced (calls : List Call) : Type 0 where
  pub begins : AllPairs (λ a b. a.begun ≢ b.begun) calls
  pub ends : (a b : Call) (place : ℕ) → Contains calls a → Contains calls b → a.ended ≡ Some place → b.ended ≡ Some place → a ≡ b
  pub apart : (a b : Call) (place : ℕ) → Contains calls a → Contains calls b → a.ended ≡ Some place → b.begun ≢ place
  pub rises : (c : Call) (place : ℕ) → Contains calls c → c.ended ≡ Some place → c.begun < place
  pub unanswered : (c : Call) → Contains calls c → c.operation ≡ Views None → c.ended ≡ None
