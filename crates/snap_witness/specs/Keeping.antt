-- The calls of a history that the witness of a fault keeps.
use Rattle.std.specs.Prelude.{ℕ, suc, Bool, List, [], ◌∷◌, map, filter}
use Rattle.snap_core.specs.declared.event.Event.{Event}
use Rattle.snap_core.specs.Calls.{Call, calls_of}
use Rattle.snap_theory.specs.FaultWitnesses.{Fault, fault_calls}
use Rattle.snap_theory.specs.Kept.{is_place_of, kept_call}

-- the calls that begin at a place that is kept, in their order
abbrev pub calls_begun : (ℕ → Bool) → List Call → List Call
calls_begun keeps calls = filter (λ c. keeps c.begun) calls

-- the views of a fault and the updates that show it, in the order of the history
unfoldable pub calls_kept : List Event → Fault → List Call
calls_kept events f = calls_begun (is_place_of (fault_calls events f)) (calls_of events)

-- their numbers
abbrev pub numbers_kept : List Event → Fault → List ℕ
numbers_kept events f = map (λ c. c.number) (calls_kept events f)

-- what is left of some calls one after the other, the first of which has number n
abbrev pub as_kept : (ℕ → Bool) → (ℕ → ℕ) → ℕ → List Call → List Call
as_kept keeps numbers n [] = []
as_kept keeps numbers n (c ∷ cs) = kept_call keeps numbers n c ∷ as_kept keeps numbers (suc n) cs
