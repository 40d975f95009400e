-- What contracts see of a counter and of its claims.
use Rattle.std.specs.Prelude.{◌≡◌, ◌<◌, ◌≤◌, ◌++◌, ◌∷◌, [], ℕ, List, Any, nat_lt, filter, map}
use Rattle.std.specs.List.{range_with_len}
use Rattle.atomic_table.specs.Seated.{TableId}
use Rattle.snap_core.specs.Sums.{times, total}

-- a counter, and the numbers of pieces and of workers that its start was given
pub record CounterView : Type 0 where
  pub table : TableId
  pub pieces : ℕ
  pub workers : ℕ

-- the claim of a worker on a counter, and the numbers that it drew, in order
pub record ClaimView : Type 0 where
  pub table : TableId
  pub pieces : ℕ
  pub worker : ℕ
  pub drawn : List ℕ

-- the claim is of this start
abbrev pub IsClaimOf : CounterView → ClaimView → Type 0
IsClaimOf counter claim = (claim.table ≡ counter.table) × (claim.pieces ≡ counter.pieces)

-- a claim that drew nothing
abbrev pub new_claim : CounterView → ℕ → ClaimView
new_claim counter worker = record { table = counter.table; pieces = counter.pieces; worker = worker; drawn = [] }

-- a claim for each worker, in order
abbrev pub new_claims : CounterView → List ClaimView
new_claims counter = map (new_claim counter) (range_with_len 0 counter.workers)

-- a number that is not a piece was drawn
abbrev pub IsFinished : ClaimView → Type 0
IsFinished claim = Any (λ n. claim.pieces ≤ n) claim.drawn

-- the pieces among the numbers that were drawn
abbrev pub pieces_of : ClaimView → List ℕ
pieces_of claim = filter (λ n. nat_lt n claim.pieces) claim.drawn

-- the claim after one draw more
abbrev pub with_number : ClaimView → ℕ → ClaimView
with_number claim n = record claim { drawn = claim.drawn ++ n ∷ [] }

-- each piece was drawn once, by one of the claims
abbrev pub AreDrawnOnce : ℕ → List ClaimView → Type 0
AreDrawnOnce pieces claims = (p : ℕ) → p < pieces → total (λ claim. times p claim.drawn) claims ≡ 1
