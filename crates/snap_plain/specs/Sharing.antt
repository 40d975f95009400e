-- How workers share the reading of some lines in pieces.
use Rattle.snap_core.specs.declared.limit.Limit.{Limit}
use Rattle.std.specs.Prelude.{◌≡◌, ◌<◌, ◌≤◌, ◌++◌, ℕ, List, [], ◌∷◌, length, Some, slice_get}
use Rattle.std.specs.List.{AllZip}
use Rattle.rtrb.specs.Ring.{known_free, sent}
use Rattle.snap_plain.specs.declared.ahead.Ahead.{Ahead}
use Rattle.snap_plain.specs.declared.pieces.Piece.{Piece}
use Rattle.snap_plain.specs.declared.rings.Job.{Job}
use Rattle.snap_plain.specs.Ahead.{SpellsNone, StopsFor}
use Rattle.snap_threads.specs.Claiming.{ClaimView, CounterView, IsClaimOf, IsFinished, pieces_of}

-- what was read of a piece: from its begin on, and to its end, if no other reason stopped it
abbrev pub IsReadOf : List ℕ → Limit → Piece → Ahead → Type 0
IsReadOf lines limit piece part = (part.from ≡ piece.from) × StopsFor (piece.to ≤ part.to) (limit.events < length part.events.items) (SpellsNone lines piece.from part.to) part.stop

-- one part more was sent: what was read of a piece
abbrev pub AddsPart : List ℕ → Limit → Piece → List Ahead → List Ahead → Type 0
AddsPart lines limit piece old new = (part : Ahead) × IsReadOf lines limit piece part × (new ≡ old ++ part ∷ [])

-- the parts that were read of pieces with these numbers, in order
abbrev pub AreRead : List ℕ → Limit → List Piece → List ℕ → List Ahead → Type 0
AreRead lines limit pieces numbers parts = AllZip (λ number part. (piece : Piece) × (slice_get pieces number ≡ Some piece) × IsReadOf lines limit piece part) numbers parts

-- what was taken out of a ring now waits, after what waited before, in the same order
abbrev pub TakesOut : List Ahead → List Ahead → List Ahead → List Ahead → Type 0
TakesOut taken_old taken_new old new = (parts : List Ahead) × (taken_new ≡ taken_old ++ parts) × (new ≡ old ++ parts)

-- a claim that drew nothing
abbrev pub IsNewClaim : CounterView → ClaimView → Type 0
IsNewClaim counter claim = IsClaimOf counter claim × (claim.drawn ≡ [])

-- a job that has drawn and sent nothing, whose ring has room for all pieces
abbrev pub IsNewJob : {T : Type 0} → CounterView → Job T → Type 0
IsNewJob counter job = IsNewClaim counter job.claim × (sent job.inlet ≡ []) × (known_free job.inlet ≡ counter.pieces)

-- a job that is done: no piece is left, and what was read of each piece that it drew was sent
abbrev pub IsDone : {T : Type 0} → List ℕ → Limit → List Piece → CounterView → Job T → Type 0
IsDone lines limit pieces counter job = IsClaimOf counter job.claim × IsFinished job.claim × AreRead lines limit pieces (pieces_of job.claim) (sent job.inlet)
