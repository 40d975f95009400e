-- The last call of a desk: its answer, and the number of middle ticks that it drew.
use Rattle.std.specs.Prelude.{◌≡◌, ℕ, ◌<◌, ◌≤◌, List, [], ◌∷◌, ◌++◌, length}
use Rattle.snap_account.specs.declared.account.Answered.{Answered}
use Rattle.snap_account.specs.declared.account.Answer.{Answer}
use Rattle.snap_account.specs.declared.account.Answer.TheVariants.{Stored, Viewed, Scanned, Interfered}
use Rattle.snap_board.specs.Boards.{DeskView}

-- the desk has one call more, of this kind
abbrev pub HasCalled : (Answered → Type 0) → DeskView → DeskView → Type 0
HasCalled IsKind old new = (r : Answered) × (new.calls ≡ old.calls ++ r ∷ []) × IsKind r

-- a store of this value, without middle ticks
abbrev pub IsStore : ℕ → List ℕ → Answer → Type 0
IsStore value middles (Stored n v) = (v ≡ value) × (middles ≡ [])
IsStore value middles (Viewed xs) = ⊥
IsStore value middles (Scanned t xs) = ⊥
IsStore value middles (Interfered n xs ys) = ⊥

abbrev pub IsCollect : List ℕ → Answer → Type 0
IsCollect middles (Stored n v) = ⊥
IsCollect middles (Viewed xs) = middles ≡ []
IsCollect middles (Scanned t xs) = ⊥
IsCollect middles (Interfered n xs ys) = ⊥

-- A scan with a record draws at least one middle tick, and at most as many as it has tries.
abbrev pub IsRecordedScan : ℕ → List ℕ → Answer → Type 0
IsRecordedScan tries middles (Stored n v) = ⊥
IsRecordedScan tries middles (Viewed xs) = ⊥
IsRecordedScan tries middles (Scanned t xs) = (0 < length middles) × (length middles ≤ tries)
IsRecordedScan tries middles (Interfered n xs ys) = ⊥

-- A scan without a record draws as many middle ticks as it has tries.
abbrev pub IsLostScan : ℕ → List ℕ → Answer → Type 0
IsLostScan tries middles (Stored n v) = ⊥
IsLostScan tries middles (Viewed xs) = ⊥
IsLostScan tries middles (Scanned t xs) = ⊥
IsLostScan tries middles (Interfered n xs ys) = length middles ≡ tries
