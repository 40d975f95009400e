-- A scan at work.
use Rattle.std.specs.Prelude.{◌≡◌, ◌≢◌, ℕ, List, [], ◌∷◌, length}
use Rattle.snap_account.specs.declared.account.Account.{Account}
use Rattle.snap_account.specs.declared.account.Answered.{Answered}
use Rattle.snap_account.specs.declared.account.Doing.{Doing}
use Rattle.snap_account.specs.Plays.{Seated}
use Rattle.snap_account.specs.declared.account.Doing.TheVariants.{Idle, Begun, Written, Viewing, Scanning}
use Rattle.snap_account.specs.Seats.{IsUpToDate, desk_of, answered_of, begun_of, doing_of, pairs}

-- desk d of n desks has read every component, with these records
abbrev pub IsRead : ℕ → ℕ → List Answered → List (ℕ × ℕ) → Type 0
IsRead n d rs xs = (length xs ≡ n) × IsUpToDate d rs xs

-- a scan whose last collect read xs, while the collect before it read something else
abbrev pub IsTrying : ℕ → ℕ → List Answered → List (ℕ × ℕ) → Doing → Type 0
IsTrying n d rs xs Idle = ⊥
IsTrying n d rs xs (Begun b) = ⊥
IsTrying n d rs xs (Written b m v) = ⊥
IsTrying n d rs xs (Viewing b ys) = ys ≡ xs
IsTrying n d rs xs (Scanning s) = (s.since ≡ xs) × (s.before ≢ xs) × (length s.first ≡ n) × IsRead n d rs s.before

-- a scan whose last two collects read xs
abbrev pub HasAgreed : List (ℕ × ℕ) → Doing → Type 0
HasAgreed xs Idle = ⊥
HasAgreed xs (Begun b) = ⊥
HasAgreed xs (Written b m v) = ⊥
HasAgreed xs (Viewing b ys) = ⊥
HasAgreed xs (Scanning s) = (s.before ≡ xs) × (s.since ≡ xs)

-- the middle ticks of the open call
abbrev pub middles_made : Doing → List ℕ
middles_made Idle = []
middles_made (Begun b) = []
middles_made (Written b m v) = []
middles_made (Viewing b ys) = []
middles_made (Scanning s) = s.middles

-- the number of middle ticks of the open call
abbrev pub made_in : Doing → ℕ
made_in o = length (middles_made o)

abbrev pub made_of : List Account → ℕ
made_of [] = 0
made_of (a ∷ v) = made_in a.doing

abbrev pub middle_in : Doing → ℕ
middle_in Idle = 0
middle_in (Begun b) = 0
middle_in (Written b m v) = 0
middle_in (Viewing b ys) = 0
middle_in (Scanning s) = s.middle

-- words that encode what the desk of a seat has read of all n components
abbrev pub HasReadAll : ℕ → Seated → List ℕ → Type 0
HasReadAll n me words = IsRead n (desk_of me.0) (answered_of me.0) (pairs words)

-- the desk of a seat now has a scan whose last collect read these words, while the collect before it read something else
abbrev pub StillTries : ℕ → Seated → List ℕ → Seated → Type 0
StillTries n me words now = IsTrying n (desk_of me.0) (answered_of me.0) (pairs words) (doing_of now.0)

-- the desk of a seat now has a scan whose last two collects read these words
abbrev pub AgreesOn : List ℕ → Seated → Type 0
AgreesOn words now = HasAgreed (pairs words) (doing_of now.0)

-- the desk of a seat, its answered calls and the begin of its open call are the same
abbrev pub IsSameCall : Seated → Seated → Type 0
IsSameCall old new = (desk_of new.0 ≡ desk_of old.0) × (answered_of new.0 ≡ answered_of old.0) × (begun_of new.0 ≡ begun_of old.0)
