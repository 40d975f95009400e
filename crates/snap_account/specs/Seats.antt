-- What a seat's view says about one desk.
use Rattle.std.specs.Prelude.{◌≡◌, ℕ, ◌≤◌, Bool, true, false, List, [], ◌∷◌, map}
use mathlib.Core.Option.{some}
use lib.ListN.{get_elem?}
use Rattle.snap_account.specs.Calls.{Mem, ViewRecord, AllNumbered, reading, writes_in, view_records_in, latest}
use Rattle.snap_account.specs.Plays.{Seated, entry_of}
use Rattle.snap_account.specs.declared.account.Account.{Account}
use Rattle.snap_account.specs.declared.account.Answered.{Answered}
use Rattle.snap_account.specs.declared.account.Doing.{Doing}
use Rattle.snap_account.specs.declared.account.Doing.TheVariants.{Idle, Begun, Written, Viewing, Scanning}

abbrev pub idle : ℕ → List Answered → ℕ → Account
idle d rs t = record { desk = d; calls = rs; doing = Idle; ticks = t }

-- the answered calls of the first account
abbrev pub answered_of : List Account → List Answered
answered_of [] = []
answered_of (a ∷ v) = a.calls

abbrev pub desk_of : List Account → ℕ
desk_of [] = 0
desk_of (a ∷ v) = a.desk

abbrev pub ticks_of : List Account → ℕ
ticks_of [] = 0
ticks_of (a ∷ v) = a.ticks

abbrev pub begun_in : Doing → ℕ
begun_in Idle = 0
begun_in (Begun b) = b
begun_in (Written b n v) = b
begun_in (Viewing b xs) = b
begun_in (Scanning s) = s.begun

abbrev pub begun_of : List Account → ℕ
begun_of [] = 0
begun_of (a ∷ v) = begun_in a.doing

abbrev pub doing_of : List Account → Doing
doing_of [] = Idle
doing_of (a ∷ v) = a.doing

-- the open collect, after it has read xs
abbrev pub showing : List (ℕ × ℕ) → Doing → Doing
showing xs Idle = Idle
showing xs (Begun b) = Begun b
showing xs (Written b n v) = Written b n v
showing xs (Viewing b ys) = Viewing b xs
showing xs (Scanning s) = Scanning (reading s xs)

-- the seat of one desk, after its open collect has read xs
abbrev pub has_read : Seated → List (ℕ × ℕ) → Seated
has_read me xs = (record { desk = desk_of me.0; calls = answered_of me.0; doing = showing xs (doing_of me.0); ticks = ticks_of me.0 } ∷ [], [])

abbrev pub one_desk : Seated → Seated
one_desk me = (record { desk = desk_of me.0; calls = answered_of me.0; doing = doing_of me.0; ticks = ticks_of me.0 } ∷ [], [])

-- what words encode
abbrev pub pairs : List ℕ → List (ℕ × ℕ)
pairs ws = map entry_of ws

-- a view of desk d with these records shows the desk's last store, and nothing older than its earlier views
abbrev pub IsUpToDate : ℕ → List Answered → List (ℕ × ℕ) → Type 0
IsUpToDate d rs xs = (k : ℕ) (p : ℕ × ℕ) → get_elem? xs k ≡ some p
    → (k ≡ d → (p ≡ latest (0, 0) rs) × AllNumbered (writes_in rs)) × ((r : ViewRecord) → Mem r (view_records_in rs) → (q : ℕ × ℕ) → get_elem? r.shown k ≡ some q → q.0 ≤ p.0)

abbrev pub is_idle : Doing → Bool
is_idle Idle = true
is_idle (Begun b) = false
is_idle (Written b n v) = false
is_idle (Viewing b xs) = false
is_idle (Scanning s) = false

-- what is known about an account while its desk is in
pub record Brief : Type 0 where
  pub desk : ℕ
  pub ticks : ℕ
  pub number : ℕ
  pub value : ℕ
  pub idle : Bool

abbrev pub brief : Account → Brief
brief a = record { desk = a.desk; ticks = a.ticks; number = (latest (0, 0) a.calls).0; value = (latest (0, 0) a.calls).1; idle = is_idle a.doing }
