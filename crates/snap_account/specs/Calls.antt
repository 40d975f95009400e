-- The calls of an account.
use Rattle.std.specs.Prelude.{◌≡◌, ℕ, ◌+◌, ◌<◌, ◌⊎◌, Bool, true, false, List, [], ◌∷◌, ◌++◌, map, length}
use Rattle.snap_account.specs.declared.account.Account.{Account}
use Rattle.snap_account.specs.declared.account.Answered.{Answered}
use Rattle.snap_account.specs.declared.account.Answer.{Answer}
use Rattle.snap_account.specs.declared.account.Answer.TheVariants.{Stored, Viewed, Scanned, Interfered}
use Rattle.snap_account.specs.declared.account.Doing.{Doing}
use Rattle.snap_account.specs.declared.account.Doing.TheVariants.{Idle, Begun, Written, Viewing, Scanning}
use Rattle.snap_account.specs.declared.account.Scan.{Scan}

-- x is in the list
abbrev pub Mem : {A : Type 0} → A → List A → Type 0
Mem x [] = ⊥
Mem x (y ∷ ys) = (y ≡ x) ⊎ Mem x ys

-- a store that is written: `over` if it is answered, and `ended` is 0 if it is not
pub record Write : Type 0 where
  pub number : ℕ
  pub value : ℕ
  pub begun : ℕ
  pub ended : ℕ
  pub over : Bool

-- a collect of a view or of a scan, completed (`over`) or open, and the entries read, of component 0 first
pub record ViewRecord : Type 0 where
  pub begun : ℕ
  pub ended : ℕ
  pub over : Bool
  pub shown : List (ℕ × ℕ)

abbrev pub write : ℕ → ℕ → ℕ → ℕ → Bool → Write
write n v b e o = record { number = n; value = v; begun = b; ended = e; over = o }

-- no store has number 0
abbrev pub AllNumbered : List Write → Type 0
AllNumbered ws = (w : Write) → Mem w ws → 0 < w.number

abbrev pub view_record : ℕ → ℕ → Bool → List (ℕ × ℕ) → ViewRecord
view_record b e o xs = record { begun = b; ended = e; over = o; shown = xs }

abbrev pub op_writes : ℕ → ℕ → Answer → List Write
op_writes b e (Stored n v) = write n v b e true ∷ []
op_writes b e (Viewed xs) = []
op_writes b e (Scanned t xs) = []
op_writes b e (Interfered n xs ys) = []

abbrev pub op_view_records : ℕ → ℕ → Answer → List ViewRecord
op_view_records b e (Stored n v) = []
op_view_records b e (Viewed xs) = view_record b e true xs ∷ []
op_view_records b e (Scanned t xs) = view_record b e true xs ∷ []
op_view_records b e (Interfered n xs ys) = view_record b e true xs ∷ view_record b e true ys ∷ []

abbrev pub writes_in : List Answered → List Write
writes_in [] = []
writes_in (r ∷ rs) = op_writes r.begun r.ended r.op ++ writes_in rs

abbrev pub view_records_in : List Answered → List ViewRecord
view_records_in [] = []
view_records_in (r ∷ rs) = op_view_records r.begun r.ended r.op ++ view_records_in rs

abbrev pub open_writes : Doing → List Write
open_writes Idle = []
open_writes (Begun b) = []
open_writes (Written b n v) = write n v b 0 false ∷ []
open_writes (Viewing b xs) = []
open_writes (Scanning s) = []

abbrev pub open_view_records : Doing → List ViewRecord
open_view_records Idle = []
open_view_records (Begun b) = []
open_view_records (Written b n v) = []
open_view_records (Viewing b xs) = view_record b 0 false xs ∷ []
open_view_records (Scanning s) = view_record s.begun 0 false s.first ∷ view_record s.begun 0 false s.before ∷ view_record s.begun 0 false s.since ∷ []

abbrev pub open_stamps : Doing → List ℕ
open_stamps Idle = []
open_stamps (Begun b) = b ∷ []
open_stamps (Written b n v) = b ∷ []
open_stamps (Viewing b xs) = b ∷ []
open_stamps (Scanning s) = s.begun ∷ []

abbrev pub stamps_in : List Answered → List ℕ
stamps_in [] = []
stamps_in (r ∷ rs) = r.begun ∷ r.ended ∷ stamps_in rs

-- the stores of an account that are written, in order
abbrev pub writes_of : Account → List Write
writes_of a = writes_in a.calls ++ open_writes a.doing

abbrev pub view_records_of : Account → List ViewRecord
view_records_of a = view_records_in a.calls ++ open_view_records a.doing

-- the stamps of an account's begins and ends, in the order of its calls
abbrev pub stamps_of : Account → List ℕ
stamps_of a = stamps_in a.calls ++ open_stamps a.doing

-- A scan with a middle tick, answered (`over`) or open. It has its last middle tick, what the collect before that tick read, and
-- what it read since.
pub record Mark : Type 0 where
  pub begun : ℕ
  pub middle : ℕ
  pub ended : ℕ
  pub over : Bool
  pub before : List (ℕ × ℕ)
  pub since : List (ℕ × ℕ)

abbrev pub mark : ℕ → ℕ → ℕ → Bool → List (ℕ × ℕ) → List (ℕ × ℕ) → Mark
mark b t e o xs ys = record { begun = b; middle = t; ended = e; over = o; before = xs; since = ys }

abbrev pub op_marks : ℕ → ℕ → Answer → List Mark
op_marks b e (Stored n v) = []
op_marks b e (Viewed xs) = []
op_marks b e (Scanned t xs) = mark b t e true xs xs ∷ []
op_marks b e (Interfered n xs ys) = []

abbrev pub marks_in : List Answered → List Mark
marks_in [] = []
marks_in (r ∷ rs) = op_marks r.begun r.ended r.op ++ marks_in rs

abbrev pub open_marks : Doing → List Mark
open_marks Idle = []
open_marks (Begun b) = []
open_marks (Written b n v) = []
open_marks (Viewing b xs) = []
open_marks (Scanning s) = mark s.begun s.middle 0 false s.before s.since ∷ []

abbrev pub marks_of : Account → List Mark
marks_of a = marks_in a.calls ++ open_marks a.doing

-- the stamps of answered calls, and the last middle ticks of the scans with a record among them
abbrev pub all_stamps_in : List Answered → List ℕ
all_stamps_in rs = stamps_in rs ++ map (λ (m : Mark). m.middle) (marks_in rs)

-- the last middle ticks of an account's scans
abbrev pub middles_of : Account → List ℕ
middles_of a = map (λ (m : Mark). m.middle) (marks_of a)

abbrev pub all_stamps : Account → List ℕ
all_stamps a = stamps_of a ++ middles_of a

abbrev pub op_entry : ℕ × ℕ → Answer → ℕ × ℕ
op_entry p (Stored n v) = (n, v)
op_entry p (Viewed xs) = p
op_entry p (Scanned t xs) = p
op_entry p (Interfered n xs ys) = p

-- the entry of the last store among the records, or p if there is none
abbrev pub latest : ℕ × ℕ → List Answered → ℕ × ℕ
latest p [] = p
latest p (r ∷ rs) = latest (op_entry p r.op) rs

abbrev pub open_entry : ℕ × ℕ → Doing → ℕ × ℕ
open_entry p Idle = p
open_entry p (Begun b) = p
open_entry p (Written b n v) = (n, v)
open_entry p (Viewing b xs) = p
open_entry p (Scanning s) = p

-- what the desk's word has: number and value of the last store that was written, or (0, 0) if there is none
abbrev pub in_word : Account → ℕ × ℕ
in_word a = open_entry (latest (0, 0) a.calls) a.doing

-- The steps of a call, kinds 1 to 6 and 9 to 11. A step that does not fit the open call changes nothing.
abbrev pub begun_store : ℕ → Account → Account
begun_store t a = record { desk = a.desk; calls = a.calls; doing = Begun t; ticks = a.ticks + 1 }

abbrev pub begun_view : ℕ → Account → Account
begun_view t a = record { desk = a.desk; calls = a.calls; doing = Viewing t []; ticks = a.ticks + 1 }

abbrev pub write_open : ℕ × ℕ → Doing → Doing
write_open p Idle = Idle
write_open p (Begun b) = Written b p.0 p.1
write_open p (Written b n v) = Written b n v
write_open p (Viewing b xs) = Viewing b xs
write_open p (Scanning s) = Scanning s

abbrev pub wrote : ℕ × ℕ → Account → Account
wrote p a = record { desk = a.desk; calls = a.calls; doing = write_open p a.doing; ticks = a.ticks }

-- the scan, after it has read these since its last middle tick
abbrev pub reading : Scan → List (ℕ × ℕ) → Scan
reading s xs = record { begun = s.begun; first = s.first; middles = s.middles; middle = s.middle; before = s.before; since = xs }

abbrev pub read_open : ℕ × ℕ → Doing → Doing
read_open p Idle = Idle
read_open p (Begun b) = Begun b
read_open p (Written b n v) = Written b n v
read_open p (Viewing b xs) = Viewing b (xs ++ p ∷ [])
read_open p (Scanning s) = Scanning (reading s (s.since ++ p ∷ []))

abbrev pub read : ℕ × ℕ → Account → Account
read p a = record { desk = a.desk; calls = a.calls; doing = read_open p a.doing; ticks = a.ticks }

abbrev pub closing : ℕ → Doing → List Answered
closing t Idle = []
closing t (Begun b) = []
closing t (Written b n v) = record { begun = b; middles = []; ended = t; op = Stored n v } ∷ []
closing t (Viewing b xs) = record { begun = b; middles = []; ended = t; op = Viewed xs } ∷ []
closing t (Scanning s) = record { begun = s.begun; middles = s.middles; ended = t; op = Scanned s.middle s.since } ∷ []

abbrev pub ended : ℕ → Account → Account
ended t a = record { desk = a.desk; calls = a.calls ++ closing t a.doing; doing = Idle; ticks = a.ticks + 1 }

abbrev pub middle_open : ℕ → Doing → Doing
middle_open t Idle = Idle
middle_open t (Begun b) = Begun b
middle_open t (Written b n v) = Written b n v
middle_open t (Viewing b xs) = Scanning (record { begun = b; first = xs; middles = t ∷ []; middle = t; before = xs; since = [] })
middle_open t (Scanning s) = Scanning (record { begun = s.begun; first = s.first; middles = s.middles ++ t ∷ []; middle = t; before = s.since; since = [] })

abbrev pub middled : ℕ → Account → Account
middled t a = record { desk = a.desk; calls = a.calls; doing = middle_open t a.doing; ticks = a.ticks + 1 }

abbrev pub giving_up : ℕ → Doing → List Answered
giving_up t Idle = []
giving_up t (Begun b) = []
giving_up t (Written b n v) = []
giving_up t (Viewing b xs) = []
giving_up t (Scanning s) = record { begun = s.begun; middles = s.middles; ended = t; op = Interfered (length s.middles) s.first s.since } ∷ []

abbrev pub gave_up : ℕ → Account → Account
gave_up t a = record { desk = a.desk; calls = a.calls ++ giving_up t a.doing; doing = Idle; ticks = a.ticks + 1 }
