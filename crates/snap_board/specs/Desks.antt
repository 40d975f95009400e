-- Desks of a board, and their records.
use Rattle.std.specs.Prelude.{◌≡◌, ℕ, ◌<◌, ◌≤◌, suc, cond, nat_lt, List, [], ◌∷◌, ◌++◌, Option, Some, None, Contains}
use Rattle.snap_core.specs.declared.entry.Entry.{Entry}
use Rattle.snap_core.specs.Entries.{entry_of, number_in}
use Rattle.snap_core.specs.Sums.{total}
use Rattle.snap_account.specs.declared.account.Account.{Account}
use Rattle.snap_account.specs.declared.account.Answered.{Answered}
use Rattle.snap_account.specs.declared.account.Answer.{Answer}
use Rattle.snap_account.specs.declared.account.Answer.TheVariants.{Stored, Viewed, Scanned, Interfered}
use Rattle.snap_board.specs.declared.record.Record.{Record}
use Rattle.snap_board.specs.declared.record.RecordedOp.{RecordedOp}
use Rattle.snap_board.specs.declared.record.RecordedOp.TheVariants as Kind
use Rattle.snap_account.specs.Seats.{idle}
use Rattle.snap_board.specs.Boards.{BoardView, DeskView, GatheredView}

abbrev pub IsDeskOf : BoardView → DeskView → Type 0
IsDeskOf b d = (d.board ≡ b.board) × (d.desk < b.desks)

abbrev pub IsGatheredOf : BoardView → GatheredView → Type 0
IsGatheredOf b g = (g.board ≡ b.board) × (g.desks ≡ b.desks)

-- the account of a desk that is out
abbrev pub account : DeskView → Account
account d = idle d.desk d.calls d.ticks

-- the entry of component k with a number and a value, or nothing for number 0
abbrev pub shown_entry : ℕ → ℕ × ℕ → List Entry
shown_entry k p = cond (nat_lt 0 p.0) (record { component = k; number = p.0; value = p.1 } ∷ []) []

-- what was read, from component k on, without the initial states
abbrev pub listed : ℕ → List (ℕ × ℕ) → List Entry
listed k [] = []
listed k (p ∷ xs) = shown_entry k p ++ listed (suc k) xs

-- the record of an answered call of desk d; a scan that was interfered with has none
abbrev pub op_records : ℕ → ℕ → ℕ → Answer → List Record
op_records d b e (Stored n v) = record { process = d; begun = b; ended = e; op = Kind.Stored (record { component = d; number = n; value = v }) } ∷ []
op_records d b e (Viewed xs) = record { process = d; begun = b; ended = e; op = Kind.Viewed (listed 0 xs) } ∷ []
op_records d b e (Scanned t xs) = record { process = d; begun = b; ended = e; op = Kind.Viewed (listed 0 xs) } ∷ []
op_records d b e (Interfered n xs ys) = []

-- the records of desk d's answered calls
abbrev pub records_at : ℕ → List Answered → List Record
records_at d [] = []
records_at d (r ∷ rs) = op_records d r.begun r.ended r.op ++ records_at d rs

abbrev pub records_in : Account → List Record
records_in a = records_at a.desk a.calls

-- the records of a desk, in its order
abbrev pub records : DeskView → List Record
records d = records_at d.desk d.calls

-- the tries of the scans without a record, in order
abbrev pub op_lost : Answer → List ℕ
op_lost (Stored n v) = []
op_lost (Viewed xs) = []
op_lost (Scanned t xs) = []
op_lost (Interfered n xs ys) = n ∷ []

abbrev pub lost_in : List Answered → List ℕ
lost_in [] = []
lost_in (r ∷ rs) = op_lost r.op ++ lost_in rs

abbrev pub lost : DeskView → List ℕ
lost d = lost_in d.calls

-- the number of collects among the records
abbrev pub op_collects : Answer → ℕ
op_collects (Stored n v) = 0
op_collects (Viewed xs) = 1
op_collects (Scanned t xs) = 0
op_collects (Interfered n xs ys) = 0

abbrev pub collects_in : List Answered → ℕ
collects_in rs = total (λ r. op_collects r.op) rs

abbrev pub collects : DeskView → ℕ
collects d = collects_in d.calls

-- the number of ticks that a desk has drawn
abbrev pub ticks : DeskView → ℕ
ticks d = d.ticks

-- the accounts of the desks that are in, the highest desk first
abbrev pub accounts : GatheredView → List Account
accounts g = g.accounts

-- the call began after all earlier calls of the desk had ended
abbrev pub IsLater : List Record → Record → Type 0
IsLater earlier r = (q : Record) → Contains earlier q → (q.begun < r.begun) × (q.ended < r.begun)

abbrev pub entry_after : RecordedOp → Option Entry → Option Entry
entry_after (Kind.Stored e) last = Some e
entry_after (Kind.Viewed es) last = last

-- the entry of the last store among the records, or `last` if there is none
abbrev pub last_stored : Option Entry → List Record → Option Entry
last_stored last [] = last
last_stored last (r ∷ rs) = last_stored (entry_after r.op last) rs

abbrev pub entries_shown : RecordedOp → List Entry
entries_shown (Kind.Stored e) = []
entries_shown (Kind.Viewed es) = es

-- what a view's record shows, or nothing for a store's
abbrev pub shown_by : Record → List Entry
shown_by r = entries_shown r.op

-- the number that a record shows of component k, or 0 if it shows none
abbrev pub number_shown : Record → ℕ → ℕ
number_shown r k = number_in (entry_of k (shown_by r))

-- no component is older in the record than in one before it
abbrev pub IsNoOlder : List Record → Record → Type 0
IsNoOlder earlier r = (q : Record) → Contains earlier q → (k : ℕ) → number_shown q k ≤ number_shown r k

-- of the component of desk d the record shows the desk's last store, or nothing if there was none
abbrev pub ShowsOwnLast : ℕ → List Record → Record → Type 0
ShowsOwnLast d earlier r = entry_of d (shown_by r) ≡ last_stored None earlier
