-- What is known about the records of all desks after the board is closed.
use Rattle.std.specs.Prelude.{◌≡◌, ℕ, ◌<◌, ◌≤◌, zero, suc, List, [], ◌∷◌, length, map, Option, None, cond, nat_lt, ◌==◌, slice_index_or}
use mathlib.Core.Option.{some}
use lib.ListN.{get_elem?}
use Rattle.snap_account.specs.declared.account.Account.{Account}
use Rattle.snap_account.specs.declared.account.Doing.TheVariants.{Idle}
use Rattle.snap_board.specs.Boards.{ClosedView}
use Rattle.snap_core.specs.declared.entry.Entry.{Entry}
use Rattle.snap_board.specs.Desks.{records_in, last_stored}
use Rattle.snap_core.specs.Sums.{once_below, times, total}
use Rattle.snap_account.specs.Drawn.{drawn_in}
use Rattle.snap_account.specs.Calls.{Mem, Write, ViewRecord, writes_in, view_records_in, stamps_in, all_stamps_in, marks_in, Mark}
use Rattle.snap_account.specs.declared.account.Answered.{Answered}
use Rattle.snap_account.specs.declared.account.Answer.{Answer}
use Rattle.snap_account.specs.declared.account.Answer.TheVariants.{Stored, Viewed, Scanned, Interfered}
use Rattle.snap_account.specs.Marks.{HasClimbed}
use Rattle.snap_account.specs.Rule.{Rising, Numbered, clock}

-- n - 1, .., 0
abbrev pub falling : ℕ → List ℕ
falling zero = []
falling (suc n) = n ∷ falling n

-- One component of one view, against the stores of the component's desk. No later store ended before the view began. What the view
-- shows was stored by a call that began before the view ended.
pub record Shows (r : ViewRecord) (p : ℕ × ℕ) (c : Account) : Type 0 where
  pub fresh : (w : Write) → Mem w (writes_in c.calls) → p.0 < w.number → r.begun ≤ w.ended
  pub real : 0 < p.0 → (w : Write) × Mem w (writes_in c.calls) × (w.number ≡ p.0) × (w.value ≡ p.1) × (w.begun < r.ended)

-- the accounts of a closed board of n desks
pub record Settled (n : ℕ) (hand : List Account) : Type 0 where
  pub desks : map (λ (a : Account). a.desk) hand ≡ falling n
  pub idle : (a : Account) → Mem a hand → a.doing ≡ Idle
  pub rising : (a : Account) → Mem a hand → Rising (stamps_in a.calls)
  pub below : (a : Account) → Mem a hand → (x : ℕ) → Mem x (all_stamps_in a.calls) → x < clock hand
  pub apart : (x : ℕ) → total (λ (a : Account). times x (all_stamps_in a.calls)) hand ≤ 1
  pub numbered : (a : Account) → Mem a hand → Numbered 1 (writes_in a.calls)
  pub whole : (a : Account) → Mem a hand → (r : ViewRecord) → Mem r (view_records_in a.calls) → length r.shown ≡ n
  pub regular : (a : Account) → Mem a hand → (r : ViewRecord) → Mem r (view_records_in a.calls) → (c : Account) → Mem c hand → (p : ℕ × ℕ) → get_elem? r.shown c.desk ≡ some p → Shows r p c
  pub monotone : (a c : Account) → Mem a hand → Mem c hand → (r s : ViewRecord) → Mem r (view_records_in a.calls) → Mem s (view_records_in c.calls) → r.ended < s.begun
      → (k : ℕ) (p q : ℕ × ℕ) → get_elem? r.shown k ≡ some p → get_elem? s.shown k ≡ some q → p.0 ≤ q.0

-- Each tick of a closed board, from 0 up to its clock, is a begin, a middle tick or an end of exactly one call. Each desk drew its
-- own ticks in their order.
pub record TicksSettled (hand : List Account) : Type 0 where
  pub once : (x : ℕ) → total (λ (a : Account). times x (drawn_in a.calls)) hand ≡ once_below x (clock hand)
  pub rising : (a : Account) → Mem a hand → Rising (drawn_in a.calls)

-- One component of one scan, against the stores of the component's desk. What it shows was stored before its middle tick, and no
-- later store had ended by then.
pub record ShowsAt (m : Mark) (p : ℕ × ℕ) (c : Account) : Type 0 where
  pub began : (w : Write) → Mem w (writes_in c.calls) → w.number ≡ p.0 → w.begun < m.middle
  pub fresh : (w : Write) → Mem w (writes_in c.calls) → w.ended < m.middle → w.number ≤ p.0

-- the scans of a closed board
pub record ScansSettled (hand : List Account) : Type 0 where
  pub inside : (a : Account) → Mem a hand → (m : Mark) → Mem m (marks_in a.calls) → (m.begun < m.middle) × (m.middle < m.ended)
  pub shows : (a : Account) → Mem a hand → (m : Mark) → Mem m (marks_in a.calls) → (c : Account) → Mem c hand → (p : ℕ × ℕ) → get_elem? m.before c.desk ≡ some p → ShowsAt m p c
  pub in_turn : (a c : Account) → Mem a hand → Mem c hand → (r s : Mark) → Mem r (marks_in a.calls) → Mem s (marks_in c.calls) → r.middle < s.middle
      → (k : ℕ) (p q : ℕ × ℕ) → get_elem? r.before k ≡ some p → get_elem? s.before k ≡ some q → p.0 ≤ q.0
  -- each unequal collect of a scan without a record added at least one to the numbers
  pub climbed : (a : Account) → Mem a hand → (r : Answered) → Mem r a.calls → HasClimbed r.op

-- 1 if the store overlaps the call: it neither ended before the call began nor began after it ended
abbrev pub beside : Answered → Write → ℕ
beside r w = cond (nat_lt w.ended r.begun) 0 (cond (nat_lt r.ended w.begun) 0 1)

-- the number of stores of other desks that overlap the call
abbrev pub stores_beside : List Account → Account → Answered → ℕ
stores_beside hand a r = total (λ (c : Account). cond (c.desk == a.desk) 0 (total (beside r) (writes_in c.calls))) hand

abbrev pub op_tries : Answer → ℕ
op_tries (Stored n v) = 0
op_tries (Viewed xs) = 0
op_tries (Scanned t xs) = 0
op_tries (Interfered n xs ys) = n

-- at least as many stores of other desks overlap a scan without a record as it has tries
abbrev pub WereInterfered : List Account → Type 0
WereInterfered hand = (a : Account) → Mem a hand → (r : Answered) → Mem r a.calls → op_tries r.op ≤ stores_beside hand a r

-- no account is of a desk above d
abbrev pub AreUpTo : ℕ → List Account → Type 0
AreUpTo d hand = (a : Account) → Mem a hand → a.desk ≤ d

-- the last stored entry of component k, or nothing if the board had no such desk
abbrev pub entry_in : ClosedView → ℕ → Option Entry
entry_in c k = cond (nat_lt k c.desks) (slice_index_or c.last k None) None

-- each desk's last store is the entry of its component
abbrev pub LastStores : ClosedView → List Account → Type 0
LastStores c hand = (a : Account) → Mem a hand → entry_in c a.desk ≡ last_stored None (records_in a)
