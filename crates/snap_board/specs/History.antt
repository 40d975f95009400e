-- The records of all desks as one history.
use Rattle.std.specs.Prelude.{◌≡◌, ℕ, ◌<◌, ◌≤◌, true, cond, nat_lt, List, [], ◌∷◌, ◌++◌, map, Contains}
use Rattle.snap_core.specs.declared.event.Event.{Event}
use Rattle.snap_core.specs.declared.event.Event.TheVariants.{BeginUpdate, BeginView, EndUpdate, EndView}
use Rattle.snap_core.specs.Calls.{Call}
use Rattle.snap_core.specs.Orders.{is_completed}
use Rattle.snap_account.specs.declared.account.Account.{Account}
use Rattle.snap_board.specs.declared.record.Record.{Record}
use Rattle.snap_board.specs.declared.record.RecordedOp.{RecordedOp}
use Rattle.snap_board.specs.declared.record.RecordedOp.TheVariants as Kind
use Rattle.snap_core.specs.Sums.{times}
use Rattle.snap_account.specs.Calls.{Mem}
use Rattle.snap_board.specs.Desks.{records_in}

abbrev pub begin_of : ℕ → RecordedOp → Event
begin_of p (Kind.Stored e) = BeginUpdate p e
begin_of p (Kind.Viewed es) = BeginView p

abbrev pub end_of : ℕ → RecordedOp → Event
end_of p (Kind.Stored e) = EndUpdate p
end_of p (Kind.Viewed es) = EndView p es

-- the begins and ends of records, each with its stamp
abbrev pub stamped_events : List Record → List (ℕ × Event)
stamped_events [] = []
stamped_events (r ∷ rs) = (r.begun, begin_of r.process r.op) ∷ (r.ended, end_of r.process r.op) ∷ stamped_events rs

-- strictly rising stamps
abbrev pub Stamped : List (ℕ × Event) → Type 0
Stamped [] = Unit {0}
Stamped (x ∷ xs) = ((y : ℕ × Event) → Mem y xs → x.0 < y.0) × Stamped xs

-- no two events have the same stamp
abbrev pub AreApart : List (ℕ × Event) → Type 0
AreApart es = (x : ℕ) → times x (map (λ (e : ℕ × Event). e.0) es) ≤ 1

abbrev pub all_records : List Account → List Record
all_records [] = []
all_records (a ∷ hand) = records_in a ++ all_records hand

-- the events of the records, in the order of their stamps
pub record Merged (rs : List Record) (es : List (ℕ × Event)) : Type 0 where
  pub stamped : Stamped es
  pub all : (x : ℕ × Event) → Mem x (stamped_events rs) → Mem x es
  pub only : (x : ℕ × Event) → Mem x es → Mem x (stamped_events rs)

abbrev pub event_stamps : List (ℕ × Event) → List ℕ
event_stamps es = map (λ (x : ℕ × Event). x.0) es

abbrev pub events_in : List (ℕ × Event) → List Event
events_in es = map (λ (x : ℕ × Event). x.1) es

-- the list with x put in its place by its stamp
abbrev pub put : ℕ × Event → List (ℕ × Event) → List (ℕ × Event)
put x [] = x ∷ []
put x (y ∷ ys) = cond (nat_lt x.0 y.0) (x ∷ y ∷ ys) (y ∷ put x ys)

abbrev pub in_order : List (ℕ × Event) → List (ℕ × Event)
in_order [] = []
in_order (x ∷ xs) = put x (in_order xs)

-- the records as a history: their begins and ends in the order of their stamps
abbrev pub history_of : List Record → List Event
history_of rs = events_in (in_order (stamped_events rs))

-- the records of all accounts as a history
abbrev pub board_history : List Account → List Event
board_history hand = history_of (all_records hand)

-- no call is pending
abbrev pub AllCompleted : List Call → Type 0
AllCompleted calls = (c : Call) → Contains calls c → is_completed c ≡ true
