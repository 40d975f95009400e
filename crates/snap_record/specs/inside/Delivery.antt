-- The rule of the queue of records: what it holds, and what each pass knows.
use Rattle.std.specs.Prelude.{◌≡◌, ℕ, ◌+◌, ◌<◌, ◌≤◌, List, [], ◌∷◌, ◌++◌, Option, Some, None, All, ⊤}
use mathlib.Core.Option.{some}
use lib.ListN.{get_elem?}
use Rattle.snap_board.specs.declared.record.Record.{Record}
use Rattle.snap_record.specs.declared.delivery.Ended.{Ended}
use Rattle.snap_record.specs.declared.delivery.Role.{Role}
use Rattle.snap_record.specs.declared.delivery.Role.TheVariants.{Sends, Takes, Spent}
use Rattle.snap_record.specs.Delivery.{of_worker}

abbrev pub new_taker : Role
new_taker = Takes [] 0 []

-- the taker makes a sender
abbrev pub one_made : Role → Role
one_made (Takes taken made ended) = Takes taken (made + 1) ended
one_made (Sends place sent) = Sends place sent
one_made Spent = Spent

-- the sender that the taker makes
abbrev pub next_sender : Role → Role
next_sender (Takes taken made ended) = Sends made []
next_sender (Sends place sent) = Spent
next_sender Spent = Spent

abbrev pub ended_after : List Ended → Role → List Ended
ended_after ended (Sends place sent) = ended ++ record { place = place; sent = sent } ∷ []
ended_after ended (Takes taken made others) = ended
ended_after ended Spent = ended

-- the taker takes a sender in
abbrev pub taken_in : Role → Role → Role
taken_in (Takes taken made ended) other = Takes taken made (ended_after ended other)
taken_in (Sends place sent) other = Sends place sent
taken_in Spent other = Spent

abbrev pub after_push : Role → Record → Role
after_push (Sends place sent) x = Sends place (sent ++ x ∷ [])
after_push (Takes taken made ended) x = Takes taken made ended
after_push Spent x = Spent

abbrev pub after_pop : Role → Record → Role
after_pop (Takes taken made ended) x = Takes (taken ++ x ∷ []) made ended
after_pop (Sends place sent) x = Sends place sent
after_pop Spent x = Spent

-- `sent` says what each worker sent, and agrees with this one
abbrev pub DidSend : (ℕ → List Record) → Ended → Type 0
DidSend sent e = sent e.place ≡ e.sent

-- a sender that was taken in is no longer out
abbrev pub HasEnded : (ℕ → Option ℕ) → (ℕ → List Record) → ℕ → Ended → Type 0
HasEnded seat sent made e = (seat e.place ≡ None) × DidSend sent e × (e.place < made)

-- What pass k knows agrees with these: `seat` says which pass the sender of each place has while it is out, and `taker` took `taken`.
abbrev pub Fits : ℕ → (ℕ → Option ℕ) → (ℕ → List Record) → List Record → ℕ → Role → Type 0
Fits taker seat sent taken k (Sends place list) = (seat place ≡ Some k) × (sent place ≡ list)
Fits taker seat sent taken k (Takes list made ended) = (k ≡ taker) × (list ≡ taken) × ((p : ℕ) → made ≤ p → (seat p ≡ None) × (sent p ≡ [])) × All (HasEnded seat sent made) ended
Fits taker seat sent taken k Spent = ⊤

-- the rule: for each worker, the taken records and then those in the queue are what it sent, in its order
pub record Delivers (items : List Record) (roles : List Role) : Type 0 where
  pub taker : ℕ
  pub seat : ℕ → Option ℕ
  pub sent : ℕ → List Record
  pub taken : List Record
  pub order : (p : ℕ) → of_worker p (taken ++ items) ≡ sent p
  pub fits : (k : ℕ) (role : Role) → get_elem? roles k ≡ some role → Fits taker seat sent taken k role

-- what the taker learns at one moment: it took the front of everything that was sent, and the queue holds the rest
abbrev pub AddsUp : Role → List Record → Type 0
AddsUp (Takes taken made ended) items = (sent : ℕ → List Record) × ((p : ℕ) → of_worker p (taken ++ items) ≡ sent p) × ((p : ℕ) → made ≤ p → sent p ≡ []) × All (DidSend sent) ended
AddsUp (Sends place sent) items = ⊤
AddsUp Spent items = ⊤
