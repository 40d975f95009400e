-- What contracts see of a relay, its senders and its taker, and what its calls do.
use Rattle.std.specs.Prelude.{◌≡◌, ℕ, ◌<◌, ◌==◌, List, [], ◌∷◌, ◌++◌, length, slice_index_or, Option, Some, None, IsSome, find, All}
use Rattle.std.specs.declared.alloc.Global.{Global}
use Rattle.crossbeam_queue.specs.SegTies.{SegId}
use Rattle.snap_board.specs.declared.record.Record.{Record}
use Rattle.snap_core.specs.Sums.{total}
use Rattle.snap_board.specs.Settled.{falling}
use Rattle.snap_record.specs.Delivery.{of_worker, AreBelow}

pub record RelayView : Type 0 where
  pub queue : SegId Global
  pub workers : ℕ

-- the sender of a place, and what it sent
pub record SenderView : Type 0 where
  pub queue : SegId Global
  pub place : ℕ
  pub sent : List Record

-- the taker of a relay of `workers` workers, and what it took
pub record TakerView : Type 0 where
  pub queue : SegId Global
  pub workers : ℕ
  pub taken : List Record

-- the sender came from this relay's start
abbrev pub IsSenderOf : RelayView → SenderView → Type 0
IsSenderOf r s = s.queue ≡ r.queue

-- the taker came from this relay's start
abbrev pub IsTakerOf : RelayView → TakerView → Type 0
IsTakerOf r t = (t.queue ≡ r.queue) × (t.workers ≡ r.workers)

abbrev pub sent_more : SenderView → Record → SenderView
sent_more s x = record s { sent = s.sent ++ x ∷ [] }

abbrev pub taken_more : TakerView → Record → TakerView
taken_more t x = record t { taken = t.taken ++ x ∷ [] }

-- a new sender of each place below `workers`, in order, which has sent nothing
pub record AreNew (queue : SegId Global) (workers : ℕ) (senders : List SenderView) : Type 0 where
  pub count : length senders ≡ workers
  pub each : (w : ℕ) (other : SenderView) → w < workers → slice_index_or senders w other ≡ record { queue = queue; place = w; sent = [] }

-- the first sender of a place
abbrev pub sender_at : List SenderView → ℕ → Option SenderView
sender_at senders p = find (λ s. s.place == p) senders

abbrev pub count_in : Option SenderView → ℕ
count_in None = 0
count_in (Some s) = length s.sent

-- each place below `workers` has a sender
abbrev pub HasPlaces : List SenderView → ℕ → Type 0
HasPlaces senders workers = (p : ℕ) → p < workers → IsSome (sender_at senders p)

-- the number of records that the senders of the places below `workers` sent
abbrev pub count_sent : List SenderView → ℕ → ℕ
count_sent senders workers = total (λ p. count_in (sender_at senders p)) (falling workers)

-- all senders of the start are there, and the number of taken records is the number that they sent
abbrev pub IsDone : RelayView → List SenderView → TakerView → Type 0
IsDone r senders t = HasPlaces senders r.workers × (count_sent senders r.workers ≡ length t.taken)

-- The taken records of each sender's worker are those that it sent, in its order. There are no others.
pub record TookAll (workers : ℕ) (taken : List Record) (senders : List SenderView) : Type 0 where
  pub each : All (λ s. of_worker s.place taken ≡ s.sent) senders
  pub no_other : AreBelow workers taken
