-- What is always true of the fields of a taker, and what it knows after it has taken the senders in.
use Rattle.std.specs.Prelude.{◌≡◌, ℕ, List, [], None, All, length}
use Rattle.snap_board.specs.declared.record.Record.{Record}
use Rattle.snap_record.specs.declared.delivery.Ended.{Ended}
use Rattle.snap_record.specs.declared.delivery.Role.{Role}
use Rattle.snap_record.specs.declared.delivery.Role.TheVariants.{Sends, Takes, Spent}
use Rattle.snap_record.specs.inside.Delivery.{DidSend}
use Rattle.snap_record.specs.Relays.{SenderView}
use Rattle.snap_record.specs.declared.relay.Sender.TheInside as sender
use Rattle.snap_record.specs.declared.relay.Taker.TheInside as taker
use Rattle.snap_record.specs.Ends.{taken_of}

abbrev pub made_of : Role → ℕ
made_of (Takes taken made ended) = made
made_of (Sends place sent) = 0
made_of Spent = 0

pub record IsTaker (t : taker.Inside) : Type 0 where
  pub role : t.pass.me.view.client ≡ Takes (taken_of t.pass.me.view.client) t.workers []
  pub hand : t.pass.me.hand ≡ None
  pub spare : t.pass.me.spare ≡ None
  pub count : t.count ≡ length (taken_of t.pass.me.view.client)

-- the taker has taken in all senders except `rest`, and knows what each sent
pub record TookIn (old : Role) (senders rest : List SenderView) (new : Role) : Type 0 where
  pub ended : List Ended
  pub role : new ≡ Takes (taken_of old) (made_of old) ended
  pub known : (sent : ℕ → List Record) → All (DidSend sent) ended → All (λ s. sent s.place ≡ s.sent) rest → All (λ s. sent s.place ≡ s.sent) senders
