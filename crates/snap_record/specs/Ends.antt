-- What contracts see of a sender and of a taker.
use Rattle.std.specs.Prelude.{◌≡◌, List, [], None, length}
use Rattle.snap_board.specs.declared.record.Record.{Record}
use Rattle.snap_record.specs.declared.delivery.Role.{Role}
use Rattle.snap_record.specs.declared.delivery.Role.TheVariants.{Sends, Takes, Spent}
use Rattle.snap_record.specs.Relays.{SenderView, TakerView}
use Rattle.snap_record.specs.declared.relay.Sender.TheInside as sender
use Rattle.snap_record.specs.declared.relay.Taker.TheInside as taker

abbrev pub sent_of : Role → List Record
sent_of (Sends place sent) = sent
sent_of (Takes taken made ended) = []
sent_of Spent = []

abbrev pub taken_of : Role → List Record
taken_of (Takes taken made ended) = taken
taken_of (Sends place sent) = []
taken_of Spent = []

abbrev pub sender_view : sender.Inside → SenderView
sender_view s = record { queue = record { web = s.pass.web; heap = s.pass.heap }; place = s.place; sent = sent_of s.pass.me.view.client }

pub record IsSender (s : sender.Inside) : Type 0 where
  pub role : s.pass.me.view.client ≡ Sends s.place (sent_of s.pass.me.view.client)
  pub hand : s.pass.me.hand ≡ None
  pub spare : s.pass.me.spare ≡ None
  pub count : s.count ≡ length (sent_of s.pass.me.view.client)

abbrev pub taker_view : taker.Inside → TakerView
taker_view t = record { queue = record { web = t.pass.web; heap = t.pass.heap }; workers = t.workers; taken = taken_of t.pass.me.view.client }
