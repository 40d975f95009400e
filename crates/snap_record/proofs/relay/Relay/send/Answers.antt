use Rattle.std.proofs.Common.{◌∙◌, ap, sym}
use Rattle.snap_record.specs.Relays.{SenderView}
use Rattle.snap_record.proofs.Delivering.{pushes_as}
use Rattle.snap_record.proofs.relay.Relay.send.Goals as goal

pub push_as-requires-clause-rule : goal.push_as-requires-clause-rule
push_as-requires-clause-rule g c = λ n. pushes_as n _ _ _ _ _ c.sender.invariant.role (c.requires.own ∙ sym (ap (λ (v : SenderView). v.place) c.sender.view_is))
