use Rattle.std.proofs.Common.{◌≡◌, [], vec_items}
use Rattle.crossbeam_queue.specs.SegTies.{IsSegPassOf}
use Rattle.snap_record.specs.declared.delivery.Role.TheVariants.{Takes}
use Rattle.snap_record.specs.Relays.{AreNew}
use Rattle.snap_record.proofs.relay.make_senders.Given as goal

abbrev pub invariant-places : goal.invariant-places
invariant-places l = record {
  of_queue : IsSegPassOf l.queue l.pass;
  role : l.pass.me.view.client ≡ Takes [] l.place [];
  senders : AreNew l.queue l.place (vec_items l.senders);
}
