use Rattle.std.proofs.Common.{◌≡◌, All, vec_items, vec_len}
use Rattle.crossbeam_queue.specs.SegTies.{IsSegPassOf}
use Rattle.snap_record.specs.inside.Ends.{TookIn}
use Rattle.snap_record.proofs.relay.take_in.Given as goal

abbrev pub invariant-each : goal.invariant-each
invariant-each l = record {
  of_queue : IsSegPassOf l.queue l.pass;
  left : All (λ s. s.queue ≡ l.queue) (vec_items l.senders);
  took : TookIn l.initial.pass.me.view.client (vec_items l.initial.senders) (vec_items l.senders) l.pass.me.view.client;
}

abbrev pub decreases-each : goal.decreases-each
decreases-each l = vec_len l.senders
