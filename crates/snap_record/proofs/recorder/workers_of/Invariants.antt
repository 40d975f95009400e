use Rattle.std.proofs.Common.{◌≡◌, ◌+◌, length, vec_items, vec_len}
use Rattle.snap_board.specs.Desks.{accounts, IsGatheredOf}
use Rattle.snap_record.specs.Relays.{AreNew}
use Rattle.snap_account.specs.Rule.{newcomers}
use Rattle.snap_record.specs.inside.Workers.{AreUnused}
use Rattle.snap_record.proofs.recorder.workers_of.Given as goal

abbrev pub invariant-places : goal.invariant-places
invariant-places l = record {
  of_board : IsGatheredOf l.recorder.board l.gathered;
  rest : accounts l.gathered ≡ newcomers (vec_len l.senders);
  senders : AreNew l.recorder.relay.queue (vec_len l.senders) (vec_items l.senders);
  count : vec_len l.all + vec_len l.senders ≡ length (vec_items l.initial.senders);
  unused : AreUnused l.recorder (length (vec_items l.initial.senders)) (vec_items l.all);
}

abbrev pub decreases-places : goal.decreases-places
decreases-places l = vec_len l.senders
