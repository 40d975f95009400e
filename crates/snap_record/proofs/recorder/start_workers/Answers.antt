use Rattle.std.proofs.Common.{◌∙◌, ap, sym, subst}
use Rattle.snap_account.specs.Rule.{newcomers}
use Rattle.snap_record.specs.Relays.{AreNew}
use Rattle.snap_record.specs.inside.Workers.{AreUnused}
use Rattle.snap_record.proofs.recorder.start_workers.Goals as goal

pub workers_of-requires-clause-rest : goal.workers_of-requires-clause-rest
workers_of-requires-clause-rest g c = c.in-Ok.ensures.empty ∙ ap newcomers (sym c.in_ok-relay.ensures.senders.count)

pub workers_of-requires-clause-senders : goal.workers_of-requires-clause-senders
workers_of-requires-clause-senders g c =
    subst (λ n. AreNew c.in_ok-relay.relay.queue n c.in_ok-relay.senders.items) (sym c.in_ok-relay.ensures.senders.count) c.in_ok-relay.ensures.senders

pub returns-clause-unused : goal.returns-clause-unused
returns-clause-unused g c =
    subst (λ n. AreUnused (record { board = c.with_seeded_pauses.result; relay = c.in_ok-relay.relay }) n c.in_ok-all.all.items) c.in_ok-relay.ensures.senders.count c.in_ok-all.ensures.unused
