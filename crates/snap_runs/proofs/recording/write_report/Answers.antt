use Rattle.std.proofs.Common.{arith, subst}
use Rattle.snap_core.specs.declared.writers.Writers.TheVariants.{Many}
use Rattle.snap_check.specs.Options.{IsVerdictWith}
use Rattle.snap_runs.proofs.recording.write_report.Goals as goal

pub unreachable-requires : goal.unreachable-requires
unreachable-requires g c =
    let events = c.args.history.now.events in
    let few = subst (λ answer. IsVerdictWith c.plain.result Many events answer c.in_ok-answer.text.items) c.in_default.is (c.in_ok-answer.ensures.by_writers Many c.events-events.ensures.ordered.history) in
    omega (arith, few.0, c.plain.ensures.views)
