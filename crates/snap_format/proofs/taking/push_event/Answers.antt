use Rattle.snap_core.specs.Refusals.{refusal_of}
use Rattle.snap_format.proofs.ReadFacts.{refused_as}
use Rattle.snap_format.proofs.taking.push_event.Goals as goal

pub returns-in-Err-clause-takes : goal.returns-in-Err-clause-takes
returns-in-Err-clause-takes c = refused_as c.args.place (refusal_of c.args.history.now.limit c.args.history.now.events c.args.event) c.in-Err.refusal c.refused_at.result c.in-Err.ensures.reason c.refused_at.ensures
