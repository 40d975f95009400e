use Rattle.snap_format.proofs.ReadFacts.{row_refused, row_taken}
use Rattle.snap_format.proofs.taking.take_event.Goals as goal

pub returns-in-Err-clause-takes : goal.returns-in-Err-clause-takes
returns-in-Err-clause-takes c = λ r h. row_refused c.args.history.now.limit c.args.place c.args.history.now.events r c.args.event c.in-Err.refusal c.refused_at.result h c.in-Err.ensures.reason c.refused_at.ensures

pub returns-clause-takes : goal.returns-clause-takes
returns-clause-takes c = λ r h. row_taken c.args.history.now.limit c.args.place c.args.history.now.events c.push.new.self.events r c.args.event h c.in_default.ensures.accepted c.in_default.ensures.ok
