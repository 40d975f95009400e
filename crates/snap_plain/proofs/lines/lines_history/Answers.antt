use Rattle.std.proofs.Common.{◌∷◌}
use Rattle.snap_plain.proofs.AheadFacts.{none_taken}
use Rattle.snap_plain.proofs.lines.lines_history.Goals as goal

pub returns : goal.returns
returns c = λ head later heads h. c.rest_history.ensures c.args.lines.now (head ∷ later) (none_taken c.args.limit head later c.args.lines.now c.of_any.result.events heads h c.of_any.ensures.events)
