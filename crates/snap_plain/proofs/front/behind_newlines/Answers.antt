use Rattle.snap_plain.proofs.AheadFacts.{whole}
use Rattle.snap_plain.proofs.front.behind_newlines.Goals as goal

pub returns-then-is_empty-clause-rest : goal.returns-then-is_empty-clause-rest
returns-then-is_empty-clause-rest c = whole c.args.text.now
