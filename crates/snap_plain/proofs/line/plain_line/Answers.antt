use Rattle.snap_plain.proofs.FrontFacts.{stripped_rows}
use Rattle.snap_plain.proofs.line.plain_line.Goals as goal

pub returns-then-is_plain : goal.returns-then-is_plain
returns-then-is_plain c = rw c.behind_order_mark.ensures (stripped_rows c.args.line.now (c.is_plain.ensures.0 c.if-is_plain.true))
