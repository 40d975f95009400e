use Rattle.std.proofs.Common.{arith}
use Rattle.snap_format.proofs.RepeatFacts.{falls, rises_on}
use Rattle.snap_format.proofs.repeats.are_rising.Goals as goal

pub returns-then-stamped-i : goal.returns-then-stamped-i
returns-then-stamped-i c = falls c.args.stamped.now c.loop-i.i c.index-stamped-i.result c.index-stamped-i-in-loop-i.result (omega arith) (omega arith) (omega arith)

pub loop-i-preserved : goal.loop-i-preserved
loop-i-preserved c = rises_on c.args.stamped.now c.loop-i.i c.index-stamped-i.result c.index-stamped-i-in-loop-i.result (omega arith) (omega arith) c.if-stamped-i.false c.loop-i.invariant
