use Rattle.std.proofs.Common.{◌-◌, length, suc}
use Rattle.snap_plain.specs.Lines.{BeginsLines}
use Rattle.snap_plain.proofs.ahead.read_lines.Given as goal

abbrev pub invariant-each : goal.invariant-each
invariant-each l = BeginsLines l.events.items l.left l.text

abbrev pub decreases-each : goal.decreases-each
decreases-each l = suc l.limit.events - length l.events.items
