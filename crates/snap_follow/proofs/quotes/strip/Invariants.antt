use Rattle.std.proofs.Common.{length}
use Rattle.snap_follow.specs.inside.Quotes.{IsStripped}
use Rattle.snap_follow.proofs.quotes.strip.Given as goal

abbrev pub invariant-loop-byte : goal.invariant-loop-byte
invariant-loop-byte l = IsStripped l.fn.line l.left l.bare.items l.at

abbrev pub decreases-loop-byte : goal.decreases-loop-byte
decreases-loop-byte l = length l.left
