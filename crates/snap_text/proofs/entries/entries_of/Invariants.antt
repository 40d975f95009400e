use Rattle.std.proofs.Common.{length}
use Rattle.snap_text.specs.inside.Fronts.{AreSpelled}
use Rattle.snap_text.proofs.PartFacts.{AreRead}
use Rattle.snap_text.proofs.entries.entries_of.Given as goal

abbrev pub invariant-loop-front : goal.invariant-loop-front
invariant-loop-front l = record { read : AreRead l.entries.items l.left l.text; known : AreSpelled l.olds l.old }

abbrev pub decreases-loop-front : goal.decreases-loop-front
decreases-loop-front l = length l.left
