use Rattle.std.proofs.Common.{take}
use Rattle.snap_files.specs.inside.Files.{AreAnswered}
use Rattle.snap_files.proofs.round.pages_in_turn.Given as goal

abbrev pub invariant-loop-name : goal.invariant-loop-name
invariant-loop-name g l = AreAnswered (g.O.Opener.opens l.opener) l.options (take l.name-index l.names) l.pages.items
