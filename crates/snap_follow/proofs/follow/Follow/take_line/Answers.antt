use Rattle.std.proofs.Common.{refl, sym}
use Rattle.snap_follow.proofs.Steps.{nothing_more}
use Rattle.snap_follow.proofs.Unquoting.{no_rows}
use Rattle.snap_follow.proofs.follow.Follow.take_line.Goals as goal

pub returns-then-is_empty-clause-read : goal.returns-then-is_empty-clause-read
returns-then-is_empty-clause-read c = nothing_more c.args.self.now c.args.self.now c.args.line.now (refl, refl, refl, refl) (refl, refl, refl, refl, refl) (no_rows c.args.line.now (sym c.if-is_empty.ensures))
