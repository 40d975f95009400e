use Rattle.std.proofs.Common.{arith}
use Rattle.snap_follow.proofs.waiting.Waiting.len.Goals as goal

pub returns : goal.returns
returns c = omega (arith, c.len.ensures, c.args.self.now.turns.ok.0)
