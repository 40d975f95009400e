use Rattle.std.proofs.Common.{refl}
use Rattle.snap_account.proofs.limit.TickLimit.usual.Goals as goal

pub returns : goal.returns
returns c = refl
