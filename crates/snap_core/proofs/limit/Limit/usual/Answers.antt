use Rattle.std.proofs.Common.{refl}
use Rattle.snap_core.proofs.Limits.{same_limit}
use Rattle.snap_core.proofs.limit.Limit.usual.Goals as goal

pub returns : goal.returns
returns c = same_limit _ _ refl refl
