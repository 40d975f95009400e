use Rattle.std.proofs.Common.{◌-◌, length}
use Rattle.snap_views.proofs.view_chain.some_cross.Given as goal

abbrev pub decreases-loop-at : goal.decreases-loop-at
decreases-loop-at g l = length l.keys - l.at
