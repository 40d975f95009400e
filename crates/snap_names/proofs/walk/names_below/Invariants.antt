use Rattle.std.proofs.Common.{◌≤◌, ◌-◌}
use Rattle.snap_names.specs.declared.walk.TheConstants.{FOLDER_LIMIT}
use Rattle.snap_names.specs.Lists.{byte_lists}
use Rattle.snap_names.proofs.WalkFacts.{Walked}
use Rattle.snap_names.proofs.walk.names_below.Given as goal

abbrev pub invariant-loop-at : goal.invariant-loop-at
invariant-loop-at g l = record {
  within : l.at ≤ FOLDER_LIMIT;
  walked : Walked (g.F.Folders.lists l.folders) l.start l.at (byte_lists l.waiting.items) (byte_lists l.names.items);
}

abbrev pub decreases-loop-at : goal.decreases-loop-at
decreases-loop-at g l = FOLDER_LIMIT - l.at
