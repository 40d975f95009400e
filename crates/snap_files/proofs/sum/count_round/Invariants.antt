use Rattle.std.proofs.Common.{◌<◌, ◌+◌, ◌++◌, ◌^◌, List, length, take}
use Rattle.snap_core.specs.Counting.{failures_in, inner_of}
use Rattle.snap_files.specs.Files.{Told, said}
use Rattle.snap_files.specs.inside.Files.{paged}
use Rattle.snap_files.specs.inside.Sums.{AreSums}
use Rattle.snap_files.specs.Sums.{Judged, judged_of}
use Rattle.snap_files.proofs.sum.count_round.Given as goal

abbrev pub invariant-loop-place : goal.invariant-loop-place
invariant-loop-place g l = record {
  counts : (before : List Judged) → length before + length l.names < 2 ^ 64 → AreSums before l.fn.sums →
      AreSums (before ++ judged_of (paged (take l.place l.names) (take l.place l.pages))) l.sums;
  told : Told (g.E.Write.contents (inner_of l.fn.errors)) (g.E.Write.contents (inner_of l.errors)) (failures_in l.fn.errors) (failures_in l.errors)
      (said l.options (paged (take l.place l.names) (take l.place l.pages)));
}
