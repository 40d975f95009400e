use Rattle.std.proofs.Common.{◌≤◌, ◌-◌, length, take}
use Rattle.snap_core.specs.Counting.{failures_in, inner_of}
use Rattle.snap_files.specs.inside.Sums.{Summed}
use Rattle.snap_files.proofs.sum.sums_of.Given as goal

abbrev pub invariant-loop-from : goal.invariant-loop-from
invariant-loop-from g l = record {
  within : l.from ≤ length l.names;
  summed : Summed (g.O.Opener.opens l.opener) l.fn.check (take l.from l.names) (g.E.Write.contents (inner_of l.fn.errors)) (g.E.Write.contents (inner_of l.errors))
      (failures_in l.fn.errors) (failures_in l.errors) l.sums;
}

abbrev pub decreases-loop-from : goal.decreases-loop-from
decreases-loop-from g l = length l.names - l.from
