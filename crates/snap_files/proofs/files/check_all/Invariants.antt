use Rattle.std.proofs.Common.{◌≡◌, ◌≤◌, ◌-◌, length, take}
use Rattle.snap_core.specs.Counting.{failures_in, inner_of}
use Rattle.snap_files.specs.Files.{ChecksAll}
use Rattle.snap_files.proofs.files.check_all.Given as goal

abbrev pub invariant-loop-from : goal.invariant-loop-from
invariant-loop-from g l = record {
  within : l.from ≤ length l.names;
  all : ChecksAll (g.O.Opener.opens l.opener) l.options (take l.from l.names) (g.W.Write.contents (inner_of l.fn.writer)) (g.W.Write.contents (inner_of l.writer))
      (g.E.Write.contents (inner_of l.fn.errors)) (g.E.Write.contents (inner_of l.errors)) (failures_in l.fn.errors) (failures_in l.errors) l.greatest;
  count : failures_in l.writer ≡ failures_in l.fn.writer;
}

abbrev pub decreases-loop-from : goal.decreases-loop-from
decreases-loop-from g l = length l.names - l.from
