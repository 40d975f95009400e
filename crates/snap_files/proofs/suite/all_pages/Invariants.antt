use Rattle.std.proofs.Common.{◌≤◌, ◌-◌, length, take, vec_items}
use Rattle.snap_files.specs.inside.Files.{AreAnswered}
use Rattle.snap_files.proofs.suite.all_pages.Given as goal

abbrev pub invariant-loop-from : goal.invariant-loop-from
invariant-loop-from g l = record {
  within : l.from ≤ length l.names;
  all : AreAnswered (g.O.Opener.opens l.opener) l.options (take l.from l.names) (vec_items l.pages);
}

abbrev pub decreases-loop-from : goal.decreases-loop-from
decreases-loop-from g l = length l.names - l.from
