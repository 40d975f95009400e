use Rattle.std.proofs.Common.{◌≡◌, take}
use Rattle.snap_core.specs.Counting.{failures_in, inner_of}
use Rattle.snap_files.specs.inside.Files.{WritesAll, paged}
use Rattle.snap_files.proofs.files.write_round.Given as goal

abbrev pub invariant-loop-place : goal.invariant-loop-place
invariant-loop-place g l = record {
  all : WritesAll l.options (paged (take l.place l.names) (take l.place l.pages)) (g.W.Write.contents (inner_of l.fn.writer)) (g.W.Write.contents (inner_of l.writer))
      (g.E.Write.contents (inner_of l.fn.errors)) (g.E.Write.contents (inner_of l.errors)) (failures_in l.fn.errors) (failures_in l.errors) l.greatest;
  count : failures_in l.writer ≡ failures_in l.fn.writer;
}
