use Rattle.std.proofs.Common.{◌≤◌, take}
use Rattle.snap_core.specs.Counting.{inner_of}
use Rattle.snap_commands.specs.Painting.{SendsPainted}
use Rattle.snap_commands.proofs.verdicts.send_painted.Given as goal

abbrev pub invariant-loop-at : goal.invariant-loop-at
invariant-loop-at g l = record {
  begins : l.sent ≤ l.begin;
  ends : l.begin ≤ l.at;
  painted : SendsPainted (g.W.Write.contents (inner_of l.fn.writer)) (g.W.Write.contents (inner_of l.writer)) (take l.sent l.text);
}
