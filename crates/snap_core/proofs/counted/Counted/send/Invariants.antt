use Rattle.std.proofs.Common.{◌≡◌, ◌≤◌, ◌-◌, take, length}
use Rattle.std.specs.Io.KnownBytes.{Appends}
use Rattle.snap_core.specs.Counting.{failures_in, inner_of}
use Rattle.snap_core.proofs.counted.Counted.send.Given as goal

abbrev pub invariant-loop-sent : goal.invariant-loop-sent
invariant-loop-sent g l = record {
  within : l.sent ≤ length l.text;
  bytes : Appends (g.W.Write.contents (inner_of l.fn.self)) (g.W.Write.contents (inner_of l.self)) (take l.sent l.text);
  count : failures_in l.self ≡ failures_in l.fn.self;
}

abbrev pub decreases-loop-sent : goal.decreases-loop-sent
decreases-loop-sent g l = length l.text - l.sent
