use Rattle.std.proofs.Common.{◌≡◌, ◌≤◌, drop, length, map}
use Rattle.snap_core.specs.Calls.{calls_of}
use Rattle.snap_stats.specs.Shown.{distinct_count, process_in}
use Rattle.snap_stats.proofs.Distinct.{AreSeen}
use Rattle.snap_stats.proofs.processes.process_count.Given as goal

-- the processes of the calls from a number on
abbrev pub invariant-loop-number : goal.invariant-loop-number
invariant-loop-number g l = record {
  within : l.number ≤ length (calls_of l.index);
  size : 65536 ≤ length l.seen.items;
  seen : AreSeen (map process_in (drop l.number (calls_of l.index))) l.seen.items;
  count : l.count ≡ distinct_count (map process_in (drop l.number (calls_of l.index)));
}

abbrev pub decreases-loop-number : goal.decreases-loop-number
decreases-loop-number g l = l.number
