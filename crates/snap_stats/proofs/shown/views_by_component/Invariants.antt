use Rattle.std.proofs.Common.{◌≡◌, length, take}
use Rattle.snap_core.specs.Calls.{calls_of, views_of}
use Rattle.snap_core.specs.Entries.{component_count}
use Rattle.snap_stats.specs.inside.Marks.{AreViewCounts}
use Rattle.snap_stats.proofs.shown.views_by_component.Given as goal

abbrev pub invariant-loop-place : goal.invariant-loop-place
invariant-loop-place g l = record {
  size : length l.counts.items ≡ component_count;
  counted : AreViewCounts (take l.place (views_of (calls_of l.index))) l.counts.items;
}
