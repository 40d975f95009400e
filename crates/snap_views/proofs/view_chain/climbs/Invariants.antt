use Rattle.std.proofs.Common.{◌≡◌, length}
use Rattle.snap_core.specs.Calls.{calls_of}
use Rattle.snap_views.specs.inside.Chains.{Climbs}
use Rattle.snap_views.specs.Rows.{row_number, sum_below}
use Rattle.snap_views.proofs.Climbing.{IsRowOfLast}
use Rattle.snap_views.proofs.view_chain.climbs.Given as goal

abbrev pub invariant-loop-sum : goal.invariant-loop-sum
invariant-loop-sum g l = record {
  size : length l.numbers ≡ 256;
  sum : l.last ≡ sum_below (row_number l.numbers) 256;
  row : IsRowOfLast (calls_of l.index) l.keys l.sum-index l.numbers;
  rising : Climbs (calls_of l.index) l.keys l.sum-index;
}
