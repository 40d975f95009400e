use Rattle.std.proofs.Common.{◌≡◌, ◌≤◌, ◌-◌, length}
use Rattle.snap_core.specs.Calls.{calls_of, views_of}
use Rattle.snap_views.specs.Seen.{views_between}
use Rattle.snap_explain.specs.Faults.{fault_text}
use Rattle.snap_explain.specs.FirstFaults.{firsts_among}
use Rattle.snap_conditions.specs.declared.fault.Kind.TheVariants.{Read}
use Rattle.snap_explain.proofs.FirstFaults.{IsTold}
use Rattle.snap_explain.proofs.first_faults.put_blocks.Given as goal

abbrev pub invariant-loop-from : goal.invariant-loop-from
invariant-loop-from g l = record {
  all : l.count ≡ length (views_of (calls_of l.grid));
  within : l.from ≤ l.count;
  told : IsTold (fault_text l.lines.listed l.lines.records.now (calls_of l.grid)) l.most (firsts_among Read (calls_of l.grid) (views_between (calls_of l.grid) 0 l.from)) l.fn.out.items l.out.items l.left;
}

abbrev pub decreases-loop-from : goal.decreases-loop-from
decreases-loop-from g l = l.count - l.from
