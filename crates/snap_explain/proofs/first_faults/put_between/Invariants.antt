use Rattle.snap_core.specs.Calls.{calls_of}
use Rattle.snap_views.specs.Seen.{views_between}
use Rattle.snap_explain.specs.Faults.{fault_text}
use Rattle.snap_explain.specs.FirstFaults.{firsts_among}
use Rattle.snap_explain.proofs.FirstFaults.{IsTold}
use Rattle.snap_explain.proofs.first_faults.put_between.Given as goal

abbrev pub invariant-loop-place : goal.invariant-loop-place
invariant-loop-place g l =
    IsTold (fault_text l.lines.listed l.lines.records.now (calls_of l.index)) l.left (firsts_among l.kind (calls_of l.index) (views_between (calls_of l.index) l.from l.place)) l.fn.out.items l.out.items l.more
