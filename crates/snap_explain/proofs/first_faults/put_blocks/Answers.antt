use Rattle.std.proofs.Common.{◌+◌, ◌-◌, subst, sym, arith}
use Rattle.std.proofs.Math.Nat.{min-le_right}
use Rattle.snap_core.specs.Calls.{calls_of, views_of}
use Rattle.snap_views.specs.Seen.{views_between}
use Rattle.snap_views.proofs.Pieces.{range_joined}
use Rattle.snap_explain.specs.Faults.{fault_text}
use Rattle.snap_explain.specs.FirstFaults.{firsts_among}
use Rattle.snap_conditions.specs.declared.fault.Kind.TheVariants.{Read}
use Rattle.snap_explain.proofs.FirstFaults.{IsTold, told_next}
use Rattle.snap_explain.proofs.first_faults.put_blocks.Goals as goal

pub loop-from-preserved : goal.loop-from-preserved
loop-from-preserved g c =
    let calls = calls_of c.args.grid.now in
    let from = c.loop-from.from in
    let to = from + c.min.result in
    let text = fault_text c.args.lines.listed c.args.lines.records.now calls in
    record {
      all = c.loop-from.invariant.all;
      within = omega (arith, min-le_right 512 (c.view_count-count.result - from), c.min.ensures, c.loop-from-test.true);
      told = subst (λ rs. IsTold text c.args.most (firsts_among Read calls rs) c.args.out.now.items c.put_block.new.out.items c.in_ok-left.left) (sym (range_joined (views_of calls) 0 from to (omega arith) (omega arith)))
          (told_next text Read calls (views_between calls 0 from) (views_between calls from to) c.args.most _ _ _ _ _ c.loop-from.invariant.told c.in_ok-left.ensures.text c.in_ok-left.ensures.more);
    }
