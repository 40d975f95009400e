use Rattle.std.proofs.Common.{arith}
use Rattle.snap_grid.proofs.Trees.{step}
use Rattle.snap_grid.proofs.tree.sum_below.Goals as goal

pub overflow_add-sum : goal.overflow_add-sum
overflow_add-sum c =
    let kept = c.loop-low.invariant in
    let parts = step c.args.size c.args.nodes.now c.requires.tree c.loop-low.low c.loop-low.high kept.some c.loop-low-test.true kept.within in
    record { fits = omega (arith, parts, kept.sum, c.node_if-sum.ensures, c.requires.small) }

pub overflow_add-sum-in-loop-low : goal.overflow_add-sum-in-loop-low
overflow_add-sum-in-loop-low c =
    let kept = c.loop-low.invariant in
    let parts = step c.args.size c.args.nodes.now c.requires.tree c.loop-low.low c.loop-low.high kept.some c.loop-low-test.true kept.within in
    record { fits = omega (arith, parts, kept.sum, c.node_if-sum.ensures, c.node_if-sum-in-loop-low.ensures, c.requires.small) }

pub loop-low-preserved : goal.loop-low-preserved
loop-low-preserved c =
    let kept = c.loop-low.invariant in
    let parts = step c.args.size c.args.nodes.now c.requires.tree c.loop-low.low c.loop-low.high kept.some c.loop-low-test.true kept.within in
    record {
      some = omega (arith, kept.some);
      order = omega (arith, c.loop-low-test.true);
      within = omega (arith, kept.within);
      sum = omega (arith, parts, kept.sum, c.node_if-sum.ensures, c.node_if-sum-in-loop-low.ensures);
    }
