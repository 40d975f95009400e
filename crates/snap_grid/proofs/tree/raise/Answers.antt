use Rattle.std.proofs.Common.{arith}
use Rattle.snap_grid.proofs.Trees.{raised}
use Rattle.snap_grid.proofs.tree.raise.Goals as goal

pub returns-clause-raised : goal.returns-clause-raised
returns-clause-raised c =
    let done = c.loop-node.invariant in
    raised c.args.size c.args.place c.args.nodes.now c.loop-node.nodes done.others (done.raised (omega (arith, c.loop-node-test.false, c.requires.tree.some)))
