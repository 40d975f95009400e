use Rattle.std.proofs.Common.{◌+◌, sym, ◌∙◌}
use Rattle.snap_grid.proofs.Passing.{any_at, all_passes, ours_at, theirs_at}
use Rattle.snap_grid.proofs.block.Block.all_pass.Goals as goal

pub returns-then-all_pass : goal.returns-then-all_pass
returns-then-all_pass c = λ _ a s k m n rows.
    let b = c.args.self.now in
    let ours = ours_at b.columns.now b.masks.items b.from b.count b.all c.loop-j.j a c.index.result.now c.bounds.result b.rows c.loop-j-test.true c.index.ensures c.bounds.ensures k in
    let theirs = theirs_at b.columns.now c.loop-j.j c.args.block s c.index-self-j.result c.bounds-in-loop-j.result c.loop-j-test.true c.bounds-in-loop-j.ensures m n rows in
    any_at c.args.more b.columns.now c.loop-j.j (b.from + a) s c.loop-j-test.true (all_passes c.args.more _ _ c.bounds.result c.bounds-in-loop-j.result ours theirs (sym c.all_pass.ensures ∙ c.if-all_pass.true))
