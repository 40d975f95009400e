use Rattle.std.proofs.Common.{◌+◌, sym, ap, ◌∙◌, take_all}
use Rattle.snap_grid.specs.Columns.{any_passes}
use Rattle.snap_grid.proofs.Passing.{any_none, none_more, none_passes, ours_at, theirs_at}
use Rattle.snap_grid.proofs.block.Block.none_pass.Goals as goal

pub loop-j-init : goal.loop-j-init
loop-j-init c = λ a s k m n rows. any_none c.args.more (c.args.self.now.from + a) s

pub loop-j-preserved : goal.loop-j-preserved
loop-j-preserved c = λ a s k m n rows.
    let b = c.args.self.now in
    let ours = ours_at b.columns.now b.masks.items b.from b.count b.all c.loop-j.j a c.index.result.now c.bounds.result b.rows c.loop-j-test.true c.index.ensures c.bounds.ensures k in
    let theirs = theirs_at b.columns.now c.loop-j.j c.args.block s c.index-self-j.result c.bounds-in-loop-j.result c.loop-j-test.true c.bounds-in-loop-j.ensures m n rows in
    none_more c.args.more b.columns.now c.loop-j.j (b.from + a) s c.loop-j-test.true (c.loop-j.invariant a s k m n rows)
    (none_passes c.args.more _ _ c.bounds.result c.bounds-in-loop-j.result ours theirs (sym c.some_pass.ensures ∙ c.if-some_pass.false))

pub returns : goal.returns
returns c = λ _ a s k m n rows.
    let b = c.args.self.now in
    ap (λ z. any_passes c.args.more z (b.from + a) s) (sym (take_all c.loop-j.j b.columns.now c.loop-j-test.false)) ∙ c.loop-j.invariant a s k m n rows
