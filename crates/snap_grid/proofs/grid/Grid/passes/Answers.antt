use Rattle.std.proofs.Common.{◌≡◌, ◌+◌, false, take, sym, ap, subst, ◌∙◌, arith}
use Rattle.snap_grid.specs.Columns.{GridValue, any_passes}
use Rattle.snap_grid.proofs.Passing.{any_at, any_none, none_more, passes_read}
use Rattle.snap_grid.proofs.grid.Grid.passes.Goals as goal

pub loop-j-init : goal.loop-j-init
loop-j-init c = any_none c.args.more c.args.row c.args.other

pub returns-then-passes : goal.returns-then-passes
returns-then-passes c =
    let columns = c.self.inside.columns.items in
    let same = ap (λ (g : GridValue). g.columns) c.self.view_is in
    let here = passes_read c.args.more columns c.loop-j.j c.args.row c.args.other _ _ c.index.result.now c.index-in-loop-j.result.now c.passes.result (omega arith) c.index.ensures c.index-in-loop-j.ensures c.number-ours.ensures c.number-theirs.ensures c.passes.ensures in
    sym (ap (λ z. any_passes c.args.more z c.args.row c.args.other) (sym same) ∙ any_at c.args.more columns c.loop-j.j c.args.row c.args.other (omega arith) (here ∙ c.if-passes.true))

pub loop-j-preserved : goal.loop-j-preserved
loop-j-preserved c =
    let columns = c.self.inside.columns.items in
    let same = ap (λ (g : GridValue). g.columns) c.self.view_is in
    let here = passes_read c.args.more columns c.loop-j.j c.args.row c.args.other _ _ c.index.result.now c.index-in-loop-j.result.now c.passes.result (omega arith) c.index.ensures c.index-in-loop-j.ensures c.number-ours.ensures c.number-theirs.ensures c.passes.ensures in
    subst (λ z. any_passes c.args.more (take (c.loop-j.j + 1) z) c.args.row c.args.other ≡ false) same
    (none_more c.args.more columns c.loop-j.j c.args.row c.args.other (omega arith)
    (subst (λ z. any_passes c.args.more (take c.loop-j.j z) c.args.row c.args.other ≡ false) (sym same) c.loop-j.invariant) (here ∙ c.if-passes.false))
