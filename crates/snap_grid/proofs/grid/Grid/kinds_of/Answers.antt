use Rattle.std.proofs.Common.{◌*◌, ◌-◌, length, get_or, sym, ap, subst, ◌∙◌, arith}
use Rattle.std.specs.Prelude.{min}
use Rattle.snap_grid.specs.Columns.{GridValue}
use Rattle.snap_grid.specs.inside.Kinds.{AreKinds}
use Rattle.snap_grid.proofs.grid.Grid.kinds_of.Goals as goal

pub index-requires : goal.index-requires
index-requires c =
    let size = ap (λ (g : GridValue). length g.begins) c.self.view_is in
    omega (arith, c.self.invariant.kinds_are.blocks c.args.block (omega (arith, size, c.requires)), c.self.inside.kinds.ok)

pub returns : goal.returns
returns c =
    let block = c.args.block in
    let some = c.index.result.now in
    let size = ap (λ (g : GridValue). length g.begins) c.self.view_is in
    let here = c.self.invariant.kinds_are.each block some (c.self.invariant.kinds_are.blocks block (omega (arith, size, c.requires))) in
    subst (AreKinds c.args.self.now.columns (block * 512) (min 512 (length c.args.self.now.begins - block * 512))) (sym (c.all.ensures ∙ c.index.ensures))
    (subst (λ (g : GridValue). AreKinds g.columns (block * 512) (min 512 (length g.begins - block * 512)) (get_or c.self.inside.kinds.items block some)) c.self.view_is here)
