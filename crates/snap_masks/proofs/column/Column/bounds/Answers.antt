use Rattle.std.proofs.Common.{sym, subst, arith}
use Rattle.snap_masks.specs.Numbers.{IsBounded}
use Rattle.snap_masks.proofs.column.Column.bounds.Goals as goal

pub index-requires : goal.index-requires
index-requires c = omega (arith, c.self.inside.bounds.ok, c.self.invariant.blocks c.args.block (rw c.self.view_is c.requires))

pub returns : goal.returns
returns c =
    let b = c.self.invariant.bounded c.args.block c.index.result.now (rw c.self.view_is c.requires) in
    rw (← c.self.view_is) (subst (IsBounded c.self.inside.numbers.items c.args.block) (sym c.index.ensures) b)
