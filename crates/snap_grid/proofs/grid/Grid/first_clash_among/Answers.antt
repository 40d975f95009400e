use Rattle.std.proofs.Common.{◌≡◌, ◌+◌, ◌-◌, Some, sym, ap, subst, ◌∙◌, arith}
use Rattle.snap_grid.specs.Columns.{GridValue, HaveSameRows, clashes}
use Rattle.snap_grid.proofs.Clashing.{find_first, find_nothing}
use Rattle.snap_grid.proofs.grid.Grid.first_clash_among.Goals as goal

pub overflow_add-other-end : goal.overflow_add-other-end
overflow_add-other-end c =
    let same = subst (λ (g : GridValue). HaveSameRows g.columns g.begins g.ends) c.self.view_is c.self.invariant.same in
    record { fits = omega (arith, same.few, c.requires.within) }

pub returns-then-is_clash : goal.returns-then-is_clash
returns-then-is_clash c =
    let p = clashes c.args.self.now c.args.row in
    let at = c.loop-other.other - c.args.first in
    let here : c.loop-other.other ≡ c.args.first + at = omega arith in
    sym (
    find_first p c.args.count c.args.first at (omega arith) (ap p (sym here) ∙ sym c.is_clash.ensures ∙ c.if-is_clash.true) (λ a l. c.loop-other.invariant (c.args.first + a) (omega arith) (omega (arith, l, here)))
    ∙ ap (λ z. Some z) (sym here)
    )

pub returns : goal.returns
returns c = sym (find_nothing (clashes c.args.self.now c.args.row) c.args.count c.args.first (λ a l. c.loop-other.invariant (c.args.first + a) (omega arith) (omega (arith, l))))
