use Rattle.std.proofs.Common.{length, refl, sym, ap, subst, ◌∙◌, true, false, arith}
use Rattle.std.proofs.lemmas.Bool.{lt-ltb, le-ltb}
use Rattle.snap_grid.specs.Columns.{GridValue, HaveSameRows}
use Rattle.snap_grid.proofs.Clashing.{before_by, clash_by}
use Rattle.snap_grid.proofs.grid.Grid.is_clash.Goals as goal

pub returns-then-index-number : goal.returns-then-index-number
returns-then-index-number c =
    let g = c.args.self.now in
    let same = subst (λ (g : GridValue). HaveSameRows g.columns g.begins g.ends) c.self.view_is c.self.invariant.same in
    let ends = ap (λ (g : GridValue). g.ends) c.self.view_is in
    let before = before_by g c.self.inside.ends.items c.self.inside.begins c.args.row c.args.other _ _ ends (ap (λ (g : GridValue). g.begins) c.self.view_is) (omega (arith, ap length ends, same.ended, c.requires.row)) c.index.ensures c.number.ensures in
    lt-ltb _ _ c.if-index-number.true ∙ sym (clash_by g c.args.row c.args.other true true _ (sym c.passes.ensures ∙ c.if-passes.true) (before ∙ lt-ltb _ _ c.if-index-number.true) refl)

pub returns-else-index-number : goal.returns-else-index-number
returns-else-index-number c =
    let g = c.args.self.now in
    let same = subst (λ (g : GridValue). HaveSameRows g.columns g.begins g.ends) c.self.view_is c.self.invariant.same in
    let ends = ap (λ (g : GridValue). g.ends) c.self.view_is in
    let before = before_by g c.self.inside.ends.items c.self.inside.begins c.args.row c.args.other _ _ ends (ap (λ (g : GridValue). g.begins) c.self.view_is) (omega (arith, ap length ends, same.ended, c.requires.row)) c.index.ensures c.number.ensures in
    sym (clash_by g c.args.row c.args.other true false _ (sym c.passes.ensures ∙ c.if-passes.true) (before ∙ le-ltb _ _ c.if-index-number.false) (sym c.passes-else-index-number.ensures))

pub returns-else-passes : goal.returns-else-passes
returns-else-passes c = c.if-passes.false ∙ sym (clash_by c.args.self.now c.args.row c.args.other false _ _ (sym c.passes.ensures ∙ c.if-passes.false) refl refl)
