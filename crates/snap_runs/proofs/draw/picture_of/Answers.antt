use Rattle.std.proofs.Common.{◌∙◌, subst, sym}
use Rattle.snap_core.specs.Calls.{calls_of}
use Rattle.snap_runs.specs.Drawing.{IsSaid}
use Rattle.snap_runs.proofs.Drawings.{drawing, order_is}
use Rattle.snap_runs.proofs.draw.picture_of.Goals as goal

pub returns : goal.returns
returns g c =
    drawing _ _ _ _ _ _ c.args.index.now c.args.numbering.records.now c.args.numbering.sources.now c.args.tally.now c.numbers_of-order.result.now c.in_ok-shapes.shapes c.deref.result.now c.in_ok-parts.parts.items c.deref-2.result.now c.text.result c.part-window.ensures c.held.ensures c.requires.tally
    (c.numbers_of-order.ensures ∙ order_is (calls_of c.args.index.now) c.args.tally.now c.args.order c.requires.given c.requires.order)
    c.in_ok-shapes.ensures (c.deref.ensures.value) c.in_ok-parts.ensures (subst (λ text. IsSaid (g.M.Markup.says c.args.markup.now) c.args.numbering.records.now (calls_of c.args.index.now) text) (sym c.deref-2.ensures.value)
    (subst (λ says. IsSaid says c.args.numbering.records.now (calls_of c.args.index.now) c.in_ok-said.said.items) c.said.ensures c.in_ok-said.ensures))
    c.text.ensures
