use Rattle.std.proofs.Common.{◌∙◌, List, get_or, ap, subst}
use Rattle.snap_core.specs.declared.event.Event.{Event}
use Rattle.snap_core.specs.Calls.{calls_of}
use Rattle.snap_core.specs.Bounded.{IsBoundedOrdered}
use Rattle.snap_views.specs.Chains.{AreViewSums}
use Rattle.snap_order.proofs.Searches.{sum_of_number}
use Rattle.snap_order.proofs.levels.Levels.sum_of.Goals as goal

pub returns-then-is_view_at : goal.returns-then-is_view_at
returns-then-is_view_at g c =
    let es = c.args.self.now in
    let sums = c.self.inside.sums.items in
    c.sum_at.ensures ∙ ap (λ z. get_or z c.args.place 0) c.deref.ensures.value
    ∙ sum_of_number es (subst IsBoundedOrdered c.self.view_is c.self.invariant.kept) sums (subst (λ (z : List Event). AreViewSums (calls_of z) sums) c.self.view_is c.self.invariant.summed)
    c.args.place c.args.number c.args.view.now c.requires.number (c.is_view_at.ensures.0 c.if-is_view_at.true) c.requires.view
