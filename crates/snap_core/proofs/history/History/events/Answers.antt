use Rattle.std.proofs.Common.{ap, ◌∙◌, subst}
use Rattle.snap_core.specs.Bounded.{IsAtMost, IsBoundedBy}
use Rattle.snap_core.proofs.OrderedPushes.{bounded_at_most, bounded_by_ordered}
use Rattle.snap_core.proofs.history.History.events.Goals as goal

pub returns : goal.returns
returns g c =
    let limited = subst (λ h. IsBoundedBy h.limit.writers h.events) c.self.view_is c.self.invariant.0.kept in
    let most = subst (λ h. IsAtMost g.O.Ownership.writers h.limit.writers) c.self.view_is c.self.invariant.2 in
    let now = c.args.self.now in
    record {
      events = c.deref.ensures.value ∙ ap (λ h. h.events) c.self.view_is;
      history = bounded_at_most g.O.Ownership.writers now.limit.writers now.events most limited;
      limited = limited;
      ordered = bounded_by_ordered now.limit.writers now.events limited;
    }
