use Rattle.std.proofs.Common.{length, sym, ap, ◌∙◌, subst}
use Rattle.std.specs.List.{All}
use Rattle.std.proofs.lemmas.Bool.{eqb-true}
use Rattle.snap_order.specs.inside.Shown.{IsLast, AreCounted}
use Rattle.snap_order.proofs.Matching.{matching}
use Rattle.snap_order.proofs.last_entries.LastEntries.are_shown_by.Goals as goal

pub returns-then-entries-self : goal.returns-then-entries-self
returns-then-entries-self c =
    let seen = c.entries-entries.ensures in
    let counted : AreCounted c.args.self.now c.self.inside.written = subst (λ z. AreCounted z c.self.inside.written) c.self.view_is c.self.invariant in
    let m = matching c.args.view.now c.args.self.now c.self.inside.written seen.view.rising (λ k d l. (seen.view.fit k d l).0) counted in (
      λ t. m.0 (subst (All (IsLast c.args.self.now)) seen.entries (c.have_all.ensures.0 t), ap length (sym seen.entries) ∙ c.if-entries-self.true),
      λ h. c.have_all.ensures.1 (subst (All (IsLast c.args.self.now)) (sym seen.entries) (m.1 h).0),
    )

pub returns-else-entries-self : goal.returns-else-entries-self
returns-else-entries-self c =
    let seen = c.entries-entries.ensures in
    let counted : AreCounted c.args.self.now c.self.inside.written = subst (λ z. AreCounted z c.self.inside.written) c.self.view_is c.self.invariant in
    let m = matching c.args.view.now c.args.self.now c.self.inside.written seen.view.rising (λ k d l. (seen.view.fit k d l).0) counted in (
      λ t. absurd (c.if-entries-self.false (eqb-true _ _ t)),
      λ h. absurd (c.if-entries-self.false (ap length seen.entries ∙ (m.1 h).1)),
    )
