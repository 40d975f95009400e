use Rattle.std.proofs.Common.{◌≡◌, List, ◌++◌, false, None, Some, sym, ap, ◌∙◌, subst, ⊎_elim, arith}
use Rattle.std.proofs.lemmas.Bool.{false≢true}
use Rattle.std.proofs.lemmas.List.{length-map}
use Rattle.std.specs.Vec.Iter.{into_iter_items}
use Rattle.snap_core.specs.declared.history.EventRefusal.{EventRefusal}
use Rattle.snap_core.specs.declared.history.EventRefusal.TheVariants.{Memory}
use Rattle.snap_board.specs.History.{events_in}
use Rattle.snap_board.proofs.Stamps.{Stamp}
use Rattle.snap_record.proofs.Pushing.{accepted}
use Rattle.snap_record.proofs.timeline.history_of.Goals as goal

none_some : (r : EventRefusal) → None ≡ Some r → ⊥
none_some r e = cc

pub prove-unreachable-requires : goal.prove-unreachable-requires
prove-unreachable-requires c =
    let i = c.each.invariant in
    let s = c.in-Some.ensures.steps in
    let size = length-map c.args.events.items (λ (x : Stamp). x.1) in
    let taken = accepted c.each.history.limit c.each.history.events c.in-Some.event (events_in (into_iter_items c.next.new.self)) (events_in c.args.events.items)
    (ap (λ (es : List Stamp). c.each.history.events ++ events_in es) (sym s.0) ∙ i.whole) i.writers c.requires.history (omega (arith, c.requires.short, size, i.limit)) in
    ⊎_elim (λ a. none_some c.in-Err.refusal (sym taken ∙ a))
    (λ m. false≢true (subst (λ (r : EventRefusal). false ≡ denote.Enum.Bare.sameb Rattle.snap_core.specs.contracts.history.EventRefusal.the_type r Memory) m c.if-prove.ensures))
    c.in-Err.ensures.reason
