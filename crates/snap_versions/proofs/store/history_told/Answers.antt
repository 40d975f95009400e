use Rattle.std.proofs.Common.{◌≡◌, ◌++◌, List, false, map, sym, ap, ◌∙◌, subst, arith, length}
use Rattle.std.proofs.lemmas.Bool.{false≢true}
use Rattle.std.proofs.lemmas.List.{length-map}
use Rattle.std.specs.Vec.Iter.{into_iter_items}
use Rattle.snap_core.specs.declared.history.EventRefusal.{EventRefusal}
use Rattle.snap_core.specs.declared.history.EventRefusal.TheVariants.{Memory}
use Rattle.snap_core.specs.declared.limit.Limit.{Limit}
use Rattle.snap_versions.specs.Cuts.{event_of}
use Rattle.snap_versions.specs.Stores.{place_of}
use Rattle.snap_versions.specs.declared.moment.Moment.{Moment}
use Rattle.snap_versions.proofs.StoreFacts.{accepted, goes_on, wants_memory}
use Rattle.snap_versions.proofs.store.history_told.Goals as goal

pub prove-unreachable-requires : goal.prove-unreachable-requires
prove-unreachable-requires c =
    let i = c.each.invariant in
    let s = c.in-Some.ensures.steps in
    let size = length-map c.args.moments.items event_of in
    let taken = accepted c.each.history.limit c.each.history.events c.in-Some.field-0.event (map event_of (into_iter_items c.next.new.self)) (map event_of c.args.moments.items)
    (ap (λ (ms : List Moment). c.each.history.events ++ map event_of ms) (sym s.0) ∙ i.told) (ap (λ (l : Limit). l.writers) i.limit) c.requires.ordered (let l = ap (λ (l : Limit). l.events) i.limit in omega (arith, c.requires.short, size, l)) in
    false≢true (subst (λ (r : EventRefusal). false ≡ denote.Enum.Bare.sameb Rattle.snap_core.specs.contracts.history.EventRefusal.the_type r Memory) (wants_memory _ _ _ _ taken c.in-Err.ensures.reason) c.if-prove.ensures)

pub each-preserved : goal.each-preserved
each-preserved c =
    let i = c.each.invariant in
    let s = c.in-Some.ensures.steps in
    record {
      told = goes_on event_of c.each.history.events c.push.new.self.events _ (into_iter_items c.next.new.self) c.in-Some.field-0 (map event_of c.args.moments.items) i.told s.0 c.in-Ok.ensures.ok;
      places = goes_on place_of c.each.places.items c.push-in-Ok.new.self.items _ (into_iter_items c.next.new.self) c.in-Some.field-0 (map place_of c.args.moments.items) i.places s.0 c.in_ok-push-in-Ok.ensures.items;
      limit = c.in-Ok.ensures.limit ∙ i.limit;
      left = let h = i.left in let e = ap length s.0 in omega (arith, s.1);
    }
