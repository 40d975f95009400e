use Rattle.std.proofs.Common.{ap, arith, length}
use Rattle.std.specs.Vec.Iter.{into_iter_items}
use Rattle.snap_format.specs.Stamps.{events_of, places_of}
use Rattle.snap_format.specs.declared.stamped.Stamped.{Stamped}
use Rattle.snap_versions.proofs.StoreFacts.{goes_on}
use Rattle.snap_runs.proofs.store_text.parted.Goals as goal

pub each-preserved : goal.each-preserved
each-preserved c =
    let i = c.each.invariant in
    let s = c.in-Some.ensures.steps in
    record {
      events = goes_on (λ (x : Stamped). x.event) c.each.events.items c.push.new.self.items _ (into_iter_items c.next.new.self) c.in-Some.field-0 (events_of c.args.sorted.items) i.events s.0 c.in_ok-push.ensures.items;
      records = goes_on (λ (x : Stamped). x.place) c.each.records.items c.push-in-each.new.self.items _ (into_iter_items c.next.new.self) c.in-Some.field-0 (places_of c.args.sorted.items) i.records s.0 c.in_ok-push-2.ensures.items;
      left = let h = i.left in let e = ap length s.0 in omega (arith, s.1);
    }
