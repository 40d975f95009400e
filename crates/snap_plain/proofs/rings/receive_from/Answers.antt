use Rattle.std.proofs.Common.{◌≡◌, ◌++◌, ◌∷◌, [], All, ap, arith, length, rules, subst, sym}
use Rattle.std.proofs.lemmas.List.{nil_from_length}
use Rattle.std.proofs.lemmas.List.Elements.{All-push}
use Rattle.rtrb.specs.Ring.{received}
use Rattle.snap_plain.specs.Ahead.{IsAhead}
use Rattle.snap_plain.proofs.SharingFacts.{none_out, one_out}
use Rattle.snap_plain.proofs.rings.receive_from.Goals as goal

pub each-init : goal.each-init
each-init g c = record {
  ahead = c.requires;
  count = omega (arith, c.slots-known.ensures.value);
  taken = none_out _ _ c.args.waiting.now.items c.slots-known.ensures.looked.1;
}

pub each-preserved : goal.each-preserved
each-preserved g c =
    let lines = g.T.Text.lines in
    let part = c.pop_known.result in
    let popped = c.pop_known.ensures in
    let pushed : c.push.new.self.items ≡ c.each.waiting.items ++ part ∷ [] = search rules in
    record {
      ahead = subst (All (IsAhead lines)) (sym pushed) (All-push (IsAhead lines) c.each.waiting.items part c.each.invariant.ahead popped.allowed);
      count = omega (arith, c.each.invariant.count, ap length popped.received.1);
      taken = one_out _ _ _ _ _ _ part c.each.invariant.taken popped.received.0 pushed;
    }

pub returns-clause-emptied : goal.returns-clause-emptied
returns-clause-emptied g c = nil_from_length _ (omega (arith, c.each.invariant.count, c.each-test.false))
