use Rattle.std.proofs.Common.{◌∙◌, ◌≡◌, ◌∷◌, [], ◌++◌, Some, ap, arith, rules, vec_items, vec_len}
use Rattle.std.proofs.lemmas.List.Elements.{All-pop}
use Rattle.snap_record.specs.declared.delivery.Role.TheVariants.{Sends}
use Rattle.snap_record.specs.Relays.{SenderView}
use Rattle.snap_record.proofs.Delivering.{merges_as}
use Rattle.snap_record.proofs.Finishing.{one_more, none_left}
use Rattle.snap_record.proofs.relay.take_in.Goals as goal

pub absorb-requires-clause-rule : goal.absorb-requires-clause-rule
absorb-requires-clause-rule c = merges_as _ _ _ _ _ _ _ _ _ c.each.invariant.took.role c.sender.invariant.role

pub each-preserved : goal.each-preserved
each-preserved c =
    let is : vec_items c.each.senders ≡ vec_items c.pop.new.self ++ c.in-Some.sender ∷ [] = search rules in
    let sends : c.sender.inside.pass.me.view.client ≡ Sends c.in-Some.sender.place c.in-Some.sender.sent = c.sender.invariant.role ∙ ap (λ (v : SenderView). Sends v.place v.sent) c.sender.view_is in
    record {
      of_queue = c.absorb.ensures.queue.0;
      left = (All-pop (λ s. s.queue ≡ c.args.queue.now) _ _ (Some c.in-Some.sender) is c.each.invariant.left).0;
      took = one_more _ _ _ _ c.in-Some.sender _ _ _ c.each.invariant.took is sends c.absorb.ensures.rule;
    }

pub returns : goal.returns
returns c = let none : vec_len c.each.senders ≡ 0 = search rules in (c.each.invariant.of_queue, none_left _ _ _ _ (omega (arith, none)) c.each.invariant.took)
