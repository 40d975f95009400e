use Rattle.std.proofs.Common.{◌∙◌, ◌≡◌, ℕ, List, ap}
use Rattle.std.proofs.lemmas.List.Elements.{All-nil}
use Rattle.snap_board.specs.declared.record.Record.{Record}
use Rattle.snap_record.specs.declared.delivery.Role.TheVariants.{Takes}
use Rattle.snap_record.specs.Relays.{TakerView}
use Rattle.snap_record.specs.Ends.{taken_of}
use Rattle.snap_record.specs.inside.Ends.{made_of}
use Rattle.snap_record.proofs.Delivering.{learns_as}
use Rattle.snap_record.proofs.Finishing.{settled}
use Rattle.snap_record.proofs.relay.settle.Goals as goal

pub len_as-requires-clause-rule : goal.len_as-requires-clause-rule
len_as-requires-clause-rule g c = learns_as _ _ _ _ _ c.take_in.ensures.1.role

pub returns : goal.returns
returns g c =
    let held = c.len_as.ensures.rule in
    let took = c.take_in.ensures.1 in
    let old = c.taker.inside.pass.me.view.client in
    let taken : taken_of old ≡ c.args.taker.taken = ap (λ (t : TakerView). t.taken) c.taker.view_is in
    let made : made_of old ≡ c.args.relay.now.workers = ap made_of c.taker.invariant.role ∙ ap (λ (t : TakerView). t.workers) c.taker.view_is ∙ c.requires.taker.1 in
    let role = took.role ∙ ap (λ (t : List Record). Takes t (made_of old) took.ended) taken ∙ ap (λ (m : ℕ). Takes c.args.taker.taken m took.ended) made in
    settled _ _ held.0 _ _ took.ended role (λ sent did. took.known sent did (All-nil (λ s. sent s.place ≡ s.sent))) held.2 c.requires.done.0 c.requires.done.1
