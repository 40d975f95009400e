use Rattle.std.proofs.Common.{◌≡◌, ◌+◌, suc, [], ◌∷◌, ◌++◌, Option, IfSome, IfNone, length, vec_items, vec_len, rules, arith, sym, ap, ◌∙◌, subst}
use Rattle.snap_board.specs.declared.board.Desk.{Desk}
use Rattle.snap_record.specs.declared.worker.Recorder.{Recorder}
use Rattle.snap_board.specs.Desks.{account, accounts, IsDeskOf}
use Rattle.snap_account.specs.Plays.{only_first, but_first}
use Rattle.snap_record.specs.Relays.{SenderView, AreNew}
use Rattle.snap_account.specs.Rule.{newcomers}
use Rattle.snap_record.specs.inside.Workers.{AreUnused}
use Rattle.snap_record.proofs.Running.{unused_push, new_front, none_new, new_desk}
use Rattle.snap_record.proofs.recorder.workers_of.Goals as goal

pub unreachable-requires : goal.unreachable-requires
unreachable-requires c =
    let long : vec_len c.places.senders ≡ vec_len c.pop.new.self + 1 = search rules in
    let next : vec_len c.places.senders ≡ suc (vec_len c.pop.new.self) = omega (arith, long) in
    let none : accounts c.places.gathered ≡ [] = subst (λ (o : Option Desk). IfNone o (accounts c.places.gathered ≡ [])) c.in_default-2.is c.in_ok-desk.ensures.empty in
    none_new (vec_len c.pop.new.self) (sym none ∙ c.places.invariant.rest ∙ ap newcomers next)

pub places-preserved : goal.places-preserved
places-preserved c =
    let i = c.places.invariant in let e = c.in_ok-desk.ensures in
    let d = c.in-Some-2.desk in let s = c.in-Some.sender in
    let m = vec_len c.pop.new.self in
    let is : vec_items c.places.senders ≡ vec_items c.pop.new.self ++ s ∷ [] = search rules in
    let long : vec_len c.places.senders ≡ m + 1 = search rules in
    let next : vec_len c.places.senders ≡ suc m = omega (arith, long) in
    let size : length (vec_items c.places.all) ≡ vec_len c.places.all = search rules in
    let pushed : vec_items c.push.new.self ≡ vec_items c.places.all ++ record { desk = d; sender = s } ∷ [] = search rules in
    let longer : vec_len c.push.new.self ≡ vec_len c.places.all + 1 = search rules in
    let rest = i.rest ∙ ap newcomers next in
    let out : account d ∷ [] ≡ only_first (accounts c.places.gathered) = subst (λ (o : Option Desk). IfSome o (λ x. account x ∷ [] ≡ only_first (accounts c.places.gathered))) c.in-Some-2.is e.account in
    let of_board : IsDeskOf c.args.recorder.now.board d = subst (λ (o : Option Desk). IfSome o (λ x. IsDeskOf c.args.recorder.now.board x)) c.in-Some-2.is e.desk in
    let others : accounts c.take.new.gathered ≡ but_first (accounts c.places.gathered) = subst (λ (o : Option Desk). IfSome o (λ x. accounts c.take.new.gathered ≡ but_first (accounts c.places.gathered))) c.in-Some-2.is e.others in
    let desk = new_desk d m (accounts c.places.gathered) rest out in
    let front = new_front c.args.recorder.now.relay.queue m (vec_items c.places.senders) (vec_items c.pop.new.self) s (subst (λ n. AreNew c.args.recorder.now.relay.queue n (vec_items c.places.senders)) next i.senders) is in
    let recorder : Recorder = c.args.recorder.now in
    let place = ap (λ (x : SenderView). x.place) front.1 in
    record {
      of_board = e.gathered;
      rest = others ∙ ap but_first rest;
      senders = front.0;
      count = omega (arith, i.count, long, longer);
      unused = subst (AreUnused recorder (length (vec_items c.args.senders))) (sym pushed) (unused_push recorder (length (vec_items c.args.senders)) (vec_items c.places.all) (record { desk = d; sender = s }) i.unused
          (of_board, ap (λ (x : SenderView). x.queue) front.1, place ∙ sym desk.0) (desk.1, desk.2, desk.3, desk.4, ap (λ (x : SenderView). x.sent) front.1, desk.5) (omega (arith, desk.0, size, i.count, long)));
    }
