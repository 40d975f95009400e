use Rattle.std.proofs.Common.{◌≡◌, ◌+◌, [], ◌∷◌, ◌++◌, All, List, get_or, length, vec_items, vec_len, rules, arith, sym, ◌∙◌, subst}
use Rattle.std.proofs.lemmas.List.Elements.{All-push}
use Rattle.std.proofs.lemmas.Result.{IfOk-at_ok}
use Rattle.snap_account.specs.declared.account.Account.{Account}
use Rattle.snap_record.specs.declared.worker.Recorder.{Recorder}
use Rattle.snap_board.specs.Desks.{account, accounts, lost, IsDeskOf, IsGatheredOf}
use Rattle.snap_board.specs.Boards.{BoardView}
use Rattle.snap_board.specs.Fields.{board_view}
use Rattle.snap_record.specs.Relays.{SenderView, IsSenderOf}
use Rattle.snap_board.specs.declared.record.Record.{Record}
use Rattle.snap_record.specs.inside.Scripts.{DidSome}
use Rattle.snap_record.specs.inside.Workers.{HaveDone}
use Rattle.snap_record.proofs.ByDesk.{insert_high}
use Rattle.snap_record.proofs.Running.{run_last, run_front, one_done, few_left}
use Rattle.snap_record.proofs.recorder.close_all.Goals as goal

pub overflow_add-interfered : goal.overflow_add-interfered
overflow_add-interfered c =
    let i = c.each.invariant in let ran = c.in-Some.ran in let scripts = c.args.plan.now.scripts in
    let recorder : Recorder = record { board = board_view c.board.inside; relay = c.args.recorder.relay } in
    let is : vec_items c.each.rans ≡ vec_items c.pop.new.self ++ ran ∷ [] = search rules in
    let shorter : vec_len c.each.rans ≡ length (vec_items c.pop.new.self) + 1 = search rules in
    let size : length (vec_items c.each.senders) ≡ vec_len c.each.senders = search rules in
    let last = run_last recorder scripts (vec_items c.each.rans) (vec_items c.pop.new.self) ran i.ran is in
    let script = IfOk-at_ok _ c.in_ok-interfered.was last.0.script in
    let count = IfOk-at_ok _ c.in_ok-interfered.was last.0.count in
    let few = few_left scripts (accounts c.each.gathered) (vec_items c.each.senders) c.each.interfered ran.worker.sender.sent (lost ran.worker.desk) ran.worker.desk.desk i.done
    (omega (arith, last.1, i.count, shorter, size)) (omega (arith, last.1)) script in
    omega (arith, few, count, c.requires.short)

pub give_back-gathered-requires-clause-desk : goal.give_back-gathered-requires-clause-desk
give_back-gathered-requires-clause-desk c =
    let recorder : Recorder = record { board = board_view c.board.inside; relay = c.args.recorder.relay } in
    let is : vec_items c.each.rans ≡ vec_items c.pop.new.self ++ c.in-Some.ran ∷ [] = search rules in
    subst (λ (b : BoardView). IsDeskOf b c.in-Some.ran.worker.desk) c.board.view_is (run_last recorder c.args.plan.now.scripts (vec_items c.each.rans) (vec_items c.pop.new.self) c.in-Some.ran c.each.invariant.ran is).0.worker.0

pub each-preserved : goal.each-preserved
each-preserved c =
    let i = c.each.invariant in let ran = c.in-Some.ran in let scripts = c.args.plan.now.scripts in
    let recorder : Recorder = record { board = board_view c.board.inside; relay = c.args.recorder.relay } in
    let d = ran.worker.desk in let s = ran.worker.sender in
    let is : vec_items c.each.rans ≡ vec_items c.pop.new.self ++ ran ∷ [] = search rules in
    let shorter : vec_len c.each.rans ≡ vec_len c.pop.new.self + 1 = search rules in
    let rest : length (vec_items c.pop.new.self) ≡ vec_len c.pop.new.self = search rules in
    let size : length (vec_items c.each.senders) ≡ vec_len c.each.senders = search rules in
    let pushed : vec_items c.push.new.self ≡ vec_items c.each.senders ++ s ∷ [] = search rules in
    let longer : vec_len c.push.new.self ≡ vec_len c.each.senders + 1 = search rules in
    let last = run_last recorder scripts (vec_items c.each.rans) (vec_items c.pop.new.self) ran i.ran is in
    let next : d.desk ≡ length (vec_items c.each.senders) = omega (arith, last.1, i.count, shorter, rest, size) in
    let a : Account = account d in
    let g = c.give_back-gathered.ensures in
    let hand : accounts c.give_back-gathered.result ≡ a ∷ accounts c.each.gathered =
    g.account ∙ insert_high (length (vec_items c.each.senders)) a (accounts c.each.gathered) i.done.desks next in
    record {
      of_board = subst (λ (b : BoardView). IsGatheredOf b c.give_back-gathered.result) (sym c.board.view_is) g.same;
      inside = omega (arith, g.held, i.inside, longer);
      count = omega (arith, i.count, shorter, longer);
      ran = run_front recorder scripts (vec_items c.each.rans) (vec_items c.pop.new.self) ran i.ran is;
      of_relay = subst (All (IsSenderOf c.args.recorder.relay)) (sym pushed) (All-push (IsSenderOf c.args.recorder.relay) (vec_items c.each.senders) s i.of_relay last.0.worker.1);
      done = subst (λ (z : List Account × List SenderView). HaveDone scripts z.0 z.1 (c.each.interfered + c.in_ok-interfered.field-0)) (λ k. (sym hand k, sym pushed k))
          (one_done scripts (accounts c.each.gathered) (vec_items c.each.senders) c.each.interfered c.in_ok-interfered.field-0 s a i.done next last.0.worker.2
          (IfOk-at_ok _ c.in_ok-interfered.was last.0.sent)
          (subst (λ (rs : List Record). DidSome d.desk (get_or scripts d.desk []) rs (lost d)) (sym (IfOk-at_ok _ c.in_ok-interfered.was last.0.sent)) (IfOk-at_ok _ c.in_ok-interfered.was last.0.script))
          (IfOk-at_ok _ c.in_ok-interfered.was last.0.views) (IfOk-at_ok _ c.in_ok-interfered.was last.0.calls) (IfOk-at_ok _ c.in_ok-interfered.was last.0.count));
    }
