use Rattle.std.proofs.Common.{◌≡◌, ℕ, ◌+◌, ◌-◌, ◌∷◌, [], ◌++◌, List, length, drop, get_or, refl, sym, ap, ◌∙◌, subst, arith, MatchOption, IfSome, IfNone, Option, length-append}
use Rattle.std.proofs.lemmas.List.{take_all}
use Rattle.snap_record.specs.declared.plan.Step.{Step}
use Rattle.snap_record.specs.declared.plan.Step.TheVariants.{Store, View, Scan}
use Rattle.snap_board.specs.declared.record.Record.{Record}
use Rattle.snap_record.specs.Choices.{IsScan, tries_of, one_view, views_in}
use Rattle.snap_board.specs.Desks.{records, ticks, lost}
use Rattle.snap_record.specs.Plans.{step_ticks}
use Rattle.snap_record.specs.Relays.{SenderView}
use Rattle.snap_record.specs.Scripts.{AreCallsOf}
use Rattle.snap_record.specs.inside.Scripts.{IsStepOf, DidSome}
use Rattle.snap_record.proofs.Scripting.{did_push, did_leave, calls_push, views-more, has_room, draws_more}
use Rattle.snap_record.proofs.worker.run_steps.Goals as goal

one_scan : (s : Step) → IsScan s → length (tries_of s) ≡ 1
one_scan (Store v) h = absurd h
one_scan View h = absurd h
one_scan (Scan t) h = refl

pub run_step-requires-clause-tries : goal.run_step-requires-clause-tries
run_step-requires-clause-tries g c =
    let i = c.steps.invariant in
    (has_room (c.args.recorder.now.board.limit - ticks c.steps.worker.desk) c.args.script.now c.steps.turn (Store 0) c.steps-test.true i.room).tries

pub run_step-requires-clause-room : goal.run_step-requires-clause-room
run_step-requires-clause-room g c =
    let i = c.steps.invariant in
    let r = (has_room (c.args.recorder.now.board.limit - ticks c.steps.worker.desk) c.args.script.now c.steps.turn (Store 0) c.steps-test.true i.room).ticks in omega (arith, i.few)

pub overflow_add-interfered : goal.overflow_add-interfered
overflow_add-interfered g c = omega (arith, c.steps.invariant.most, c.steps-test.true, c.requires.short)

pub steps-preserved : goal.steps-preserved
steps-preserved g c =
    let i = c.steps.invariant in let e = c.in_ok-made.ensures in
    let script = c.args.script.now in let k = c.steps.turn in
    let made = c.in-Some.made in let is = c.in-Some.is in
    let recorded : records c.run_step.new.desk ≡ records c.steps.worker.desk ++ made ∷ [] = subst (λ (o : Option Record). MatchOption o (records c.run_step.new.desk ≡ records c.steps.worker.desk) (λ r. records c.run_step.new.desk ≡ records c.steps.worker.desk ++ r ∷ [])) is e.recorded in
    let same_lost : lost c.run_step.new.desk ≡ lost c.steps.worker.desk = subst (λ (o : Option Record). MatchOption o (lost c.run_step.new.desk ≡ lost c.steps.worker.desk ++ tries_of (get_or script k (Store 0))) (λ r. lost c.run_step.new.desk ≡ lost c.steps.worker.desk)) is e.lost in
    let step : IsStepOf c.steps.worker.desk.desk (get_or script k (Store 0)) made = subst (λ (o : Option Record). IfSome o (IsStepOf c.steps.worker.desk.desk (get_or script k (Store 0)))) is e.step in
    let r = has_room (c.args.recorder.now.board.limit - ticks c.steps.worker.desk) script k (Store 0) c.steps-test.true i.room in
    let few = r.ticks in
    let sent = ap (λ (s : SenderView). s.sent) c.in-Ok.ensures in
    record {
      of_recorder = (e.desk.0, ap (λ (s : SenderView). s.queue) c.in-Ok.ensures ∙ i.of_recorder.1, ap (λ (s : SenderView). s.place) c.in-Ok.ensures ∙ i.of_recorder.2 ∙ sym e.desk.1);
      same = e.desk.1 ∙ i.same;
      few = omega (arith, e.ticks, i.few);
      room = draws_more (c.args.recorder.now.board.limit - ticks c.steps.worker.desk - step_ticks (get_or script k (Store 0))) (c.args.recorder.now.board.limit - ticks c.run_step.new.desk) (drop (k + 1) script) (omega (arith, e.ticks, i.few)) r.later;
      sent = recorded ∙ ap (λ rs. rs ++ made ∷ []) i.sent ∙ sym sent;
      script = did_push c.args.worker.now.desk.desk script k (Store 0) c.steps.worker.sender.sent c.send.new.sender.sent made (lost c.steps.worker.desk) (lost c.run_step.new.desk) c.steps-test.true sent same_lost i.script
          (subst (λ (d : ℕ). IsStepOf d (get_or script k (Store 0)) made) i.same step);
      count = i.count ∙ ap length (sym same_lost);
      most = omega (arith, i.most);
      views = e.views ∙ ap (λ z. z + one_view (get_or script k (Store 0))) i.views ∙ sym (views-more script k (Store 0) c.steps-test.true);
      calls = calls_push script k (Store 0) c.steps.worker.desk c.run_step.new.desk c.steps-test.true i.calls e.call;
    }

pub steps-preserved-in_default : goal.steps-preserved-in_default
steps-preserved-in_default g c =
    let i = c.steps.invariant in let e = c.in_ok-made.ensures in
    let script = c.args.script.now in let k = c.steps.turn in
    let is = c.in_default.is in
    let recorded : records c.run_step.new.desk ≡ records c.steps.worker.desk = subst (λ (o : Option Record). MatchOption o (records c.run_step.new.desk ≡ records c.steps.worker.desk) (λ r. records c.run_step.new.desk ≡ records c.steps.worker.desk ++ r ∷ [])) is e.recorded in
    let more_lost : lost c.run_step.new.desk ≡ lost c.steps.worker.desk ++ tries_of (get_or script k (Store 0)) = subst (λ (o : Option Record). MatchOption o (lost c.run_step.new.desk ≡ lost c.steps.worker.desk ++ tries_of (get_or script k (Store 0))) (λ r. lost c.run_step.new.desk ≡ lost c.steps.worker.desk)) is e.lost in
    let scan : IsScan (get_or script k (Store 0)) = subst (λ (o : Option Record). IfNone o (IsScan (get_or script k (Store 0)))) is e.scan in
    let r = has_room (c.args.recorder.now.board.limit - ticks c.steps.worker.desk) script k (Store 0) c.steps-test.true i.room in
    let few = r.ticks in
    record {
      of_recorder = (e.desk.0, i.of_recorder.1, i.of_recorder.2 ∙ sym e.desk.1);
      same = e.desk.1 ∙ i.same;
      few = omega (arith, e.ticks, i.few);
      room = draws_more (c.args.recorder.now.board.limit - ticks c.steps.worker.desk - step_ticks (get_or script k (Store 0))) (c.args.recorder.now.board.limit - ticks c.run_step.new.desk) (drop (k + 1) script) (omega (arith, e.ticks, i.few)) r.later;
      sent = recorded ∙ i.sent;
      script = did_leave c.args.worker.now.desk.desk script k (Store 0) c.steps.worker.sender.sent (lost c.steps.worker.desk) (lost c.run_step.new.desk) c.steps-test.true more_lost i.script scan;
      count = (let a = ap length more_lost in let b = length-append (lost c.steps.worker.desk) (tries_of (get_or script k (Store 0))) in let o = one_scan (get_or script k (Store 0)) scan in omega (arith, i.count));
      most = omega (arith, i.most);
      views = e.views ∙ ap (λ z. z + one_view (get_or script k (Store 0))) i.views ∙ sym (views-more script k (Store 0) c.steps-test.true);
      calls = calls_push script k (Store 0) c.steps.worker.desk c.run_step.new.desk c.steps-test.true i.calls e.call;
    }

pub returns-clause-script : goal.returns-clause-script
returns-clause-script g c = let i = c.steps.invariant in
    subst (λ (l : List Step). DidSome c.args.worker.now.desk.desk l c.steps.worker.sender.sent (lost c.steps.worker.desk)) (take_all c.steps.turn c.args.script.now (omega (arith, c.steps-test.false))) i.script

pub returns-clause-views : goal.returns-clause-views
returns-clause-views g c = let i = c.steps.invariant in i.views ∙ ap views_in (take_all c.steps.turn c.args.script.now (omega (arith, c.steps-test.false)))

pub returns-clause-calls : goal.returns-clause-calls
returns-clause-calls g c = let i = c.steps.invariant in
    subst (λ (l : List Step). AreCallsOf l c.steps.worker.desk.calls) (take_all c.steps.turn c.args.script.now (omega (arith, c.steps-test.false))) i.calls
