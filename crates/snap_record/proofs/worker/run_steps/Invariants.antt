use Rattle.std.proofs.Common.{◌≡◌, ◌-◌, ◌≤◌, true, take, drop, length}
use Rattle.snap_record.specs.Choices.{views_in}
use Rattle.snap_board.specs.Desks.{records, ticks, lost, collects}
use Rattle.snap_record.specs.Plans.{draws_within}
use Rattle.snap_record.specs.Scripts.{AreCallsOf}
use Rattle.snap_record.specs.inside.Scripts.{DidSome}
use Rattle.snap_record.specs.inside.Workers.{IsWorkerOf}
use Rattle.snap_record.proofs.worker.run_steps.Given as goal

abbrev pub invariant-steps : goal.invariant-steps
invariant-steps g l = record {
  of_recorder : IsWorkerOf l.recorder l.worker;
  same : l.worker.desk.desk ≡ l.initial.worker.desk.desk;
  few : ticks l.worker.desk ≤ l.recorder.board.limit;
  room : draws_within (l.recorder.board.limit - ticks l.worker.desk) (drop l.turn l.script) ≡ true;
  sent : records l.worker.desk ≡ l.worker.sender.sent;
  script : DidSome l.initial.worker.desk.desk (take l.turn l.script) l.worker.sender.sent (lost l.worker.desk);
  count : l.interfered ≡ length (lost l.worker.desk);
  most : l.interfered ≤ l.turn;
  views : collects l.worker.desk ≡ views_in (take l.turn l.script);
  calls : AreCallsOf (take l.turn l.script) l.worker.desk.calls;
}
