use Rattle.std.proofs.Common.{◌≡◌, ◌+◌, ◌*◌, ◌/◌, ◌≤◌, drop}
use Rattle.snap_record.specs.Plans.{lists_of, steps_in}
use Rattle.snap_record.proofs.plan.are_short.Given as goal

abbrev pub invariant-scripts : goal.invariant-scripts
invariant-scripts l = record {
  few : 2 * l.room ≤ l.fn.limit.events;
  rest : steps_in (lists_of l.scripts) + l.room ≡ l.fn.limit.events / 2 + steps_in (lists_of (drop l.k l.scripts));
}
