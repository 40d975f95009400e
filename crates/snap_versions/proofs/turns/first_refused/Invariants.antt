use Rattle.std.proofs.Common.{take}
use Rattle.snap_versions.proofs.TurnLoop.{HasRoom, Keeps}
use Rattle.snap_versions.proofs.turns.first_refused.Given as goal

abbrev pub invariant-loop-i : goal.invariant-loop-i
invariant-loop-i l = record {
  keeps : Keeps l.begun.items l.versions (take l.i l.events);
  room : HasRoom l.begun.items l.events;
}
