use Rattle.snap_record.specs.inside.Workers.{IsTakenOf}
use Rattle.snap_record.proofs.taking.take_until.Given as goal

abbrev pub invariant-turns : goal.invariant-turns
invariant-turns g l = record {
  can : (goal.iterator-turns g).can_next l.iterator';
  finite : (goal.iterator-turns g).is_finite l.iterator';
  taken : IsTakenOf l.relay l.taken;
}
