use Rattle.std.proofs.Common.{◌≡◌, ◌-◌, [], map}
use Rattle.std.specs.List.{range_with_len}
use Rattle.snap_threads.specs.Claiming.{new_claim}
use Rattle.snap_threads.specs.inside.Draws.{empties}
use Rattle.snap_threads.proofs.claims.Claims.start.Given as goal

abbrev pub invariant-loop-worker : goal.invariant-loop-worker
invariant-loop-worker l = record {
  at : l.rest.table_id ≡ l.table.shared.table_id;
  left : l.rest.me ≡ (empties (l.cutting.workers - l.worker), []);
  dealt : l.claims.items ≡ map (new_claim (record { table = l.table.shared.table_id; pieces = l.cutting.pieces; workers = l.cutting.workers })) (range_with_len 0 l.worker);
}
