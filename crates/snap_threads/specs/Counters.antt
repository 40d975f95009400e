-- What contracts see of a counter and of a claim.
use Rattle.snap_threads.specs.Claiming.{ClaimView, CounterView}
use Rattle.snap_threads.specs.Draws.{first_of}
use Rattle.snap_threads.specs.declared.claims.Claim.TheInside as claim
use Rattle.snap_threads.specs.declared.claims.Claims.TheInside as claims

abbrev pub counter_view : claims.Inside → CounterView
counter_view c = record { table = c.table.shared.table_id; pieces = c.cutting.pieces; workers = c.cutting.workers }

abbrev pub claim_view : claim.Inside → ClaimView
claim_view c = record { table = c.seat.table_id; pieces = c.cutting.pieces; worker = c.worker; drawn = first_of c.seat.me.0 }
