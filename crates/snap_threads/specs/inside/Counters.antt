-- What always holds of the fields of a counter and of a claim.
use Rattle.std.specs.Prelude.{◌≡◌, [], ◌∷◌}
use Rattle.snap_core.specs.Sums.{one_if}
use Rattle.snap_threads.specs.inside.Draws.{past}
use Rattle.snap_threads.specs.Draws.{first_of}
use Rattle.snap_threads.specs.declared.claims.Claim.TheInside as claim
use Rattle.snap_threads.specs.declared.claims.Claims.TheInside as claims

pub record IsCounter (c : claims.Inside) : Type 0 where
  pub one_word : c.table.shared.table_id.words ≡ 1
  pub no_slots : c.table.shared.table_id.slots ≡ 0
  pub keyed : c.table.shared.key ≡ c.cutting

pub record IsClaim (c : claim.Inside) : Type 0 where
  -- the seat has the list of this claim alone
  pub alone : c.seat.me ≡ (first_of c.seat.me.0 ∷ [], [])
  pub ended : past c.cutting.pieces (first_of c.seat.me.0) ≡ one_if c.finished
