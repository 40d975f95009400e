use Rattle.std.proofs.Common.{◌≡◌, ◌<◌, ℕ, length, take, get_or}
use Rattle.snap_views.specs.Rows.{number_among}
use Rattle.snap_conditions.proofs.row.numbers_of.Given as goal

abbrev pub invariant-loop-entry : goal.invariant-loop-entry
invariant-loop-entry l = (length l.numbers ≡ 256) × ((k : ℕ) → k < 256 → get_or l.numbers k 0 ≡ number_among (take l.entry-index l.entries) k)
