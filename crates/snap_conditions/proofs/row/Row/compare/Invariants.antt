use Rattle.std.proofs.Common.{ℕ}
use Rattle.snap_views.proofs.Compared.{IsCompared}
use Rattle.snap_conditions.proofs.row.Row.compare.Given as goal

abbrev pub invariant-loop-entry : goal.invariant-loop-entry
invariant-loop-entry l = (edge : ℕ) × IsCompared l.self l.other l.entry-index edge l.lesser l.sum
