use Rattle.std.proofs.Common.{ℕ, ◌≤◌, ◌<◌}
use Rattle.snap_grid.specs.Columns.{number}
use Rattle.snap_grid.proofs.sweep.rises.Given as goal

abbrev pub invariant-loop-i : goal.invariant-loop-i
invariant-loop-i l = (a b : ℕ) → a ≤ b → b < l.i → number l.numbers a ≤ number l.numbers b
