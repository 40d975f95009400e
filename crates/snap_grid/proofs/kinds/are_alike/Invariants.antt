use Rattle.std.proofs.Common.{◌≡◌, ◌<◌, ℕ, [], get_or}
use Rattle.snap_grid.specs.Columns.{number}
use Rattle.snap_grid.proofs.kinds.are_alike.Given as goal

abbrev pub invariant-loop-j : goal.invariant-loop-j
invariant-loop-j l = (j : ℕ) → j < l.j → number (get_or l.columns j []) l.a ≡ number (get_or l.columns j []) l.b
