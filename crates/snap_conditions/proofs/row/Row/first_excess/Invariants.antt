use Rattle.std.proofs.Common.{◌≤◌, ◌<◌, ℕ}
use Rattle.snap_views.specs.Rows.{number_among, row_number}
use Rattle.snap_conditions.proofs.row.Row.first_excess.Given as goal

-- the view shows no more of the components so far
abbrev pub invariant-loop-k : goal.invariant-loop-k
invariant-loop-k l = (j : ℕ) → j < l.k → row_number l.self j ≤ number_among l.other j
