use Rattle.std.proofs.Common.{◌≡◌, ◌<◌, ◌≤◌, ℕ, false}
use Rattle.snap_grid.specs.Columns.{clashes}
use Rattle.snap_grid.proofs.grid.Grid.first_clash_among.Given as goal

abbrev pub invariant-loop-other : goal.invariant-loop-other
invariant-loop-other l = (b : ℕ) → l.first ≤ b → b < l.other → clashes l.self l.row b ≡ false
