use Rattle.std.proofs.Common.{◌≡◌, ◌<◌, ◌*◌, ◌-◌, ◌+◌, ℕ, List, length, get_or}
use Rattle.std.specs.Prelude.{min}
use Rattle.snap_grid.specs.declared.kind.Kind.{Kind}
use Rattle.snap_grid.specs.inside.Kinds.{AreKinds}
use Rattle.snap_grid.proofs.grid.Grid.new.Given as goal

abbrev pub invariant-loop-start : goal.invariant-loop-start
invariant-loop-start l = record {
  at : l.start ≡ length l.kinds.items * 512;
  each : (block : ℕ) (some : List Kind) → block < length l.kinds.items → AreKinds l.columns.items (block * 512) (min 512 (length l.ends.items - block * 512)) (get_or l.kinds.items block some);
}

abbrev pub decreases-loop-start : goal.decreases-loop-start
decreases-loop-start l = length l.ends.items + 512 - l.start
