use Rattle.std.proofs.Common.{◌≡◌, ◌<◌, ◌+◌, ◌*◌, ◌||◌, ℕ, take}
use Rattle.std.specs.Prelude.{true, false}
use Rattle.snap_grid.specs.Columns.{any_passes}
use Rattle.snap_grid.specs.inside.Facing.{AreFacing, AreFar, AreTabled, any_faces}
use Rattle.snap_grid.proofs.block.Block.against.Given as goal

abbrev pub invariant-loop-j : goal.invariant-loop-j
invariant-loop-j l = record {
  tabled : AreTabled l.near.items;
  ranked : AreFar l.far.items;
  near : AreFacing l.near.items l.self.count l.count;
  far : AreFacing l.far.items l.self.count l.count;
  more : l.more ≡ false → (a i : ℕ) → a < l.self.count → i < l.count → (any_faces true l.near.items a i || any_faces true l.far.items a i) ≡ any_passes true (take l.j l.self.columns.now) (l.self.from + a) (l.block * 512 + i);
  less : l.less ≡ false → (a i : ℕ) → a < l.self.count → i < l.count → (any_faces false l.near.items a i || any_faces false l.far.items a i) ≡ any_passes false (take l.j l.self.columns.now) (l.self.from + a) (l.block * 512 + i);
}
