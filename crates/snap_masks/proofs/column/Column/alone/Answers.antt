use Rattle.std.proofs.Common.{◌<◌, ◌*◌, ℕ, List, length, get_or, ap, subst, arith}
use Rattle.snap_masks.specs.declared.bounds.Bounds.{Bounds}
use Rattle.snap_masks.specs.Numbers.{IsBounded}
use Rattle.snap_masks.proofs.column.Column.alone.Goals as goal

pub invariant_of-result : goal.invariant_of-result
invariant_of-result c =
    let bounds = c.in_ok-bounds.bounds.items in
    record {
      few = c.requires.few;
      blocks = subst (λ (z : List ℕ). (block : ℕ) → block * 512 < length z → block < length bounds) c.deref.ensures.value c.in_ok-bounds.ensures.blocks;
      bounded = subst (λ (z : List ℕ). (block : ℕ) (b : Bounds) → block * 512 < length z → IsBounded z block (get_or bounds block b)) c.deref.ensures.value c.in_ok-bounds.ensures.bounded;
      small = omega arith;
      ranked = λ l. absurd (omega (arith, l, ap (λ (z : List ℕ). length z) c.new.ensures.items));
    }
