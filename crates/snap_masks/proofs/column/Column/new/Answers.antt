use Rattle.std.proofs.Common.{◌<◌, ◌*◌, ℕ, List, length, get_or, subst}
use Rattle.snap_masks.specs.declared.bounds.Bounds.{Bounds}
use Rattle.snap_masks.specs.Numbers.{IsOrderedAs}
use Rattle.snap_masks.specs.Numbers.{IsBounded}
use Rattle.snap_masks.proofs.column.Column.new.Goals as goal

pub invariant_of-result : goal.invariant_of-result
invariant_of-result c =
    let bounds = c.in_ok-bounds.bounds.items in
    record {
      few = c.requires.few;
      blocks = subst (λ (z : List ℕ). (block : ℕ) → block * 512 < length z → block < length bounds) c.deref.ensures.value c.in_ok-bounds.ensures.blocks;
      bounded = subst (λ (z : List ℕ). (block : ℕ) (b : Bounds) → block * 512 < length z → IsBounded z block (get_or bounds block b)) c.deref.ensures.value c.in_ok-bounds.ensures.bounded;
      small = c.requires.limit;
      ranked = subst (λ (z : List ℕ). 0 < length c.in_ok-ranks.ranks.items → IsOrderedAs z c.in_ok-ranks.ranks.items) c.deref-2.ensures.value c.in_ok-ranks.ensures;
    }
