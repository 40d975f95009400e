-- The laws on a cut at a quiet moment, put together.
use Rattle.std.proofs.Common.{◌≡◌, ◌↔◌, ◌+◌, List, ◌++◌, map, length, sym, ◌∙◌, subst, arith}
use Rattle.snap_core.specs.declared.event.Event.{Event}
use Rattle.snap_core.specs.Calls.{calls_of}
use Rattle.snap_core.specs.Monotone.{IsMonotone}
use Rattle.snap_core.specs.Bounded.{IsHistoryBy}
use Rattle.snap_core.specs.declared.writers.Writers.{Writers}
use Rattle.snap_core.specs.declared.writers.Writers.TheVariants.{One, Many}
use Rattle.snap_core.specs.Regular.{IsRegular}
use Rattle.snap_core.proofs.Begun.{begins}
use Rattle.snap_core.proofs.Facts.{AreCalls}
use Rattle.snap_core.proofs.Histories.{are_calls}
use Rattle.snap_core.proofs.OrderedPushes.{is_ordered_by}
use Rattle.snap_theory.specs.Versions.{IsAtomicBy}
use Rattle.snap_theory.specs.Windows.{IsQuiet, left_by, IsRegularFrom, IsAtomicFromBy}
use Rattle.snap_theory.specs.WindowLaws.{RegularJoins, MonotoneJoins, AtomicJoins}
use Rattle.snap_theory.proofs.Cuts.{IsCut, regular_sides, regular_whole, monotone_sides, monotone_whole}
use Rattle.snap_theory.proofs.Orders.{atomic_sides, atomic_whole, in_order_sides, in_order_whole}
use Rattle.snap_theory.proofs.Splits.{back_of, calls_split, calls_from_same, cut}
use Rattle.snap_theory.proofs.Moved.{moved, calls_from-moved, regular_moved, regular_unmoved, monotone_moved, monotone_unmoved, atomic_moved, atomic_unmoved}

-- the calls after the moment are those of the later events, moved
pub back_moved : (before after : List Event) → back_of before after ≡ map (moved (begins before) (length before)) (calls_of after)
unfolding calls_of
back_moved before after =
    calls_from_same (0 + begins before) (begins before + 0) (0 + length before) (length before + 0) after (omega arith) (omega arith)
    ∙ calls_from-moved (begins before) (length before) 0 0 after

pub cut_by : (writers : Writers) (before after : List Event) → IsHistoryBy writers (before ++ after) → IsQuiet before → IsCut (calls_of before) (back_of before after)
cut_by writers before after h = cut before after (is_ordered_by writers (before ++ after) h)

pub regular_joins : RegularJoins
regular_joins writers before after h quiet = (
  λ r. let s = regular_sides (calls_of before) (back_of before after) (cut_by writers before after h quiet) (subst IsRegular (calls_split before after quiet) r) in
      (s.0, regular_unmoved (begins before) (length before) (left_by before) (calls_of after) (subst (IsRegularFrom (left_by before)) (back_moved before after) s.1)),
  λ s. subst IsRegular (sym (calls_split before after quiet)) (regular_whole (calls_of before) (back_of before after) (cut_by writers before after h quiet)
      (s.0, subst (IsRegularFrom (left_by before)) (sym (back_moved before after)) (regular_moved (begins before) (length before) (left_by before) (calls_of after) s.1))),
)

pub monotone_joins : MonotoneJoins
monotone_joins writers before after h quiet r = (
  λ m. let s = monotone_sides (calls_of before) (back_of before after) (subst IsMonotone (calls_split before after quiet) m) in
      (s.0, monotone_unmoved (begins before) (length before) (calls_of after) (subst IsMonotone (back_moved before after) s.1)),
  λ s. subst IsMonotone (sym (calls_split before after quiet)) (monotone_whole (calls_of before) (back_of before after) (cut_by writers before after h quiet) (subst IsRegular (calls_split before after quiet) r)
      (s.0, subst IsMonotone (sym (back_moved before after)) (monotone_moved (begins before) (length before) (calls_of after) s.1))),
)

-- the calls of both sides, as those of the back stand in the whole
sides_by : (writers : Writers) (before after : List Event) → IsHistoryBy writers (before ++ after) → IsQuiet before → IsAtomicBy writers (calls_of before ++ back_of before after) ↔ (IsAtomicBy writers (calls_of before) × IsAtomicFromBy writers (left_by before) (back_of before after))
sides_by One before after h quiet =
    let f = subst AreCalls (calls_split before after quiet) (are_calls (before ++ after) h) in
    let x = cut_by One before after h quiet in
    (atomic_sides (calls_of before) (back_of before after) f x, atomic_whole (calls_of before) (back_of before after) f x)
sides_by Many before after h quiet =
    let x = cut_by Many before after h quiet in
    (in_order_sides (calls_of before) (back_of before after) x, in_order_whole (calls_of before) (back_of before after) x)

pub atomic_joins : AtomicJoins
atomic_joins writers before after h quiet = (
  λ a. let s = (sides_by writers before after h quiet).0 (subst (IsAtomicBy writers) (calls_split before after quiet) a) in
      (s.0, atomic_unmoved writers (begins before) (length before) after (left_by before) (subst (IsAtomicFromBy writers (left_by before)) (back_moved before after) s.1)),
  λ s. subst (IsAtomicBy writers) (sym (calls_split before after quiet)) ((sides_by writers before after h quiet).1
      (s.0, subst (IsAtomicFromBy writers (left_by before)) (sym (back_moved before after)) (atomic_moved writers (begins before) (length before) after (left_by before) s.1))),
)
