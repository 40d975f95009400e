-- The laws on renumbered histories, put together.
use Rattle.std.proofs.Common.{◌≡◌, List, ◌++◌, map, length, sym, ap, subst}
use Rattle.std.specs.Prelude.{is_some, true}
use Rattle.std.specs.List.{All}
use Rattle.std.proofs.lemmas.List.Elements.{All-contains}
use Rattle.snap_core.specs.declared.event.Event.{Event}
use Rattle.snap_core.specs.Bounded.{IsHistoryBy}
use Rattle.snap_core.specs.Events.{EventFits}
use Rattle.snap_core.specs.declared.writers.Writers.{Writers}
use Rattle.snap_core.specs.Calls.{Call, calls_of}
use Rattle.snap_core.specs.Monotone.{IsMonotone}
use Rattle.snap_core.specs.Orders.{is_completed}
use Rattle.snap_theory.specs.Versions.{IsAtomicBy}
use Rattle.snap_core.specs.Regular.{IsRegular, IsViewOf}
use Rattle.snap_core.proofs.Lists.{In, Contains-from_In}
use Rattle.snap_core.proofs.Begun.{begins}
use Rattle.snap_core.proofs.Ends.{answered_part}
use Rattle.snap_theory.specs.Windows.{IsQuiet, left_by}
use Rattle.snap_theory.specs.WindowLaws.{RegularRenumbered, MonotoneRenumbered, AtomicRenumbered}
use Rattle.snap_theory.proofs.Empty.{atomic_from_nothing}
use Rattle.snap_theory.proofs.Cuts.{back_more, left_positive}
use Rattle.snap_theory.proofs.Splits.{back_of}
use Rattle.snap_core.proofs.Members.{In-map}
use Rattle.snap_theory.proofs.Moved.{moved}
use Rattle.snap_theory.proofs.Joined.{back_moved, cut_by}
use Rattle.snap_theory.proofs.Renumbered.{call_by, calls_by, image_by, views_rise}
use Rattle.snap_theory.proofs.Fresh.{IsBeginning, regular_renumbered, regular_from_renumbered, monotone_renumbered, monotone_from_renumbered, atomic_renumbered, atomic_from_renumbered}

answered : (after : List Event) (r : Call) → IsViewOf (calls_of after) r → is_completed r ≡ true
unfolding is_completed
answered after r v = let e = answered_part after r v in ap is_some e.ends

beginning : (writers : Writers) (before after : List Event) → IsHistoryBy writers (before ++ after) → All EventFits after → IsQuiet before → IsBeginning (left_by before) (calls_of after)
beginning writers before after h fit quiet = record {
  component = λ k l s. (left_positive (calls_of before) (back_of before after) (cut_by writers before after h quiet) k l s).1;
  positive = λ k l s. (left_positive (calls_of before) (back_of before after) (cut_by writers before after h quiet) k l s).0;
  later = λ c e i w.
      let j = subst (In (moved (begins before) (length before) c)) (sym (back_moved before after)) (In-map (moved (begins before) (length before)) (calls_of after) c i) in
      back_more (calls_of before) (back_of before after) (cut_by writers before after h quiet) (moved (begins before) (length before) c) e (record { there = Contains-from_In _ _ j; writes = w });
  rises = views_rise after (λ x i. All-contains EventFits after x fit (Contains-from_In after x i));
  answered = answered after;
}

pub regular_is_renumbered : RegularRenumbered
regular_is_renumbered writers before after h fit quiet = (
  λ r. let s = regular_renumbered (left_by before) (calls_of after) (beginning writers before after h fit quiet) r in
      (s.0, subst IsRegular (sym (calls_by (left_by before) after)) s.1),
  λ s. regular_from_renumbered (left_by before) (calls_of after) (beginning writers before after h fit quiet)
      (s.0, subst IsRegular (calls_by (left_by before) after) s.1),
)

pub monotone_is_renumbered : MonotoneRenumbered
monotone_is_renumbered writers before after h fit quiet shows = (
  λ m. subst IsMonotone (sym (calls_by (left_by before) after)) (monotone_renumbered (left_by before) (calls_of after) (beginning writers before after h fit quiet) shows m),
  λ m. monotone_from_renumbered (left_by before) (calls_of after) (beginning writers before after h fit quiet) shows (subst IsMonotone (calls_by (left_by before) after) m),
)

pub atomic_is_renumbered : AtomicRenumbered
atomic_is_renumbered writers before after h fit quiet = (
  λ a. let s = atomic_renumbered writers (left_by before) (calls_of after) (beginning writers before after h fit quiet) (image_by (left_by before) after) a in
      (s.0, subst (IsAtomicBy writers) (sym (calls_by (left_by before) after)) ((atomic_from_nothing writers (map (call_by (left_by before)) (calls_of after))).0 s.1)),
  λ s. atomic_from_renumbered writers (left_by before) (calls_of after) (beginning writers before after h fit quiet) (image_by (left_by before) after)
      (s.0, (atomic_from_nothing writers (map (call_by (left_by before)) (calls_of after))).1 (subst (IsAtomicBy writers) (calls_by (left_by before) after) s.1)),
)
