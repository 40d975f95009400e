-- The recording without events.
use Rattle.std.proofs.Common.{◌≡◌, true, List, [], ◌∷◌, ◌++◌, refl, arith}
use Rattle.snap_core.specs.declared.writers.Writers.{Writers}
use Rattle.snap_core.specs.declared.writers.Writers.TheVariants.{One, Many}
use Rattle.snap_core.specs.declared.limit.Limit.{Limit}
use Rattle.snap_core.specs.Limited.{LimitedEvents}
use Rattle.snap_core.specs.Calls.{Call, calls_of}
use Rattle.snap_core.specs.Orders.{IsLegalOrder}
use Rattle.snap_theory.specs.Versions.{IsAtomicBy}
use Rattle.snap_core.specs.Regular.{IsRegular}
use Rattle.snap_core.proofs.Lists.{In-from_Contains}
use Rattle.snap_core.proofs.OrderedPushes.{bounded_nil}
use Rattle.snap_theory.specs.Windows.{IsQuiet}
use Rattle.snap_windows.specs.declared.last.Wrote.{Wrote}
use Rattle.snap_windows.specs.Last.{HasLast}
use Rattle.snap_windows.specs.Taken.{HasTaken}
use Rattle.std.specs.Prelude.{Option}

no_calls_are_regular : IsRegular []
no_calls_are_regular = record {
  not_old = λ r c e v u l. absurd (In-from_Contains [] r v.there);
  not_early = λ r k e v s. absurd (In-from_Contains [] r v.there);
}

nil_split : (before : List Call) (r : Call) (after : List Call) → [] ≡ before ++ r ∷ after → ⊥
nil_split [] r after h = cc
nil_split (b ∷ before) r after h = cc

no_calls_are_legal : IsLegalOrder [] []
no_calls_are_legal = record {
  only = λ k d l. absurd (omega (arith, l));
  distinct = λ i j d l m. absurd (omega (arith, m));
  completed = λ c i d. absurd (In-from_Contains [] c i);
  precedence = λ i j d l m. absurd (omega (arith, m));
  latest = λ before after r s v k. absurd (nil_split before r after s);
}

quiet_nothing : IsQuiet []
unfolding calls_of
quiet_nothing = λ k d l. absurd (omega (arith, l))

regular_nothing : IsRegular (calls_of [])
unfolding calls_of
regular_nothing = no_calls_are_regular

atomic_nothing : (writers : Writers) → IsAtomicBy writers (calls_of [])
unfolding calls_of
atomic_nothing One = ([], no_calls_are_legal)
atomic_nothing Many = ([], record { legal = no_calls_are_legal; rising = λ i j d l m. absurd (omega (arith, m)) })

pub nothing_taken : (left last : List (Option Wrote)) (window : LimitedEvents) (most : Limit) → HasLast left [] → HasLast last [] → window.events ≡ [] → window.limit ≡ most → HasTaken (record { left = left; last = last; window = window; shows = true; regular = true; atomic = true; most = most }) [] []
nothing_taken left last window most a b w l = record {
  history = (bounded_nil most.writers).history;
  fit = λ k d l. absurd (omega (arith, l));
  quiet = quiet_nothing;
  left = a;
  last = b;
  window = w;
  limit = l;
  shows = (λ t k d l. absurd (omega (arith, l)), λ h. refl);
  regular = (λ t. regular_nothing, λ h. refl);
  atomic = (λ t. atomic_nothing most.writers, λ h. refl);
}
