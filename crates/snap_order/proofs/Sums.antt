-- What the sums of two views tell of the numbers that they show.
use Rattle.std.proofs.Common.{◌≡◌, Bool, true, false, not, ◌&&◌, refl, sym, ap, ◌∙◌}
use Rattle.std.specs.Prelude.{nat_lt}
use Rattle.std.specs.List.{All}
use Rattle.std.proofs.lemmas.Bool.{lt-ltb, le-ltb}
use Rattle.snap_core.specs.Entries.{HasByteComponent}
use Rattle.snap_core.specs.Calls.{Call, entries_of}
use Rattle.snap_theory.specs.Faults.{exceeds}
use Rattle.snap_views.specs.Quick.{shown_sum}
use Rattle.snap_views.proofs.Quick.{no_greater, smaller}

-- where one of two views shows no more than the other, sums tell which
pub below_by_sum : (r s : Call) → All HasByteComponent (entries_of r.operation) → (exceeds r s ≡ true → exceeds s r ≡ false) → (exceeds r s && not (exceeds s r)) ≡ nat_lt (shown_sum s) (shown_sum r)
below_by_sum r s b c = at (exceeds r s) refl
  where
    at : (x : Bool) → exceeds r s ≡ x → (exceeds r s && not (exceeds s r)) ≡ nat_lt (shown_sum s) (shown_sum r)
    at true t = ap (λ z. z && not (exceeds s r)) t ∙ ap not (c t) ∙ sym (lt-ltb _ _ (smaller s r b (c t) t))
    at false t = ap (λ z. z && not (exceeds s r)) t ∙ sym (le-ltb _ _ (no_greater r s t))
