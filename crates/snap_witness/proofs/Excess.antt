-- The least component of which a view shows more than another, by their entries.
use Rattle.std.proofs.Common.{◌≡◌, ℕ, List, ap, ◌∙◌}
use Rattle.snap_core.specs.declared.entry.Entry.{Entry}
use Rattle.snap_core.specs.Calls.{Call, entries_of, shown, shown_number}
use Rattle.snap_core.specs.Entries.{entry_of, number_in}
use Rattle.snap_theory.specs.Faults.{least_exceeding}
use Rattle.snap_conditions.specs.Rows.{first_less}

pub number_shown : (r : Call) (k : ℕ) (es : List Entry) → es ≡ entries_of r.operation → number_in (entry_of k es) ≡ shown_number r k
unfolding shown_number shown
number_shown r k es e = ap (λ z. number_in (entry_of k z)) e

pub least_exceeded : (r s : Call) (xs ys : List Entry) → xs ≡ entries_of r.operation → ys ≡ entries_of s.operation → first_less (λ k. number_in (entry_of k ys)) (λ k. number_in (entry_of k xs)) ≡ least_exceeding r s
unfolding first_less least_exceeding shown_number shown
least_exceeded r s xs ys e f =
    ap (λ z. first_less (λ k. number_in (entry_of k ys)) (λ k. number_in (entry_of k z))) e
    ∙ ap (λ z. first_less (λ k. number_in (entry_of k z)) (λ k. number_in (entry_of k (entries_of r.operation)))) f
