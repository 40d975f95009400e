-- Components without an update have no proximity fault and no write fault.
use Rattle.std.proofs.Common.{◌≡◌, ℕ, zero, suc, ◌+◌, ◌<◌, ◌≤◌, ◌||◌, false, List, None, take, get_or, refl, sym, ap, ◌∙◌, arith}
use Rattle.std.specs.Prelude.{filter, flat_map, count_by}
use Rattle.std.proofs.lemmas.List.{take_all}
use Rattle.std.proofs.lemmas.List.FromFn.{get_or-range_with_len}
use Rattle.snap_core.specs.declared.event.Event.{Event}
use Rattle.snap_core.specs.Bounded.{IsBoundedOrdered}
use Rattle.snap_core.specs.Calls.{Call, calls_of, shown_number, is_before}
use Rattle.snap_index.specs.Updates.{is_update_of}
use Rattle.snap_theory.specs.Faults.{components, missed_at, old_fault, early_fault}
use Rattle.snap_conditions.specs.inside.Limits.{IsLimit}
use Rattle.snap_conditions.specs.Parts.{no_part, part_of, merged_part}
use Rattle.snap_conditions.specs.inside.Places.{end_of, begin_of, begins_behind}
use Rattle.snap_theory.specs.Updates.{update_of}
use Rattle.snap_conditions.specs.Tally.{reported_proximity, reported_write}
use Rattle.snap_conditions.proofs.Finds.{none_missed, neither_found, proximity_at}
use Rattle.snap_conditions.proofs.Parts.{merge_step, merged_none, next_noted}
use Rattle.snap_conditions.proofs.NoUpdates.{none_of_none}

at_place : (k : ℕ) → k < 256 → get_or components k 0 ≡ k
at_place k l = omega (arith, get_or-range_with_len 0 256 k 0 l)

-- a component of which no update is missed adds nothing
pub none_step : (es : List Event) (r : Call) (j : ℕ) → j < 256 → part_of reported_write (missed_at (calls_of es) r j) ≡ no_part →
    part_of reported_write (flat_map (missed_at (calls_of es) r) (take j components)) ≡ part_of reported_write (flat_map (missed_at (calls_of es) r) (take (j + 1) components))
none_step es r j l missed =
    let calls = calls_of es in
    let so_far = part_of reported_write (flat_map (missed_at calls r) (take j components)) in
    sym (merged_none so_far) ∙ ap (merged_part so_far) (sym missed ∙ ap (λ z. part_of reported_write (missed_at calls r z)) (sym (at_place j l)))
    ∙ sym (merge_step reported_write (missed_at calls r) components j 0 l)

missed_step : (es : List Event) → IsBoundedOrdered es → (r : Call) (j : ℕ) → j < 256 → count_by (is_update_of j) (calls_of es) ≡ 0 →
    part_of reported_write (flat_map (missed_at (calls_of es) r) (take j components)) ≡ part_of reported_write (flat_map (missed_at (calls_of es) r) (take (j + 1) components))
missed_step es kept r j l none =
    none_step es r j l (none_missed es kept r j (ap end_of (none_of_none es kept j (suc (shown_number r j)) none)))

-- the components that are left have no write fault
pub missed_rest : (es : List Event) → IsBoundedOrdered es → (r : Call) (limit : ℕ) → IsLimit (calls_of es) limit → (n j : ℕ) → limit ≤ j → j + n ≡ 256 →
    part_of reported_write (flat_map (missed_at (calls_of es) r) (take j components)) ≡ part_of reported_write (flat_map (missed_at (calls_of es) r) components)
missed_rest es kept r limit h zero j l e = ap (λ xs. part_of reported_write (flat_map (missed_at (calls_of es) r) xs)) (take_all j components (omega (arith, e)))
missed_rest es kept r limit h (suc n) j l e = missed_step es kept r j (omega (arith, e)) (h.none j l (omega (arith, e))) ∙ missed_rest es kept r limit h n (j + 1) (omega (arith, l)) (omega (arith, e))

pub near_step : (es : List Event) → IsBoundedOrdered es → (r : Call) (k : ℕ) → k < 256 → count_by (is_update_of k) (calls_of es) ≡ 0 →
    part_of (λ k. reported_proximity (calls_of es) (r, k)) (filter (λ k. old_fault (calls_of es) r k || early_fault (calls_of es) r k) (take k components))
    ≡ part_of (λ k. reported_proximity (calls_of es) (r, k)) (filter (λ k. old_fault (calls_of es) r k || early_fault (calls_of es) r k) (take (k + 1) components))
near_step es kept r k l none =
    let calls = calls_of es in
    let n = shown_number r k in
    let old : is_before (end_of (update_of calls k (suc n))) r.begun ≡ false = ap (λ o. is_before (end_of o) r.begun) (none_of_none es kept k (suc n) none) in
    let early : begins_behind r.ended (begin_of (update_of calls k n)) ≡ false = ap (λ o. begins_behind r.ended (begin_of o)) (none_of_none es kept k n none) in
    next_noted (λ k. reported_proximity calls (r, k)) (λ k. old_fault calls r k || early_fault calls r k) components k 0 l
    (part_of (λ k. reported_proximity calls (r, k)) (filter (λ k. old_fault calls r k || early_fault calls r k) (take k components))) _ None refl refl
    (sym (neither_found es kept r k n refl old early) ∙ ap (proximity_at calls r) (sym (at_place k l)))

-- the components that are left have no proximity fault
pub near_rest : (es : List Event) → IsBoundedOrdered es → (r : Call) (limit : ℕ) → IsLimit (calls_of es) limit → (n k : ℕ) → limit ≤ k → k + n ≡ 256 →
    part_of (λ k. reported_proximity (calls_of es) (r, k)) (filter (λ k. old_fault (calls_of es) r k || early_fault (calls_of es) r k) (take k components))
    ≡ part_of (λ k. reported_proximity (calls_of es) (r, k)) (filter (λ k. old_fault (calls_of es) r k || early_fault (calls_of es) r k) components)
near_rest es kept r limit h zero k l e =
    ap (λ xs. part_of (λ k. reported_proximity (calls_of es) (r, k)) (filter (λ k. old_fault (calls_of es) r k || early_fault (calls_of es) r k) xs)) (take_all k components (omega (arith, e)))
near_rest es kept r limit h (suc n) k l e = near_step es kept r k (omega (arith, e)) (h.none k l (omega (arith, e))) ∙ near_rest es kept r limit h n (k + 1) (omega (arith, l)) (omega (arith, e))
