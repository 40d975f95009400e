-- Events that were sorted by their stamps.
use Rattle.std.proofs.Common.{◌≡◌, ℕ, zero, suc, ◌+◌, ◌<◌, ◌≤◌, ◌==◌, ◌⊎◌, List, [], ◌∷◌, map, refl, sym, ap, ◌∙◌, subst, inl, inr, arith}
use Rattle.std.specs.List.{Contains, sum_by}
use Rattle.std.specs.List.Sorted.{IsPermutation, IsNonDecreasingBy}
use Rattle.std.proofs.lemmas.List.Sums.{sum_by-cons}
use Rattle.std.proofs.lemmas.List.Sorted.{Contains-permutation, IsPermutation-sym, sum_by-IsPermutation}
use Rattle.snap_board.specs.declared.record.Record.{Record}
use Rattle.snap_core.specs.Sums.{one_if, times, total}
use Rattle.snap_account.specs.Calls.{Mem}
use Rattle.snap_board.specs.History.{begin_of, end_of, Stamped, Merged, AreApart, stamped_events}
use Rattle.snap_account.proofs.Lists.{one_here}
use Rattle.snap_board.proofs.Listing.{mem_contains}
use Rattle.snap_board.proofs.Stamps.{Stamp}

contains_mem : {X : Type 0} (xs : List X) (x : X) → Mem x xs → Contains xs x
contains_mem [] x m = absurd m
contains_mem (y ∷ ys) x (inl e) = (zero, omega arith, e)
contains_mem (y ∷ ys) x (inr m) = let c = contains_mem ys x m in (suc c.0, omega arith, c.2)

total_is : {X : Type 0} (f : X → ℕ) (xs : List X) → total f xs ≡ sum_by f xs
total_is f [] = refl
total_is f (x ∷ xs) = let r = total_is f xs in let c = sum_by-cons f x xs in omega arith

times_map : (s : ℕ) (es : List Stamp) → times s (map (λ (x : Stamp). x.0) es) ≡ total (λ (x : Stamp). one_if (x.0 == s)) es
times_map s [] = refl
times_map s (x ∷ es) = let r = times_map s es in omega arith

one_among : (f : Stamp → ℕ) (es : List Stamp) (y : Stamp) → Mem y es → f y ≤ total f es
one_among f [] y m = absurd m
one_among f (x ∷ es) y (inl e) = let q = ap f e in omega arith
one_among f (x ∷ es) y (inr m) = let r = one_among f es y m in omega arith

rising : (es : List Stamp) → IsNonDecreasingBy (λ (x : Stamp). x.0) es → AreApart es → Stamped es
rising [] up few = tt
rising (x ∷ es) up few = (
  λ y m.
      let c = contains_mem es y m in
      let le : x.0 ≤ y.0 = subst (λ (z : Stamp). x.0 ≤ z.0) c.2 (up 0 (suc c.0) y (omega arith) (omega (arith, c.1))) in
      apart y m le,
  rising es (λ i j d le lt. up (suc i) (suc j) d (omega arith) (omega arith)) (λ s. let f = few s in omega arith),
)
  where
    apart : (y : Stamp) → Mem y es → x.0 ≤ y.0 → x.0 < y.0
    apart y m le =
        let f = few x.0 in
        let one = one_here x.0 in
        let t = times_map x.0 es in
        let a = one_among (λ (z : Stamp). one_if (z.0 == x.0)) es y m in
        differ (λ same. let o : one_if (y.0 == x.0) ≡ 1 = ap (λ z. one_if (z == x.0)) (sym same) ∙ one in omega arith) le
      where
        differ : (x.0 ≡ y.0 → ⊥) → x.0 ≤ y.0 → x.0 < y.0
        differ ne l = omega arith

pub sorted_merged : (rs : List Record) (es : List Stamp) → IsPermutation (stamped_events rs) es → IsNonDecreasingBy (λ (x : Stamp). x.0) es → AreApart (stamped_events rs) → Merged rs es
sorted_merged rs es p up few = record {
  stamped = rising es up (λ s.
      let f = few s in
      let a = times_map s es in
      let b = times_map s (stamped_events rs) in
      let c = total_is (λ (x : Stamp). one_if (x.0 == s)) es in
      let d = total_is (λ (x : Stamp). one_if (x.0 == s)) (stamped_events rs) in
      let e = sum_by-IsPermutation (λ (x : Stamp). one_if (x.0 == s)) (stamped_events rs) es p in omega arith);
  all = λ x m. mem_contains es x (Contains-permutation (stamped_events rs) es x p (contains_mem (stamped_events rs) x m));
  only = λ x m. mem_contains (stamped_events rs) x (Contains-permutation es (stamped_events rs) x (IsPermutation-sym (stamped_events rs) es p) (contains_mem es x m));
}

-- the events of records in another order
abbrev begin_stamp : Record → Stamp
begin_stamp r = (r.begun, begin_of r.process r.op)

abbrev end_stamp : Record → Stamp
end_stamp r = (r.ended, end_of r.process r.op)

record_of_event : (rs : List Record) (x : Stamp) → Mem x (stamped_events rs) → (r : Record) × Mem r rs × ((begin_stamp r ≡ x) ⊎ (end_stamp r ≡ x))
record_of_event [] x m = absurd m
record_of_event (r ∷ rs) x (inl e) = (r, inl refl, inl e)
record_of_event (r ∷ rs) x (inr (inl e)) = (r, inl refl, inr e)
record_of_event (r ∷ rs) x (inr (inr m)) = let k = record_of_event rs x m in (k.0, inr k.1, k.2)

event_of_record : (rs : List Record) (r : Record) (x : Stamp) → Mem r rs → (begin_stamp r ≡ x) ⊎ (end_stamp r ≡ x) → Mem x (stamped_events rs)
event_of_record [] r x m e = absurd m
event_of_record (q ∷ rs) r x (inl is) (inl e) = inl (ap begin_stamp is ∙ e)
event_of_record (q ∷ rs) r x (inl is) (inr e) = inr (inl (ap end_stamp is ∙ e))
event_of_record (q ∷ rs) r x (inr m) e = inr (inr (event_of_record rs r x m e))

event_moves : (rs qs : List Record) → IsPermutation rs qs → (x : Stamp) → Mem x (stamped_events rs) → Mem x (stamped_events qs)
event_moves rs qs p x m =
    let k = record_of_event rs x m in
    event_of_record qs k.0 x (mem_contains qs k.0 (Contains-permutation rs qs k.0 p (contains_mem rs k.0 k.1))) k.2

pub merged_permuted : (rs qs : List Record) (es : List Stamp) → IsPermutation rs qs → Merged rs es → Merged qs es
merged_permuted rs qs es p m = record {
  stamped = m.stamped;
  all = λ x k. m.all x (event_moves qs rs (IsPermutation-sym rs qs p) x k);
  only = λ x k. event_moves rs qs p x (m.only x k);
}

-- how often a stamp stands at the ends of a record
abbrev at_ends : ℕ → Record → ℕ
at_ends s r = one_if (r.begun == s) + one_if (r.ended == s)

times_ends : (s : ℕ) (rs : List Record) → times s (map (λ (x : Stamp). x.0) (stamped_events rs)) ≡ total (at_ends s) rs
times_ends s [] = refl
times_ends s (r ∷ rs) = let k = times_ends s rs in omega arith

pub apart_permuted : (rs qs : List Record) → IsPermutation rs qs → AreApart (stamped_events qs) → AreApart (stamped_events rs)
apart_permuted rs qs p few s =
    let f = few s in
    let a = times_ends s rs in let b = times_ends s qs in
    let c = total_is (at_ends s) rs in let d = total_is (at_ends s) qs in
    let e = sum_by-IsPermutation (at_ends s) rs qs p in omega arith
