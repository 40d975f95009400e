-- A sort of the keys of the printed calls gives sorted keys.
use Rattle.std.proofs.Common.{ℕ, ◌<◌, List, eqb, arith}
use Rattle.std.specs.List.{All, filter, AllPairs, IsDistinct}
use Rattle.std.specs.List.Sorted.{IsNonDecreasingBy, IsPermutation}
use Rattle.std.proofs.lemmas.Bool.{ne_eqb}
use Rattle.std.proofs.lemmas.List.Elements.{All-filter, All-map}
use Rattle.std.proofs.lemmas.List.Sorted.{All-permutation, Contains-permutation, IsPermutation-sym}
use Rattle.std.proofs.lemmas.Map.Keys.{IsDistinct-from_apart}
use Rattle.snap_core.specs.declared.event.Event.{Event}
use Rattle.snap_core.specs.Calls.{Call, calls_of}
use Rattle.snap_core.specs.Bounded.{IsBoundedOrdered}
use Rattle.snap_core.specs.Events.{event_cap}
use Rattle.snap_core.proofs.Lists.{Pairs, Pairs-filter, AllPairs-from_Pairs}
use Rattle.snap_core.proofs.Ordered.{AreOrderedCalls, are_ordered_calls}
use Rattle.snap_core.proofs.Histories.{numbered_calls}
use Rattle.snap_index.proofs.IndexedCalls.{call_count_within}
use Rattle.snap_views.proofs.SortedKeys.{seconds, keys_rise}
use Rattle.snap_theory.specs.KeyOrder.{as_one}
use Rattle.snap_theory.specs.Levels.{is_printed}
use Rattle.snap_theory.specs.Keys.{key_of, printed_keys, AreSortedKeys}
use Rattle.snap_core.proofs.Members.{Pairs-map}

-- no two printed calls have one number
printed_apart : (calls : List Call) → AreOrderedCalls calls → IsDistinct eqb (seconds (printed_keys calls))
printed_apart calls f = IsDistinct-from_apart eqb (seconds (printed_keys calls)) (λ i j d l m. ne_eqb _ _ (λ e. let less = rise i j d l m in absurd (omega (arith, less, e))))
  where
    in_order : Pairs (λ (a b : ℕ × ℕ). a.1 < b.1) (printed_keys calls)
    in_order = Pairs-map (λ (a b : ℕ × ℕ). a.1 < b.1) (key_of calls) (filter (is_printed calls) calls) (Pairs-filter (λ (a b : Call). a.number < b.number) (is_printed calls) calls f.numbered)

    rise : AllPairs (λ a b. a < b) (seconds (printed_keys calls))
    rise = AllPairs-from_Pairs (λ a b. a < b) (seconds (printed_keys calls)) (Pairs-map (λ a b. a < b) (λ (k : ℕ × ℕ). k.1) (printed_keys calls) in_order)

-- the number of each printed call is less than the limit
small_numbers : (es : List Event) → IsBoundedOrdered es → All (λ (k : ℕ × ℕ). k.1 < event_cap) (printed_keys (calls_of es))
small_numbers es kept =
    let calls = calls_of es in
    All-map (λ (k : ℕ × ℕ). k.1 < event_cap) (key_of calls) (filter (is_printed calls) calls)
    (All-filter (is_printed calls) (λ (c : Call). c.number < event_cap) calls (λ i d l. let number = numbered_calls es i d l in omega (arith, number, l, call_count_within es, kept.short)))

pub sorted_keys : (es : List Event) → IsBoundedOrdered es → (keys : List (ℕ × ℕ)) → IsPermutation (printed_keys (calls_of es)) keys → IsNonDecreasingBy (as_one event_cap) keys → AreSortedKeys (calls_of es) keys
sorted_keys es kept keys p up =
    let given = printed_keys (calls_of es) in
    record {
      sorted = keys_rise event_cap given keys p (printed_apart (calls_of es) (are_ordered_calls es kept.history)) (All-permutation (λ (k : ℕ × ℕ). k.1 < event_cap) given keys p (small_numbers es kept)) up;
      same = λ key. (Contains-permutation keys given key (IsPermutation-sym given keys p), Contains-permutation given keys key p);
    }
