-- Levels as places in the chain of the completed views.
use Rattle.std.proofs.Common.{◌≡◌, ℕ, ◌<◌, Bool, not, ◌&&◌, cond, true, false, List, length, get_or, slice_get, Some, None, refl, sym, ap, ◌∙◌, inl, inr, arith}
use Rattle.std.specs.Prelude.{count_by, nat_lt, nat_le}
use Rattle.std.specs.List.{All, Contains, list_any, range_with_len}
use Rattle.std.specs.List.Sorted.{IsNonDecreasingBy}
use Rattle.std.specs.Option.{option_map}
use Rattle.std.proofs.lemmas.Option.{slice_get_within}
use Rattle.std.proofs.lemmas.Bool.{ltb-true, ltb-false, lt-leb, le-leb, cases_lt}
use Rattle.std.proofs.lemmas.List.Elements.{All-contains}
use Rattle.std.proofs.lemmas.List.FromFn.{fill_by_all, get_or-range_with_len, length-range_with_len}
use Rattle.std.proofs.lemmas.List.Sorted.{All-permutation, sum_by-IsPermutation, length_permutation}
use Rattle.snap_core.specs.declared.entry.Entry.{Entry}
use Rattle.snap_core.specs.declared.event.Event.{Event}
use Rattle.snap_core.specs.Bounded.{IsBoundedOrdered}
use Rattle.snap_core.specs.Calls.{Call, Operation, Updates, Views, calls_of, call_numbered, views_of, entries_of, is_view, is_answer, shown_number, nobody}
use Rattle.snap_index.specs.IndexedCalls.{answer_of, answered_by, number_of}
use Rattle.snap_index.proofs.IndexedCalls.{mapped_some, numbered_there}
use Rattle.snap_index.proofs.Known.{view_within}
use Rattle.snap_core.specs.Regular.{IsViewOf}
use Rattle.snap_core.proofs.Fits.{bytes_of_events}
use Rattle.snap_core.proofs.Lists.{Contains-from_In}
use Rattle.snap_views.specs.Chains.{AreViewSums, IsChain}
use Rattle.snap_theory.specs.Faults.{HasNoFault, exceeds}
use Rattle.snap_views.specs.Quick.{shown_sum, entry_sum, AreComparable}
use Rattle.snap_views.specs.Seen.{view_in}
use Rattle.snap_views.proofs.Chains.{sum_in, no_more_by_sum, view_is}
use Rattle.snap_views.proofs.EntrySums.{sum_is}
use Rattle.snap_theory.proofs.Exceeding.{exceeds_not}
use Rattle.snap_theory.proofs.FaultLaws.{ordered_meets}
use Rattle.snap_theory.proofs.Components.{byte_views, fit_views}
use Rattle.snap_theory.proofs.FaultLists.{from_views}
use Rattle.snap_order.specs.inside.Chains.{IsSummedChain}
use Rattle.snap_theory.specs.Levels.{update_level, view_level}
use Rattle.snap_theory.proofs.Chain.{chain}
use Rattle.snap_order.proofs.Counts.{count-map, count_same, any_by_count}
use Rattle.snap_order.proofs.Places.{count_views}
use Rattle.snap_order.proofs.Sums.{below_by_sum}

-- of two completed views of a history without a fault one shows no component above the other's
pub comparable_without_fault : (es : List Event) → IsBoundedOrdered es → HasNoFault (calls_of es) → AreComparable (calls_of es)
comparable_without_fault es k n = chain (calls_of es) (ordered_meets es k.history (bytes_of_events es k.fit) n)

-- the places of all views, and no others
range_within : (n : ℕ) → All (λ place. place < n) (range_with_len 0 n)
range_within n i d l = let within : i < n = omega (arith, l, length-range_with_len 0 n) in omega (arith, get_or-range_with_len 0 n i d within, within)

pub chain_within : (calls : List Call) (places : List ℕ) → IsChain calls places → All (λ place. place < length (views_of calls)) places
chain_within calls places c = All-permutation (λ place. place < length (views_of calls)) (range_with_len 0 (length (views_of calls))) places c.views (range_within (length (views_of calls)))

pub chain_length : (calls : List Call) (places : List ℕ) → IsChain calls places → length places ≡ length (views_of calls)
chain_length calls places c = length_permutation (range_with_len 0 (length (views_of calls))) places c.views ∙ length-range_with_len 0 (length (views_of calls))

-- a count along the chain is a count of the views
chain_count : (calls : List Call) (places : List ℕ) → IsChain calls places → (q : ℕ → Bool) (p : Call → Bool) →
    ((place : ℕ) → place < length (views_of calls) → q place ≡ p (view_in calls place)) → count_by q places ≡ count_by p (views_of calls)
chain_count calls places c q p same =
    let n = length (views_of calls) in
    let all = range_with_len 0 n in
    sum_by-IsPermutation (λ place. cond (q place) 1 0) all places c.views
    ∙ count_same q (λ place. p (view_in calls place)) all (λ place i. same place (All-contains (λ place. place < n) all place (range_within n) (Contains-from_In all place i)))
    ∙ sym (count-map p (view_in calls) all)
    ∙ ap (count_by p) (sym (fill_by_all (view_in calls) (views_of calls) n nobody refl (λ k l. refl)))

-- along a chain no sum falls
sums_rise : (calls : List Call) (places : List ℕ) → IsChain calls places → IsNonDecreasingBy (λ place. shown_sum (view_in calls place)) places
sums_rise calls places c i j d l m = elim (cases_lt i j) [
  | inl less ↦ elim (c.sorted i j d less m) [ inl k ↦ omega (arith, k) | inr k ↦ omega (arith, k.0) ]
  | inr same ↦ let e : i ≡ j = omega (arith, l, same) in omega (arith, ap (λ z. shown_sum (view_in calls (get_or places z d))) e)
]

pub sums_rise_by : (calls : List Call) (places sums : List ℕ) → IsChain calls places → AreViewSums calls sums → IsNonDecreasingBy (λ place. get_or sums place 0) places
sums_rise_by calls places sums c s i j d l m =
    let here = λ (k : ℕ) (b : k < length places). sum_in calls sums (get_or places k d) 0 s (chain_within calls places c k d b) in
    omega (arith, sums_rise calls places c i j d l m, here i (omega (arith, l, m)), here j m)

-- nor, where views are comparable, the number of a component
pub numbers_rise : (es : List Event) (places sums : List ℕ) → IsSummedChain es places sums → (k : ℕ) → IsNonDecreasingBy (λ place. shown_number (view_in (calls_of es) place) k) places
numbers_rise es places sums h k i j d l m =
    let calls = calls_of es in
    let at = λ (n : ℕ) (b : n < length places). view_is calls (get_or places n d) (chain_within calls places h.chain n d b) in
    exceeds_not (view_in calls (get_or places i d)) (view_in calls (get_or places j d)) k
    (no_more_by_sum es h.kept h.comparable _ _ (at i (omega (arith, l, m))) (at j m) (sums_rise calls places h.chain i j d l m))

-- levels are counts along the chain
pub update_place : (calls : List Call) (places : List ℕ) → IsChain calls places → (e : Entry) → count_by (λ place. nat_lt (shown_number (view_in calls place) e.component) e.number) places ≡ update_level calls e
unfolding update_level
update_place calls places c e =
    let less = λ (s : Call). nat_lt (shown_number s e.component) e.number in
    chain_count calls places c (λ place. less (view_in calls place)) less (λ place l. refl) ∙ count_views calls less

pub sum_place : (calls : List Call) (places sums : List ℕ) → IsChain calls places → AreViewSums calls sums → (n : ℕ) → count_by (λ place. nat_lt (get_or sums place 0) n) places ≡ count_by (λ s. nat_lt (shown_sum s) n) (views_of calls)
sum_place calls places sums c s n = chain_count calls places c (λ place. nat_lt (get_or sums place 0) n) (λ s. nat_lt (shown_sum s) n) (λ place l. ap (λ z. nat_lt z n) (sum_in calls sums place 0 s l))

-- the completed view of a number, by its place
pub view_of_number : (es : List Event) (place number : ℕ) → option_map number_of (slice_get (views_of (calls_of es)) place) ≡ Some number → (place < length (views_of (calls_of es))) × (view_in (calls_of es) place ≡ call_numbered (calls_of es) number)
view_of_number es place number h =
    let calls = calls_of es in
    let m = mapped_some number_of (slice_get (views_of calls) place) number h in
    let within = slice_get_within (views_of calls) place m.from m.is in
    let r = view_within es place within in
    let same : Some (view_in calls place).number ≡ Some number = sym (ap (option_map number_of) r.is) ∙ h in
    let own : (view_in calls place).number ≡ number = cc in
    (within, sym r.own ∙ ap (call_numbered calls) own)

answered_entries : (o : Operation) (entries : List Entry) → answered_by o ≡ Some entries → entries_of o ≡ entries
answered_entries (Updates e) entries h = absurd (cc)
answered_entries (Views None) entries h = absurd (cc)
answered_entries (Views (Some es)) entries h = cc

-- and its sum
pub sum_of_number : (es : List Event) → IsBoundedOrdered es → (sums : List ℕ) → AreViewSums (calls_of es) sums → (place number : ℕ) (entries : List Entry) → number < length (calls_of es) →
    option_map number_of (slice_get (views_of (calls_of es)) place) ≡ Some number → answer_of (call_numbered (calls_of es) number) ≡ Some entries → get_or sums place 0 ≡ entry_sum entries
sum_of_number es kept sums s place number entries l h a =
    let calls = calls_of es in
    let r = call_numbered calls number in
    let v = view_of_number es place number h in
    sum_in calls sums place 0 s v.0 ∙ ap shown_sum v.1 ∙ sum_is r (fit_views es kept.fit r (numbered_there calls number l)) ∙ ap entry_sum (answered_entries r.operation entries a)

-- the views below one are those with a smaller sum
pub view_level_is : (es : List Event) → IsBoundedOrdered es → AreComparable (calls_of es) → (r : Call) (entries : List Entry) → Contains (calls_of es) r → r.operation ≡ Views (Some entries) →
    count_by (λ s. nat_lt (shown_sum s) (entry_sum entries)) (views_of (calls_of es)) ≡ view_level (calls_of es) r
unfolding view_level is_view
view_level_is es kept c r entries i w =
    let calls = calls_of es in
    let v : IsViewOf calls r = record { there = i; completed = ap is_answer w } in
    let sum : entry_sum entries ≡ shown_sum r = sym (sum_is r (fit_views es kept.fit r i) ∙ ap (λ o. entry_sum (entries_of o)) w) in
    let below = λ (s : Call). exceeds r s && not (exceeds s r) in
    ap (λ n. count_by (λ s. nat_lt (shown_sum s) n) (views_of calls)) sum
    ∙ count_same (λ s. nat_lt (shown_sum s) (shown_sum r)) below (views_of calls) (λ s j. sym (below_by_sum r s (byte_views es (bytes_of_events es kept.fit) r i) (c r s v (from_views calls s j))))
    ∙ count_views calls below

-- some view shows a number or a later one exactly where the level is below the number of views
pub shown_by_level : (calls : List Call) (e : Entry) → list_any (λ r. nat_le e.number (shown_number r e.component)) (views_of calls) ≡ nat_lt (update_level calls e) (length (views_of calls))
unfolding update_level
shown_by_level calls e =
    let less = λ (s : Call). nat_lt (shown_number s e.component) e.number in
    ap (λ p. list_any p (views_of calls)) (λ i r. not_less (shown_number r e.component) e.number i)
    ∙ any_by_count less (views_of calls) ∙ ap (λ n. nat_lt n (length (views_of calls))) (count_views calls less)
  where
    not_less : (a b : ℕ) → nat_le b a ≡ not (nat_lt a b)
    not_less a b = at (nat_lt a b) refl
      where
        at : (t : Bool) → nat_lt a b ≡ t → nat_le b a ≡ not (nat_lt a b)
        at true t = lt-leb b a (ltb-true a b t) ∙ sym (ap not t)
        at false t = le-leb b a (ltb-false a b t) ∙ sym (ap not t)
