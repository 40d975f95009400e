-- Views sorted by their sums are a chain exactly where each shows no more than the next.
use Rattle.std.proofs.Common.{◌≡◌, ℕ, zero, suc, ◌+◌, ◌-◌, ◌*◌, ◌%◌, ◌<◌, ◌≤◌, Bool, true, false, List, [], ◌∷◌, map, length, get_or, eqb, refl, sym, ap, ◌∙◌, subst, inl, inr, arith}
use Rattle.std.specs.List.{All, AllPairs, Contains, IsDistinct, range_with_len}
use Rattle.std.specs.List.Sorted.{IsNonDecreasingBy, IsPermutation}
use Rattle.std.proofs.Math.Nat.{mod-eq_of_lt}
use Rattle.std.proofs.lemmas.Bool.{false_from_ne_true, false≢true, cases_lt, ne_eqb}
use Rattle.std.proofs.lemmas.List.{get_or_default, get_or-map, length-map}
use Rattle.std.proofs.lemmas.List.Elements.{All-map}
use Rattle.std.proofs.lemmas.List.Sums.{sum_by-le}
use Rattle.std.proofs.lemmas.List.FromFn.{get_or-range_with_len, length-range_with_len, length-map-range_with_len, get_or-map-range_with_len}
use Rattle.std.proofs.lemmas.List.Sorted.{All-permutation, Contains-permutation, IsPermutation-map}
use Rattle.std.proofs.lemmas.Map.Keys.{IsDistinct-from_apart}
use Rattle.snap_core.specs.declared.entry.Entry.{Entry}
use Rattle.snap_core.specs.declared.event.Event.{Event}
use Rattle.snap_core.specs.Bounded.{IsBoundedOrdered}
use Rattle.snap_core.specs.Events.{event_cap}
use Rattle.snap_core.specs.Calls.{Call, calls_of, entries_of, views_of, shown_number, nobody}
use Rattle.snap_core.specs.Regular.{IsViewOf}
use Rattle.snap_core.proofs.Fits.{bytes_of_events}
use Rattle.snap_core.proofs.Lists.{In-get_or, Contains-from_In}
use Rattle.snap_theory.specs.Faults.{exceeds}
use Rattle.snap_views.specs.Quick.{shown_sum, AreComparable}
use Rattle.snap_views.specs.Chains.{AreViewSums, summed_at, IsChain}
use Rattle.snap_views.specs.inside.Chains.{summed_views, IsSummed, Climbs, joined}
use Rattle.snap_theory.specs.KeyOrder.{KeyLess, as_one}
use Rattle.snap_views.specs.Seen.{view_in}
use Rattle.snap_theory.proofs.Exceeding.{exceeds_not, not_exceeds}
use Rattle.snap_views.proofs.EntrySums.{sum_is}
use Rattle.snap_views.proofs.Quick.{smaller}
use Rattle.snap_views.proofs.Sizes.{few_views, rising_few}
use Rattle.snap_theory.proofs.Components.{byte_views, fit_views}
use Rattle.snap_views.proofs.SortedKeys.{seconds, keys_rise}
use Rattle.snap_theory.proofs.FaultLists.{from_views, in_views}

pub sum_in : (calls : List Call) (sums : List ℕ) (place : ℕ) (d : ℕ) → AreViewSums calls sums → place < length (views_of calls) → get_or sums place d ≡ shown_sum (view_in calls place)
sum_in calls sums place d h l = ap (λ z. get_or z place d) h ∙ get_or-map shown_sum (views_of calls) place nobody d l

pub sums_count : (calls : List Call) (sums : List ℕ) → AreViewSums calls sums → length sums ≡ length (views_of calls)
sums_count calls sums h = ap length h ∙ length-map (views_of calls) shown_sum

pub summed : (calls : List Call) → All (IsSummed calls) (summed_views calls)
summed calls =
    let n = length (views_of calls) in
    All-map (IsSummed calls) (summed_at calls) (range_with_len 0 n)
    (λ k d l. let inside : k < n = omega (arith, l, length-range_with_len 0 n) in let e = get_or-range_with_len 0 n k d inside in (omega (arith, e, inside), refl))

pub all_summed : (calls : List Call) (keys : List (ℕ × ℕ)) → IsPermutation (summed_views calls) keys → All (IsSummed calls) keys
all_summed calls keys p = All-permutation (IsSummed calls) (summed_views calls) keys p (summed calls)

-- where each view shows no component above the next, none shows one above any that follows
far : (calls : List Call) (keys : List (ℕ × ℕ)) (n : ℕ) → Climbs calls keys n → (i m : ℕ) (d : ℕ × ℕ) (k : ℕ) → i + m < n → shown_number (view_in calls (get_or keys i d).1) k ≤ shown_number (view_in calls (get_or keys (i + m) d).1) k
far calls keys n c i zero d k l = omega (arith, ap (λ z. shown_number (view_in calls (get_or keys z d).1) k) (let e : i + 0 ≡ i = omega arith in e))
far calls keys n c i (suc m) d k l =
    let near = far calls keys n c i m d k (omega (arith, l)) in
    let step = exceeds_not (view_in calls (get_or keys (i + m) d).1) (view_in calls (get_or keys (suc (i + m)) d).1) k (c.each (i + m) d (omega (arith, l))) in
    let same = ap (λ z. shown_number (view_in calls (get_or keys z d).1) k) (let e : i + suc m ≡ suc (i + m) = omega arith in e) in
    omega (arith, near, step, same)

-- where a view stands among keys
record StandsAt (calls : List Call) (keys : List (ℕ × ℕ)) (r : Call) : Type 0 where
  place : ℕ
  within : place < length keys
  is : (d : ℕ × ℕ) → view_in calls (get_or keys place d).1 ≡ r

stands_at : (calls : List Call) (keys : List (ℕ × ℕ)) → IsPermutation (summed_views calls) keys → (r : Call) → IsViewOf calls r → StandsAt calls keys r
stands_at calls keys p r v =
    let n = length (views_of calls) in
    let i = Contains-from_In (views_of calls) r (in_views calls r v) in
    let summed = summed_there calls i.0 i.1 in
    let j = Contains-permutation (summed_views calls) keys (summed_at calls i.0) p summed in
    record {
      place = j.0;
      within = j.1;
      is = λ d. ap (λ (z : ℕ × ℕ). view_in calls z.1) (get_or_default keys j.0 d (summed_at calls i.0) j.1 ∙ j.2) ∙ get_or_default (views_of calls) i.0 nobody r i.1 ∙ i.2;
    }
  where
    summed_there : (calls : List Call) (i : ℕ) → i < length (views_of calls) → Contains (summed_views calls) (summed_at calls i)
    summed_there calls i l = (i, omega (arith, l, length-map-range_with_len (summed_at calls) 0 (length (views_of calls))), get_or-map-range_with_len (summed_at calls) 0 (length (views_of calls)) i i (summed_at calls i) l (omega arith))

-- then of any two completed views one shows no component above the other's
pub comparable_from : (calls : List Call) (keys : List (ℕ × ℕ)) → IsPermutation (summed_views calls) keys → Climbs calls keys (length keys) → AreComparable calls
comparable_from calls keys p c r s v w x = order (stands_at calls keys p r v) (stands_at calls keys p s w)
  where
    no_more : (r s : Call) (i : StandsAt calls keys r) (j : StandsAt calls keys s) → i.place ≤ j.place → exceeds r s ≡ false
    no_more r s i j l = not_exceeds r s (λ k.
        subst (λ z. shown_number z k ≤ shown_number s k) (i.is (0, 0))
        (subst (λ z. shown_number (view_in calls (get_or keys i.place (0, 0)).1) k ≤ shown_number z k) (between ∙ j.is (0, 0))
        (far calls keys (length keys) c i.place (j.place - i.place) (0, 0) k (omega (arith, l, j.within)))))
      where
        between : view_in calls (get_or keys (i.place + (j.place - i.place)) (0, 0)).1 ≡ view_in calls (get_or keys j.place (0, 0)).1
        between = ap (λ z. view_in calls (get_or keys z (0, 0)).1) (let e : i.place + (j.place - i.place) ≡ j.place = omega (arith, l) in e)

    order : StandsAt calls keys r → StandsAt calls keys s → exceeds s r ≡ false
    order i j = elim (cases_lt i.place j.place) [
      | inl l ↦ absurd (false≢true (sym (no_more r s i j (omega (arith, l))) ∙ x))
      | inr l ↦ no_more s r j i l
    ]

-- of views of which this is so none shows a component above that of one with no smaller sum
pub no_more_by_sum : (es : List Event) → IsBoundedOrdered es → AreComparable (calls_of es) → (r s : Call) → IsViewOf (calls_of es) r → IsViewOf (calls_of es) s → shown_sum r ≤ shown_sum s → exceeds r s ≡ false
no_more_by_sum es kept c r s v w l = false_from_ne_true (exceeds r s) (λ x.
    let less = smaller s r (byte_views es (bytes_of_events es kept.fit) r v.there) (c r s v w x) x in
    absurd (omega (arith, less, l)))

pub view_is : (calls : List Call) (place : ℕ) → place < length (views_of calls) → IsViewOf calls (view_in calls place)
view_is calls place l = from_views calls (view_in calls place) (In-get_or (views_of calls) place nobody l)

-- so that sorted views climb
pub climbs_from : (es : List Event) → IsBoundedOrdered es → AreComparable (calls_of es) → (keys : List (ℕ × ℕ)) → All (IsSummed (calls_of es)) keys → AllPairs KeyLess keys → Climbs (calls_of es) keys (length keys)
climbs_from es kept c keys all sorted = record {
  each = λ i d l.
      let a = all i d (omega (arith, l)) in
      let b = all (suc i) d l in
      let rises : (get_or keys i d).0 ≤ (get_or keys (suc i) d).0 = elim (sorted i (suc i) d (omega arith) l) [ inl m ↦ omega (arith, m) | inr m ↦ omega (arith, m.0) ] in
      no_more_by_sum es kept c _ _ (view_is (calls_of es) _ a.0) (view_is (calls_of es) _ b.0) (omega (arith, a.1, b.1, rises));
}

-- two views of which neither shows no component above the other's cross

one_climb : (calls : List Call) (p q : ℕ × ℕ) → exceeds (view_in calls p.1) (view_in calls q.1) ≡ false → Climbs calls (p ∷ q ∷ []) 2
one_climb calls p q e = record { each = λ i d l. go i d l }
  where
    go : (i : ℕ) (d : ℕ × ℕ) → suc i < 2 → exceeds (view_in calls (get_or (p ∷ q ∷ []) i d).1) (view_in calls (get_or (p ∷ q ∷ []) (suc i) d).1) ≡ false
    go zero d l = e
    go (suc i) d l = absurd (omega (arith, l))

pub crossing : (calls : List Call) (p q : ℕ × ℕ) → IsSummed calls p → IsSummed calls q → ¬ Climbs calls (p ∷ q ∷ []) 2 → ¬ Climbs calls (q ∷ p ∷ []) 2 → ¬ AreComparable calls
crossing calls p q a b m n c = at (exceeds r s) refl
  where
    r : Call
    r = view_in calls p.1

    s : Call
    s = view_in calls q.1

    at : (x : Bool) → exceeds r s ≡ x → ⊥
    at false e = m (one_climb calls p q e)
    at true e = n (one_climb calls q p (c r s (view_is calls p.1 a.0) (view_is calls q.1 b.0) e))

-- the places of sorted keys

places_distinct : (calls : List Call) → IsDistinct eqb (seconds (summed_views calls))
places_distinct calls = IsDistinct-from_apart eqb (seconds (summed_views calls)) (λ i j d l m.
    let n = length (views_of calls) in
    let count : length (seconds (summed_views calls)) ≡ n = length-map (summed_views calls) (λ (k : ℕ × ℕ). k.1) ∙ length-map-range_with_len (summed_at calls) 0 n in
    let at = λ (k : ℕ) (o : k < n). get_or-map (λ (k : ℕ × ℕ). k.1) (summed_views calls) k (0, 0) d (omega (arith, o, length-map-range_with_len (summed_at calls) 0 n)) ∙ ap (λ (z : ℕ × ℕ). z.1) (get_or-map-range_with_len (summed_at calls) 0 n k k (0, 0) o (omega arith)) in
    ne_eqb _ _ (λ e. let p = at i (omega (arith, l, m, count)) in let q = at j (omega (arith, m, count)) in absurd (omega (arith, p, q, e, l))))

-- 256 numbers of 32 bits each
small_sum : (es : List Event) → IsBoundedOrdered es → (r : Call) → IsViewOf (calls_of es) r → shown_sum r ≤ 1099511627520
small_sum es kept r v =
    let shape = fit_views es kept.fit r v.there in
    let few = rising_few (entries_of r.operation) shape.rising (λ j d l. (shape.fit j d l).0) in
    let most = sum_by-le (λ (e : Entry). e.number) 4294967295 (entries_of r.operation) (λ j d l. let number = (shape.fit j d l).1 in omega (arith, number)) in
    omega (arith, sum_is r shape, most, few)

joined_is : (es : List Event) → IsBoundedOrdered es → (key : ℕ × ℕ) → IsSummed (calls_of es) key → joined key ≡ as_one event_cap key
joined_is es kept key s =
    let small = small_sum es kept (view_in (calls_of es) key.1) (view_is (calls_of es) key.1 s.0) in
    let sum : key.0 * event_cap < 18446744073709551616 = omega (arith, small, s.1) in
    let both : key.0 * event_cap + key.1 < 18446744073709551616 = omega (arith, small, s.1, s.0, few_views es kept) in
    ap (λ z. (z + key.1) % 18446744073709551616) (mod-eq_of_lt sum) ∙ mod-eq_of_lt both

pub sorted_views : (es : List Event) → IsBoundedOrdered es → (keys : List (ℕ × ℕ)) → IsPermutation (summed_views (calls_of es)) keys → IsNonDecreasingBy joined keys → AllPairs KeyLess keys
sorted_views es kept keys p up =
    let calls = calls_of es in
    let all = all_summed calls keys p in
    let few = few_views es kept in
    keys_rise event_cap (summed_views calls) keys p (places_distinct calls) (λ i d l. let inside = (all i d l).0 in omega (arith, inside, few))
    (λ i j d l m. omega (arith, up i j d l m, joined_is es kept (get_or keys i d) (all i d (omega (arith, l, m))), joined_is es kept (get_or keys j d) (all j d m)))

pub is_chain : (calls : List Call) (keys : List (ℕ × ℕ)) → IsPermutation (summed_views calls) keys → AllPairs KeyLess keys → IsChain calls (seconds keys)
is_chain calls keys p s = record {
  views = subst (λ z. IsPermutation z (seconds keys)) (seconds_are calls) (IsPermutation-map (λ (k : ℕ × ℕ). k.1) (summed_views calls) keys p);
  sorted = λ i j d l m.
      let size = length-map keys (λ (k : ℕ × ℕ). k.1) in
      let a = key i d (omega (arith, l, m, size)) in
      let b = key j d (omega (arith, m, size)) in
      subst (λ z. KeyLess z (summed_at calls (get_or (seconds keys) j d))) a
      (subst (λ z. KeyLess (get_or keys i (0, 0)) z) b (s i j (0, 0) l (omega (arith, m, size))));
}
  where
    seconds_are : (calls : List Call) → seconds (summed_views calls) ≡ range_with_len 0 (length (views_of calls))
    seconds_are calls = all (range_with_len 0 (length (views_of calls)))
      where
        all : (xs : List ℕ) → map (λ (k : ℕ × ℕ). k.1) (map (summed_at calls) xs) ≡ xs
        all [] = refl
        all (x ∷ xs) = ap (λ z. x ∷ z) (all xs)

    key : (i d : ℕ) → i < length keys → get_or keys i (0, 0) ≡ summed_at calls (get_or (seconds keys) i d)
    key i d l =
        let here = all_summed calls keys p i (0, 0) l in
        let second = get_or-map (λ (k : ℕ × ℕ). k.1) keys i (0, 0) d l in
        pair (get_or keys i (0, 0)) (summed_at calls (get_or (seconds keys) i d)) (here.1 ∙ ap (λ z. shown_sum (view_in calls z)) (sym second)) (sym second)
      where
        pair : (x y : ℕ × ℕ) → x.0 ≡ y.0 → x.1 ≡ y.1 → x ≡ y
        pair x y e f = λ i. (e i, f i)
