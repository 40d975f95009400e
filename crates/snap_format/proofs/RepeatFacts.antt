-- Where stamps repeat: by a sort, and by a set of those before.
use Rattle.std.proofs.Common.{◌≡◌, ◌<◌, ◌≤◌, ◌+◌, ◌-◌, ◌++◌, ◌||◌, cond, eqb, inl, inr, ℕ, zero, suc, Bool, true, false, not, List, [], ◌∷◌, length, map, get_or, take, Some, None, Result, Ok, Err, refl, arith, ◌∙◌, sym, ap, subst, add-one}
use Rattle.snap_core.specs.declared.limit.Limit.{Limit}
use Rattle.std.specs.Prelude.{◌==◌, ◌↔◌, IsTrue, nat_le, slice_index}
use Rattle.std.specs.BTreeSet.{BTreeSet, Updates, contains}
use Rattle.std.specs.BTreeMap.{is_at}
use Rattle.std.specs.Cmp.{nat_eq_equiv}
use Rattle.std.specs.List.{IsDistinct, list_any}
use Rattle.std.specs.List.Sorted.{IsNonDecreasingBy, IsPermutation, IsStrictlyIncreasing}
use Rattle.std.specs.Ordering.{nat_cmp}
use Rattle.std.proofs.lemmas.Bool.{cases_lt}
use Rattle.std.proofs.lemmas.Bool.Decides.{Decides-eqb, nat_tests}
use Rattle.std.proofs.lemmas.List.{get_or-map, get_or_default, get_or-take, length-map, map-append, take_all}
use Rattle.std.proofs.lemmas.List.Folds.{Any-from_list_any, list_any-append}
use Rattle.std.proofs.lemmas.List.Kept.{AllPairs-from_increasing}
use Rattle.std.proofs.lemmas.List.Sorted.{IsPermutation-map, IsPermutation-refl, IsPermutation-sym, IsPermutation-trans}
use Rattle.std.proofs.lemmas.Map.Keys.{IsDistinct-IsPermutation, IsDistinct-push, IsStrictlyIncreasing-from_distinct}
use Rattle.std.proofs.lemmas.Map.Made.{AllPairs-from_IsDistinct, IsDistinct-from_AllPairs}
use Rattle.std.proofs.Math.Seq.{take-suc}
use Rattle.snap_core.specs.declared.event.Event.{Event}
use Rattle.snap_text.specs.declared.fault.TextFault.{TextFault}
use Rattle.snap_text.specs.declared.fault.TextFault.TheVariants as faults
use Rattle.snap_format.specs.declared.refusal.ReadRefusal.{ReadRefusal}
use Rattle.snap_format.specs.declared.refusal.ReadRefusal.TheVariants as refusals
use Rattle.snap_format.specs.declared.stamped.Stamped.{Stamped}
use Rattle.snap_text.specs.Fields.{Fields}
use Rattle.snap_format.specs.Stamps.{NoneOf, nothing, places_of, repeat_fault, shape_at, shape_fault, stamped_from, stamped_in, stamped_row, stamps_of}
use Rattle.snap_format.specs.StampedTexts.{RefusesShapes}
use Rattle.snap_format.specs.Stamping.{FirstRecords, FirstRepeat, HasSeen, ReadsStamped, repeats_at}
use Rattle.snap_format.proofs.StampOnce.{flips, one_by_key}

-- ---- a sort

-- by a key that no two of some events share, what does not fall rises
pub sorted_rise : (key : Stamped → ℕ) (xs ys : List Stamped) → IsDistinct (λ a b. a == b) (map key xs) → IsPermutation xs ys → IsNonDecreasingBy key ys → IsStrictlyIncreasing (map key ys)
sorted_rise key xs ys apart p up =
    IsStrictlyIncreasing-from_distinct (map key ys) falls_not
    (IsDistinct-IsPermutation eqb flips (map key xs) (map key ys) (IsPermutation-map key xs ys p) apart)
  where
    falls_not : IsNonDecreasingBy (λ n. n) (map key ys)
    falls_not i j d le lt =
        let size = length-map ys key in
        let short : j < length ys = omega (arith, size, lt) in
        let a = get_or-map key ys i nothing d (omega (arith, short, le)) in
        let b = get_or-map key ys j nothing d short in
        let u = up i j nothing le short in
        omega (arith, a, b, u)

pub rising_apart : (ns : List ℕ) → IsStrictlyIncreasing ns → IsDistinct (λ a b. a == b) ns
rising_apart ns up = IsDistinct-from_AllPairs Decides-eqb ns (λ i j d l lt e. let below = AllPairs-from_increasing ns up i j d l lt in omega (arith, below, e))

pub apart_before : (key : Stamped → ℕ) (xs ys : List Stamped) → IsPermutation xs ys → IsDistinct (λ a b. a == b) (map key ys) → IsDistinct (λ a b. a == b) (map key xs)
apart_before key xs ys p apart = IsDistinct-IsPermutation eqb flips (map key ys) (map key xs) (IsPermutation-map key ys xs (IsPermutation-sym xs ys p)) apart

-- neighbours in a list of events, as a loop reads them

no_fall : (xs : List Stamped) (i : ℕ) (x y : Stamped) → 0 < i → i < length xs → (get_or xs i x).at ≤ (get_or xs (i - 1) y).at → IsStrictlyIncreasing (stamps_of xs) → ⊥
no_fall xs i x y some lt le up =
    let size = length-map xs (λ (x : Stamped). x.at) in
    let next : i - 1 + 1 ≡ i = omega (arith, some) in
    let below = up (i - 1) (omega (arith, size, lt, some)) in
    let rise : slice_index (stamps_of xs) (i - 1) < slice_index (stamps_of xs) i = subst (λ n. slice_index (stamps_of xs) (i - 1) < slice_index (stamps_of xs) n) next below in
    let low = get_or-map (λ (x : Stamped). x.at) xs (i - 1) y 0 (omega (arith, lt)) in
    let high = get_or-map (λ (x : Stamped). x.at) xs i x 0 lt in
    omega (arith, rise, low, high, le)

pub falls : (xs : List Stamped) (i : ℕ) (x y : Stamped) → 0 < i → i < length xs → (get_or xs i x).at ≤ (get_or xs (i - 1) y).at → IsTrue false ↔ IsStrictlyIncreasing (stamps_of xs)
falls xs i x y some lt le = (λ t. absurd cc, λ up. absurd (no_fall xs i x y some lt le up))

pub rises_on : (xs : List Stamped) (i : ℕ) (x y : Stamped) → 0 < i → i < length xs → (get_or xs (i - 1) y).at < (get_or xs i x).at
    → ((k : ℕ) → k + 1 < i → slice_index (stamps_of xs) k < slice_index (stamps_of xs) (k + 1)) → (k : ℕ) → k + 1 < i + 1 → slice_index (stamps_of xs) k < slice_index (stamps_of xs) (k + 1)
rises_on xs i x y some lt less before k l = elim (cases_lt (k + 1) i) [
  | inl l ↦ before k l
  | inr le ↦
      let low = get_or-map (λ (x : Stamped). x.at) xs (i - 1) y 0 (omega (arith, lt)) in
      let high = get_or-map (λ (x : Stamped). x.at) xs i x 0 lt in
      let last : slice_index (stamps_of xs) (i - 1) < slice_index (stamps_of xs) i = omega (arith, low, high, less) in
      let here : i - 1 ≡ k = omega (arith, le, l) in
      let next : i ≡ k + 1 = omega (arith, le, l) in
      subst (λ n. slice_index (stamps_of xs) k < slice_index (stamps_of xs) n) next (subst (λ n. slice_index (stamps_of xs) n < slice_index (stamps_of xs) i) here last)
]

-- what a test for rising stamps of sorted events says of them in any order

-- stamps that do not rise once they are sorted are not apart
pub repeat_somewhere : (ys : List Stamped) (b : Bool) → IsNonDecreasingBy (λ (x : Stamped). x.at) ys → IsTrue b ↔ IsStrictlyIncreasing (stamps_of ys) → b ≡ false → ¬ IsDistinct (λ a b. a == b) (stamps_of ys)
repeat_somewhere ys b up rising fails apart =
    let yes : b ≡ true = rising.1 (sorted_rise (λ (x : Stamped). x.at) ys ys apart (IsPermutation-refl ys) up) in
    absurd cc

length_take_most : (i : ℕ) (xs : List Stamped) → length (take i xs) ≤ i
length_take_most zero xs = omega arith
length_take_most (suc i) [] = omega arith
length_take_most (suc i) (x ∷ xs) = let h = length_take_most i xs in omega arith

pub apart_if_rising : (xs ys : List Stamped) (b : Bool) → IsPermutation xs ys → IsTrue b ↔ IsStrictlyIncreasing (stamps_of ys) → b ≡ true → IsStrictlyIncreasing (stamps_of ys) × IsDistinct (λ a b. a == b) (stamps_of xs)
apart_if_rising xs ys b p rising holds =
    let up = rising.0 holds in
    (up, apart_before (λ (x : Stamped). x.at) xs ys p (rising_apart (stamps_of ys) up))

-- no stamp of some that are apart has an earlier one
pub none_repeats : (xs : List Stamped) → IsDistinct (λ a b. a == b) (stamps_of xs) → (i : ℕ) → i < length xs → repeats_at xs i ≡ false
none_repeats xs apart i lt = go (repeats_at xs i) refl
  where
    go : (b : Bool) → repeats_at xs i ≡ b → repeats_at xs i ≡ false
    go false e = e
    go true e =
        let (k, s, low, is, same) = Any-from_list_any (λ s. (get_or xs i nothing).at == s) (stamps_of (take i xs)) e in
        let size = length-map (take i xs) (λ (x : Stamped). x.at) in
        let before : k < length (take i xs) = omega (arith, size, low) in
        let less : k < i = omega (arith, before, length_take_most i xs) in
        let a = get_or-map (λ (x : Stamped). x.at) (take i xs) k nothing s before in
        let b = get_or-take i xs k nothing less in
        let c = get_or-map (λ (x : Stamped). x.at) xs k nothing s (omega (arith, less, lt)) in
        let d = get_or-map (λ (x : Stamped). x.at) xs i nothing s lt in
        let other = AllPairs-from_IsDistinct Decides-eqb (stamps_of xs) apart k i s less (omega (arith, length-map xs (λ (x : Stamped). x.at), lt)) in
        let equal : (get_or xs i nothing).at ≡ s = grind (arith, nat_tests, same) in
        absurd (other (c ∙ sym (ap (λ (x : Stamped). x.at) b) ∙ sym a ∙ is ∙ sym equal ∙ sym d))

-- ---- the first repeat, by a set

not_true : (b : Bool) → not b ≡ true → b ≡ false
not_true false e = refl
not_true true e = absurd (cc)

known_stamp : (seen : BTreeSet ℕ) (old : List Stamped) (at : ℕ) (b : Bool) → HasSeen seen old → contains nat_cmp seen at ≡ b → list_any (λ s. at == s) (stamps_of old) ≡ b
known_stamp seen old at b h e = sym (h.has at) ∙ e

at_is : (x q : ℕ) → is_at (nat_cmp x) q ≡ (q == x)
at_is x q = grind (arith, nat_tests)

pub seen_more : (old new : BTreeSet ℕ) (xs ys : List Stamped) (y : Stamped) → HasSeen old xs → Updates nat_cmp old new y.at true → not (contains nat_cmp old y.at) ≡ true → ys ≡ xs ++ y ∷ [] → HasSeen new ys
seen_more old new xs ys y h u n is =
    let stamps : stamps_of ys ≡ stamps_of xs ++ y.at ∷ [] = ap stamps_of is ∙ map-append (λ (x : Stamped). x.at) xs (y ∷ []) in
    record {
      has = λ q.
          u.0 q ∙ ap (λ b. cond b true (contains nat_cmp old q)) (at_is y.at q) ∙ either (q == y.at) (contains nat_cmp old q)
          ∙ ap (λ b. b || list_any (λ s. q == s) (y.at ∷ [])) (h.has q)
          ∙ sym (list_any-append (λ s. q == s) (stamps_of xs) (y.at ∷ []))
          ∙ ap (list_any (λ s. q == s)) (sym stamps);
      distinct = subst (IsDistinct (λ a b. a == b)) (sym stamps) (IsDistinct-push nat_eq_equiv (stamps_of xs) y.at h.distinct (known_stamp old xs y.at false h (not_true _ n)));
    }
  where
    either : (b c : Bool) → cond b true c ≡ (c || (b || false))
    either true true = refl
    either true false = refl
    either false true = refl
    either false false = refl

pub none_seen : (seen : BTreeSet ℕ) (xs : List Stamped) → seen.keys ≡ [] → xs ≡ [] → HasSeen seen xs
unfolding IsDistinct
none_seen seen xs e f = record { has = λ q. rw (e, f) refl; distinct = rw f tt }

-- the event at a place, as a loop reads it
at_place : (xs : List Stamped) (i : ℕ) (x : Stamped) → i < length xs → x ≡ get_or xs i x → x ≡ get_or xs i nothing
at_place xs i x lt is = is ∙ get_or_default xs i x nothing lt

pub seen_at : (seen : BTreeSet ℕ) (xs : List Stamped) (i : ℕ) (x : Stamped) (b : Bool) → i < length xs → x ≡ get_or xs i x → HasSeen seen (take i xs) → b ≡ not (contains nat_cmp seen x.at) → repeats_at xs i ≡ not b
seen_at seen xs i x b lt is h e =
    subst (λ (z : Stamped). list_any (λ s. z.at == s) (stamps_of (take i xs)) ≡ not b) (at_place xs i x lt is) (known_stamp seen (take i xs) x.at (not b) h (flipped b (contains nat_cmp seen x.at) e))
  where
    flipped : (b c : Bool) → b ≡ not c → c ≡ not b
    flipped true true e = absurd cc
    flipped true false e = refl
    flipped false true e = refl
    flipped false false e = absurd cc

pub seen_next : (old new : BTreeSet ℕ) (xs : List Stamped) (i : ℕ) (x : Stamped) → i < length xs → x ≡ get_or xs i x → HasSeen old (take i xs) → Updates nat_cmp old new x.at true → true ≡ not (contains nat_cmp old x.at) → HasSeen new (take (i + 1) xs)
seen_next old new xs i x lt is h u fresh =
    let longer : take (i + 1) xs ≡ take i xs ++ x ∷ [] = rw (add-one, take-suc xs i nothing lt) (ap (λ (z : Stamped). take i xs ++ z ∷ []) (sym (at_place xs i x lt is))) in
    seen_more old new (take i xs) (take (i + 1) xs) x h u (sym fresh) longer

pub first_repeat : (seen : BTreeSet ℕ) (xs : List Stamped) (i : ℕ) (x y : Stamped) → i < length xs → x ≡ get_or xs i x → y ≡ get_or xs i y → HasSeen seen (take i xs) → false ≡ not (contains nat_cmp seen x.at)
    → ((j : ℕ) → j < i → repeats_at xs j ≡ false) → FirstRepeat xs y.place
first_repeat seen xs i x y lt is too h known first = record {
  i = i;
  below = lt;
  record_is = ap (λ (z : Stamped). z.place) (at_place xs i y lt too);
  here = seen_at seen xs i x false lt is h known;
  first = first;
}

-- events by the numbers of their records are in the order of the text
pub text_order : (xs ys zs : List Stamped) → IsPermutation xs ys → IsStrictlyIncreasing (places_of xs) → IsPermutation ys zs → IsNonDecreasingBy (λ (x : Stamped). x.place) zs → zs ≡ xs
text_order xs ys zs p up q falls_not =
    let both = IsPermutation-trans xs ys zs p q in
    sym (one_by_key (λ (x : Stamped). x.place) xs zs both up (sorted_rise (λ (x : Stamped). x.place) xs zs (rising_apart (places_of xs) up) both falls_not))

-- ---- records and their repeats

-- an earlier stamp only adds a fault where there was none
none_else : (limit : Limit) (n : ℕ) (earlier : List ℕ) (r : Fields) (x : ℕ × Event) → shape_fault limit n [] r ≡ None → stamped_row r ≡ Ok x → shape_fault limit n earlier r ≡ repeat_fault earlier (Ok x)
unfolding shape_fault
none_else limit n earlier r x none is = go (length r == 5) (nat_le limit.events n) none
  where
    go : (b c : Bool) → cond (not b) (Some faults.Fields) (cond c (Some faults.TooMany) (repeat_fault [] (stamped_row r))) ≡ None
        → cond (not b) (Some faults.Fields) (cond c (Some faults.TooMany) (repeat_fault earlier (stamped_row r))) ≡ repeat_fault earlier (Ok x)
    go true false e = ap (repeat_fault earlier) is
    go true true e = absurd cc
    go false c e = absurd cc

still_faulty : (limit : Limit) (n : ℕ) (earlier : List ℕ) (r : Fields) (f : TextFault) → shape_fault limit n [] r ≡ Some f → shape_fault limit n earlier r ≡ Some f
unfolding shape_fault
still_faulty limit n earlier r f some = go (length r == 5) (nat_le limit.events n) (stamped_row r) some
  where
    go : (b c : Bool) (o : Result (ℕ × Event) TextFault) → cond (not b) (Some faults.Fields) (cond c (Some faults.TooMany) (repeat_fault [] o)) ≡ Some f
        → cond (not b) (Some faults.Fields) (cond c (Some faults.TooMany) (repeat_fault earlier o)) ≡ Some f
    go false c o e = e
    go true true o e = e
    go true false (Err g) e = e
    go true false (Ok x) e = absurd cc

taken_from : (place : ℕ) (rows : List Fields) (xs : List Stamped) → length xs ≤ length rows
    → ((i : ℕ) → i < length xs → (stamped_row (get_or rows i []) ≡ Ok ((get_or xs i nothing).at, (get_or xs i nothing).event)) × ((get_or xs i nothing).place ≡ place + i))
    → (j : ℕ) → j ≤ length xs → stamped_from place (take j rows) ≡ take j xs
taken_from place rows xs short each zero le = refl
taken_from place [] xs short each (suc j) le = absurd (omega arith)
taken_from place (r ∷ rows) [] short each (suc j) le = absurd (omega arith)
taken_from place (r ∷ rows) (x ∷ xs) short each (suc j) le =
    let h = each zero (omega arith) in
    let t = taken_from (place + 1) rows xs (omega (arith, short)) (λ i lt. let e = each (suc i) (omega (arith, lt)) in (e.0, omega (arith, e.1))) j (omega (arith, le)) in
    let p : place ≡ x.place = omega (arith, h.1) in
    rw (h.0, t) (ap (λ n. record { at = x.at; place = n; event = x.event } ∷ take j xs) p)

taken : (limit : Limit) (rows : List Fields) (xs : List Stamped) → FirstRecords limit rows xs → (j : ℕ) → j ≤ length xs → stamped_in (take j rows) ≡ take j xs
taken limit rows xs h j le = taken_from 2 rows xs h.within (λ i lt. let e = h.each i lt in (e.spells, omega (arith, e.numbered))) j le

-- the fault of a record that was taken is that its stamp repeats
fault_here : (limit : Limit) (rows : List Fields) (xs : List Stamped) → FirstRecords limit rows xs → (i : ℕ) → i < length xs → shape_at limit rows i ≡ cond (repeats_at xs i) (Some faults.Repeated) None
fault_here limit rows xs h i lt =
    let e = h.each i lt in
    ap (λ zs. shape_fault limit i (stamps_of zs) (get_or rows i [])) (taken limit rows xs h i (omega (arith, lt)))
    ∙ none_else limit i (stamps_of (take i xs)) (get_or rows i []) ((get_or xs i nothing).at, (get_or xs i nothing).event) e.fine e.spells

no_fault : (limit : Limit) (rows : List Fields) (xs : List Stamped) → FirstRecords limit rows xs → ((i : ℕ) → i < length xs → repeats_at xs i ≡ false) → NoneOf (shape_at limit rows) (length xs)
no_fault limit rows xs h none i lt = fault_here limit rows xs h i lt ∙ rw (none i lt) refl

-- the numbers of the records that were taken rise
pub places_rise : (limit : Limit) (rows : List Fields) (xs : List Stamped) → FirstRecords limit rows xs → IsStrictlyIncreasing (places_of xs)
places_rise limit rows xs h k lt =
    let size = length-map xs (λ (x : Stamped). x.place) in
    let next : k + 1 < length xs = omega (arith, size, lt) in
    let a = get_or-map (λ (x : Stamped). x.place) xs k nothing 0 (omega (arith, next)) in
    let b = get_or-map (λ (x : Stamped). x.place) xs (k + 1) nothing 0 next in
    let here = (h.each k (omega (arith, next))).numbered in
    let there = (h.each (k + 1) next).numbered in
    omega (arith, a, b, here, there)

pub repeat_stops : (limit : Limit) (rows : List Fields) (xs : List Stamped) (place : ℕ) → FirstRecords limit rows xs → FirstRepeat xs place → RefusesShapes limit rows (refusals.Text place faults.Repeated)
repeat_stops limit rows xs place h r = record {
  i = r.i;
  record_is = r.record_is ∙ (h.each r.i r.below).numbered;
  first = record {
    below = omega (arith, r.below, h.within);
    here = fault_here limit rows xs h r.i r.below ∙ rw r.here refl;
    first = λ j lt. fault_here limit rows xs h j (omega (arith, r.below, lt)) ∙ rw (r.first j lt) refl;
  };
}

pub fault_stops : (limit : Limit) (rows : List Fields) (xs : List Stamped) (e : ReadRefusal) → ReadsStamped limit rows xs (Err e) → IsDistinct (λ a b. a == b) (stamps_of xs) → RefusesShapes limit rows e
fault_stops limit rows xs (refusals.Text p f) (h, stops) apart =
    record {
      i = length xs;
      record_is = stops.1;
      first = record {
        below = stops.0;
        here = still_faulty limit (length xs) (stamps_of (stamped_in (take (length xs) rows))) (get_or rows (length xs) []) f stops.2;
        first = no_fault limit rows xs h (none_repeats xs apart);
      };
    }
fault_stops limit rows xs refusals.Device (h, stops) apart = stops
fault_stops limit rows xs refusals.Memory (h, stops) apart = tt

pub all_taken : (limit : Limit) (rows : List Fields) (xs : List Stamped) → ReadsStamped limit rows xs (Ok tt) → IsDistinct (λ a b. a == b) (stamps_of xs) → NoneOf (shape_at limit rows) (length rows) × (xs ≡ stamped_in rows)
all_taken limit rows xs (h, all) apart =
    let none = no_fault limit rows xs h (none_repeats xs apart) in
    let whole : take (length xs) rows ≡ rows = take_all (length xs) rows (omega (arith, all)) in
    (λ i lt. none i (omega (arith, lt, all)), sym (sym (ap stamped_in whole) ∙ taken limit rows xs h (length xs) (omega arith) ∙ take_all (length xs) xs (omega arith)))
