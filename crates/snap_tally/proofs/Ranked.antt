-- The ranks of the sums of views, given along their chain.
use Rattle.std.proofs.Common.{◌≡◌, ℕ, ◌+◌, ◌<◌, ◌≤◌, List, [], ◌∷◌, set, length, get_or, sym, ap, ◌∙◌, inl, inr, arith, get_or-set_same, get_or-set_other, length-set}
use Rattle.std.specs.Prelude.{nat_lt, ◌⊎◌}
use Rattle.std.specs.List.{Contains, range_with_len}
use Rattle.std.proofs.Math.Bool.{or-false}
use Rattle.std.proofs.lemmas.Bool.{cases_lt, lt-ltb, le-ltb, true_from_ne_false}
use Rattle.std.proofs.lemmas.List.{get_or_default}
use Rattle.std.proofs.lemmas.List.FromFn.{get_or-range_with_len, length-range_with_len}
use Rattle.std.proofs.lemmas.List.Sorted.{All-permutation, Contains-permutation, length_permutation}
use Rattle.snap_core.specs.declared.event.Event.{Event}
use Rattle.snap_core.specs.Bounded.{IsBoundedOrdered}
use Rattle.snap_core.specs.Calls.{Call, calls_of, views_of}
use Rattle.snap_grid.specs.Columns.{IsOrderedAs, number, any_passes}
use Rattle.snap_theory.specs.Faults.{exceeds}
use Rattle.snap_views.specs.Chains.{AreViewSums, IsViewChain}
use Rattle.snap_tally.specs.inside.Grids.{ShowAll}
use Rattle.snap_views.specs.Quick.{AreComparable, shown_sum}
use Rattle.snap_views.specs.Seen.{view_in}
use Rattle.snap_views.specs.declared.view_chain.ViewChain.{ViewChain}
use Rattle.snap_views.proofs.Chains.{no_more_by_sum, sum_in, sums_count, view_is}
use Rattle.snap_views.proofs.Quick.{no_greater}

-- all places of some sums, each once, along which the sums do not fall
pub record IsClimb (sums places : List ℕ) : Type 0 where
  pub count : length places ≡ length sums
  pub within : (i : ℕ) → i < length places → number places i < length sums
  pub apart : (i j : ℕ) → i < j → j < length places → ¬ (number places i ≡ number places j)
  pub rise : (i j : ℕ) → i < j → j < length places → number sums (number places i) ≤ number sums (number places j)
  pub all : (a : ℕ) → a < length sums → (i : ℕ) × (i < length places) × (number places i ≡ a)

-- a chain of views is one
pub is_climb : (calls : List Call) (chain : ViewChain) → IsViewChain calls chain → IsClimb chain.sums.items chain.places.items
is_climb calls chain h = record {
  count = length_permutation (range_with_len 0 n) places h.places.views ∙ length-range_with_len 0 n ∙ sym size;
  within = λ i l. omega (arith, size, inside i l);
  apart = λ i j l m e. elim (h.places.sorted i j 0 l m) [ inl less ↦ absurd (omega (arith, less, ap (λ z. shown_sum (view_in calls z)) e)) | inr same ↦ absurd (omega (arith, same.1, e)) ];
  rise = λ i j l m.
      let low = sum_in calls sums (number places i) 0 h.sums (inside i (omega (arith, l, m))) in
      let high = sum_in calls sums (number places j) 0 h.sums (inside j m) in
      elim (h.places.sorted i j 0 l m) [ inl less ↦ omega (arith, low, high, less) | inr same ↦ omega (arith, low, high, same.0) ];
  all = λ a l.
      let there : Contains (range_with_len 0 n) a = (let inside : a < n = omega (arith, l, size) in (a, omega (arith, inside, length-range_with_len 0 n), get_or-range_with_len 0 n a a inside ∙ (let e : 0 + a ≡ a = omega arith in e))) in
      let i = Contains-permutation (range_with_len 0 n) places a h.places.views there in
      (i.0, i.1, get_or_default places i.0 0 a i.1 ∙ i.2);
}
  where
    n : ℕ
    n = length (views_of calls)

    places : List ℕ
    places = chain.places.items

    sums : List ℕ
    sums = chain.sums.items

    size : length sums ≡ n
    size = sums_count calls sums h.sums

    inside : (i : ℕ) → i < length places → number places i < n
    inside i l = All-permutation (λ a. a < n) (range_with_len 0 n) places h.places.views (λ k d m. let o : k < n = omega (arith, m, length-range_with_len 0 n) in omega (arith, o, get_or-range_with_len 0 n k d o)) i 0 l

-- of the first n places of a chain the ranks compare as the sums do, with one another and with the last rank and sum
pub record AreRanked (sums places ranks : List ℕ) (n rank last : ℕ) : Type 0 where
  pub size : length ranks ≡ length sums
  pub few : rank ≤ n
  pub least : (i : ℕ) → n ≤ i → i < length places → last ≤ number sums (number places i)
  pub under : (i : ℕ) → i < n → number ranks (number places i) < n
  pub most : (i : ℕ) → i < n → number ranks (number places i) ≤ rank
  pub top : (i : ℕ) → i < n → number sums (number places i) ≤ last
  pub now : (i : ℕ) → i < n → nat_lt (number ranks (number places i)) rank ≡ nat_lt (number sums (number places i)) last
  pub order : (i j : ℕ) → i < n → j < n → nat_lt (number ranks (number places i)) (number ranks (number places j)) ≡ nat_lt (number sums (number places i)) (number sums (number places j))

-- the rank and the sum at the next place: its own where its sum is greater than the last, else the last
abbrev pub IsNext : (n rank last sum next_rank next_last : ℕ) → Type 0
IsNext n rank last sum next_rank next_last = ((last < sum) × (next_rank ≡ n) × (next_last ≡ sum)) ⊎ ((sum ≤ last) × (next_rank ≡ rank) × (next_last ≡ last))

-- how the earlier ranks compare with it
record IsAbove (sums places ranks : List ℕ) (n rank sum : ℕ) : Type 0 where
  few : rank ≤ n
  most : (i : ℕ) → i < n → number ranks (number places i) ≤ rank
  top : (i : ℕ) → i < n → number sums (number places i) ≤ sum
  now : (i : ℕ) → i < n → nat_lt (number ranks (number places i)) rank ≡ nat_lt (number sums (number places i)) sum

same_last : (sums places ranks : List ℕ) (n rank last r l : ℕ) → n < length places → AreRanked sums places ranks n rank last → IsNext n rank last (number sums (number places n)) r l → l ≡ number sums (number places n)
same_last sums places ranks n rank last r l within h (inl more) = more.2
same_last sums places ranks n rank last r l within h (inr same) = omega (arith, same.0, same.2, h.least n (omega arith) within)

is_above : (sums places ranks : List ℕ) (n rank last r l : ℕ) → n < length places → AreRanked sums places ranks n rank last → IsNext n rank last (number sums (number places n)) r l → IsAbove sums places ranks n r (number sums (number places n))
is_above sums places ranks n rank last r l within h (inl more) = record {
  few = omega (arith, more.1);
  most = λ i m. omega (arith, more.1, h.under i m);
  top = λ i m. omega (arith, more.0, h.top i m);
  now = λ i m. lt-ltb _ _ (omega (arith, more.1, h.under i m)) ∙ sym (lt-ltb _ _ (omega (arith, more.0, h.top i m)));
}
is_above sums places ranks n rank last r l within h (inr same) = record {
  few = omega (arith, same.1, h.few);
  most = λ i m. omega (arith, same.1, h.most i m);
  top = λ i m. omega (arith, is, h.top i m);
  now = λ i m. ap (nat_lt (number ranks (number places i))) same.1 ∙ h.now i m ∙ ap (nat_lt (number sums (number places i))) is;
}
  where
    is : last ≡ number sums (number places n)
    is = omega (arith, same.0, h.least n (omega arith) within)

-- one more rank
pub next_ranked : (sums places ranks : List ℕ) (n rank last r l : ℕ) → IsClimb sums places → n < length places → AreRanked sums places ranks n rank last → IsNext n rank last (number sums (number places n)) r l → AreRanked sums places (set ranks (number places n) r) (n + 1) r l
next_ranked sums places ranks n rank last r l c within h next = record {
  size = length-set ranks (number places n) r ∙ h.size;
  few = omega (arith, x.few);
  least = λ i m o. omega (arith, is, c.rise n i (omega (arith, m)) o);
  under = λ i m. elim (cases_lt i n) [ inl old ↦ omega (arith, kept i old, h.under i old) | inr new ↦ omega (arith, newest i m new, x.few) ];
  most = λ i m. elim (cases_lt i n) [ inl old ↦ omega (arith, kept i old, x.most i old) | inr new ↦ omega (arith, newest i m new) ];
  top = λ i m. elim (cases_lt i n) [ inl old ↦ omega (arith, is, x.top i old) | inr new ↦ omega (arith, is, sum_here i m new) ];
  now = λ i m. elim (cases_lt i n) [
    | inl old ↦ ap (λ z. nat_lt z r) (kept i old) ∙ x.now i old ∙ ap (nat_lt (number sums (number places i))) (sym is)
    | inr new ↦ le-ltb _ _ (omega (arith, newest i m new)) ∙ sym (le-ltb _ _ (omega (arith, is, sum_here i m new)))
  ];
  order = λ i j m o. elim (cases_lt i n) [
    | inl a ↦ elim (cases_lt j n) [
      | inl b ↦ ap (λ z. nat_lt z (number new (number places j))) (kept i a) ∙ ap (nat_lt (number ranks (number places i))) (kept j b) ∙ h.order i j a b
      | inr b ↦ ap (λ z. nat_lt z (number new (number places j))) (kept i a) ∙ ap (nat_lt (number ranks (number places i))) (newest j o b) ∙ x.now i a ∙ ap (nat_lt (number sums (number places i))) (sym (sum_here j o b))
    ]
    | inr a ↦ elim (cases_lt j n) [
      | inl b ↦ le-ltb _ _ (omega (arith, newest i m a, kept j b, x.most j b)) ∙ sym (le-ltb _ _ (omega (arith, sum_here i m a, x.top j b)))
      | inr b ↦ le-ltb _ _ (omega (arith, newest i m a, newest j o b)) ∙ sym (le-ltb _ _ (omega (arith, sum_here i m a, sum_here j o b)))
    ]
  ];
}
  where
    new : List ℕ
    new = set ranks (number places n) r

    is : l ≡ number sums (number places n)
    is = same_last sums places ranks n rank last r l within h next

    x : IsAbove sums places ranks n r (number sums (number places n))
    x = is_above sums places ranks n rank last r l within h next

    kept : (i : ℕ) → i < n → number new (number places i) ≡ number ranks (number places i)
    kept i m = get_or-set_other ranks (number places n) (number places i) r 0 (c.apart i n m within)

    newest : (i : ℕ) → i < n + 1 → n ≤ i → number new (number places i) ≡ r
    newest i m o = ap (λ z. number new (number places z)) (let e : i ≡ n = omega (arith, m, o) in e) ∙ get_or-set_same ranks (number places n) r 0 (omega (arith, h.size, c.within n within))

    sum_here : (i : ℕ) → i < n + 1 → n ≤ i → number sums (number places i) ≡ number sums (number places n)
    sum_here i m o = ap (λ z. number sums (number places z)) (let e : i ≡ n = omega (arith, m, o) in e)

-- once all places have ranks, these compare as the sums
pub all_ranked : (sums places ranks : List ℕ) (n rank last : ℕ) → IsClimb sums places → length places ≤ n → AreRanked sums places ranks n rank last → IsOrderedAs sums ranks
all_ranked sums places ranks n rank last c all h = record {
  count = h.size;
  order = λ a b l m.
      let i = c.all a l in
      let j = c.all b m in
      ap (λ z. nat_lt (number ranks z) (number ranks b)) (sym i.2) ∙ ap (λ z. nat_lt (number ranks (number places i.0)) (number ranks z)) (sym j.2)
      ∙ h.order i.0 j.0 (omega (arith, i.1, all)) (omega (arith, j.1, all))
      ∙ ap (λ z. nat_lt (number sums z) (number sums (number places j.0))) i.2 ∙ ap (λ z. nat_lt (number sums a) (number sums z)) j.2;
}

-- of comparable views one shows more of some component exactly where its sum is greater
more_by_sum : (es : List Event) → IsBoundedOrdered es → AreComparable (calls_of es) → (a b : ℕ) → a < length (views_of (calls_of es)) → b < length (views_of (calls_of es)) →
    exceeds (view_in (calls_of es) a) (view_in (calls_of es) b) ≡ nat_lt (shown_sum (view_in (calls_of es) b)) (shown_sum (view_in (calls_of es) a))
more_by_sum es kept h a b l m =
    let r = view_in (calls_of es) a in
    let s = view_in (calls_of es) b in
    elim (cases_lt (shown_sum s) (shown_sum r)) [
      | inl more ↦ true_from_ne_false (exceeds r s) (λ no. absurd (omega (arith, no_greater r s no, more))) ∙ sym (lt-ltb _ _ more)
      | inr less ↦ no_more_by_sum es kept h r s (view_is (calls_of es) a l) (view_is (calls_of es) b m) less ∙ sym (le-ltb _ _ less)
    ]

-- so that one column of numbers that compare as the sums do shows it
pub show_ranks : (es : List Event) → IsBoundedOrdered es → AreComparable (calls_of es) → (sums ranks : List ℕ) → AreViewSums (calls_of es) sums → IsOrderedAs sums ranks → ShowAll (calls_of es) (ranks ∷ [])
unfolding any_passes
show_ranks es kept h sums ranks are r = record {
  count = λ j m. elim (cases_lt 0 j) [ inl more ↦ absurd (omega (arith, m, more)) | inr none ↦ ap (λ z. length (get_or (ranks ∷ []) z [])) (let e : j ≡ 0 = omega (arith, none) in e) ∙ r.count ∙ size ];
  exceed = λ a b l m.
      more_by_sum es kept h a b l m
      ∙ ap (λ z. nat_lt z (shown_sum (view_in calls a))) (sym (sum_in calls sums b 0 are m)) ∙ ap (nat_lt (number sums b)) (sym (sum_in calls sums a 0 are l))
      ∙ sym (r.order b a (omega (arith, m, size)) (omega (arith, l, size)))
      ∙ sym (or-false (nat_lt (number ranks b) (number ranks a)));
}
  where
    calls : List Call
    calls = calls_of es

    size : length sums ≡ length (views_of calls)
    size = sums_count calls sums are
