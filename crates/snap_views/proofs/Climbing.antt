-- A row into which the numbers of a view are taken, entry by entry.
use Rattle.std.proofs.Common.{◌≡◌, ℕ, zero, suc, ◌+◌, ◌<◌, ◌≤◌, ◌↔◌, true, List, replicate, set, length, get_or, min, refl, sym, ap, ◌∙◌, inl, inr, arith, get_or-set_same, get_or-set_other, length-set}
use Rattle.std.specs.Prelude.{◌==◌, ◌⊎◌}
use Rattle.std.specs.List.{All, sum_by, range_with_len}
use Rattle.std.proofs.Math.Nat.{min-le_left, min-le_right}
use Rattle.std.proofs.lemmas.Bool.{cases_lt, cases_eq, eqb-true, eq-eqb}
use Rattle.std.proofs.lemmas.List.{get_or_default, get_or-replicate}
use Rattle.std.proofs.lemmas.List.Sums.{sum_by-cons}
use Rattle.snap_core.specs.declared.entry.Entry.{Entry}
use Rattle.snap_core.specs.declared.event.Event.{Event}
use Rattle.snap_core.specs.Entries.{AreEntries, number_in}
use Rattle.snap_core.specs.Bounded.{IsBoundedOrdered}
use Rattle.snap_core.specs.Calls.{Call, calls_of, entries_of, shown_number}
use Rattle.snap_views.specs.inside.Chains.{IsSummed, Climbs}
use Rattle.snap_views.specs.Quick.{shown_sum}
use Rattle.snap_views.specs.Seen.{view_in}
use Rattle.snap_views.specs.Rows.{number_among, row_number, sum_below, AreNumbersOf}
use Rattle.snap_views.proofs.Compared.{IsCompared, lesser_at, not_compared, compared_next, AreWhole, are_whole, less_there}
use Rattle.snap_theory.proofs.Entries.{nothing, sorted}
use Rattle.snap_views.proofs.Rows.{entry_at}
use Rattle.snap_views.proofs.Sums.{sum_none, sum_more, sum_skip, sum_le, sum_less}
use Rattle.snap_views.proofs.Chains.{view_is}
use Rattle.snap_theory.proofs.Exceeding.{exceeds_not, not_exceeds}
use Rattle.snap_views.proofs.Shown.{seen_number, small}
use Rattle.snap_theory.proofs.Components.{fit_views}

-- a row of which the numbers of the entries before place i were taken in
pub record IsTaken (old numbers : List ℕ) (ds : List Entry) (i lesser : ℕ) : Type 0 where
  pub edge : ℕ
  pub sum : ℕ
  pub compared : IsCompared old ds i edge lesser sum
  pub size : length numbers ≡ 256
  pub left : (k : ℕ) → edge ≤ k → k < 256 → row_number numbers k ≡ row_number old k
  pub taken : (k : ℕ) → k < edge → (row_number numbers k ≡ number_among ds k) ⊎ ((number_among ds k ≡ 0) × (row_number numbers k ≡ row_number old k))

pub none_taken : (old : List ℕ) (ds : List Entry) → AreEntries ds → length old ≡ 256 → IsTaken old old ds 0 0
none_taken old ds h size = record {
  edge = 0;
  sum = 0;
  compared = not_compared old ds h;
  size = size;
  left = λ k l m. refl;
  taken = λ k l. absurd (omega arith);
}

pub one_taken : (old numbers : List ℕ) (ds : List Entry) (i lesser new_lesser : ℕ) → AreEntries ds → i < length ds → IsTaken old numbers ds i lesser →
    new_lesser ≡ lesser + min (get_or ds i nothing).number (row_number numbers (get_or ds i nothing).component) →
    IsTaken old (set numbers (get_or ds i nothing).component (get_or ds i nothing).number) ds (i + 1) new_lesser
one_taken old numbers ds i lesser new_lesser h l t a = record {
  edge = c + 1;
  sum = t.sum + e.number;
  compared = compared_next old ds i t.edge lesser t.sum new_lesser (t.sum + e.number) h l (a ∙ ap (λ n. lesser + min e.number n) (t.left c reached small)) refl t.compared;
  size = length-set numbers c e.number ∙ t.size;
  left = λ k m n. get_or-set_other numbers c k e.number 0 (λ q. absurd (omega (arith, q, m))) ∙ t.left k (omega (arith, m, reached)) n;
  taken = λ k m. elim (cases_eq k c) [
    | inl same ↦ inl (ap (row_number (set numbers c e.number)) same ∙ get_or-set_same numbers c e.number 0 (omega (arith, small, t.size)) ∙ sym (ap (number_among ds) same ∙ own))
    | inr other ↦
        let keeps : row_number (set numbers c e.number) k ≡ row_number numbers k = get_or-set_other numbers c k e.number 0 other in
        elim (cases_lt k t.edge) [
          | inl b ↦ elim (t.taken k b) [ inl is ↦ inl (keeps ∙ is) | inr none ↦ inr (none.0, keeps ∙ none.1) ]
          | inr b ↦ inr (t.compared.gap k b (λ _. omega (arith, m, other)), keeps ∙ t.left k b (omega (arith, m, small)))
        ]
  ];
}
  where
    e : Entry
    e = get_or ds i nothing

    c : ℕ
    c = e.component

    small : c < 256
    small = (h.fit i nothing l).0

    reached : t.edge ≤ c
    reached = t.compared.reached l

    own : number_among ds c ≡ e.number
    own = ap number_in (entry_at ds i nothing (sorted ds h) l)

-- no component of the row was above the entries exactly where the lesser numbers have the sum of the row
pub below_by_sum : (old numbers : List ℕ) (ds : List Entry) (i lesser sum : ℕ) → length ds ≤ i → IsTaken old numbers ds i lesser → sum ≡ sum_below (row_number old) 256 →
    (lesser == sum) ≡ true ↔ ((k : ℕ) → k < 256 → row_number old k ≤ number_among ds k)
below_by_sum old numbers ds i lesser sum l t s = (
  λ q k m. elim (cases_lt (number_among ds k) (row_number old k)) [
    | inl less ↦ absurd (let more = sum_less (lesser_at old ds) (row_number old) (λ j. min-le_right (number_among ds j) (row_number old j)) 256 k m (let n = min-le_left (number_among ds k) (row_number old k) in omega (arith, less, n)) in
        let same = eqb-true lesser sum q in omega (arith, more, same, s, w.lesser_is))
    | inr le ↦ le
  ],
  λ h. eq-eqb lesser sum (omega (arith, s, w.lesser_is, at_most, at_least h)),
)
  where
    w : AreWhole old ds lesser t.sum
    w = are_whole old ds i t.edge lesser t.sum l t.compared

    at_most : sum_below (lesser_at old ds) 256 ≤ sum_below (row_number old) 256
    at_most = sum_le (lesser_at old ds) (row_number old) (λ j. min-le_right (number_among ds j) (row_number old j)) 256

    at_least : ((k : ℕ) → k < 256 → row_number old k ≤ number_among ds k) → sum_below (row_number old) 256 ≤ sum_below (lesser_at old ds) 256
    at_least h = elim (cases_lt (sum_below (lesser_at old ds) 256) (sum_below (row_number old) 256)) [
      | inl less ↦ absurd (let m = less_there old ds 256 (omega arith) less in omega (arith, m.2, h m.0 m.1))
      | inr le ↦ le
    ]

-- and the row is the entries' then
pub all_taken : (old numbers : List ℕ) (ds : List Entry) (i lesser : ℕ) → length ds ≤ i → IsTaken old numbers ds i lesser → ((k : ℕ) → k < 256 → row_number old k ≤ number_among ds k) → AreNumbersOf ds numbers
all_taken old numbers ds i lesser l t h k m = elim (cases_lt k t.edge) [
  | inl b ↦ elim (t.taken k b) [ inl is ↦ is | inr none ↦ nothing_shown none.0 none.1 ]
  | inr b ↦ nothing_shown (t.compared.gap k b (λ n. absurd (omega (arith, n, l)))) (t.left k b m)
]
  where
    nothing_shown : number_among ds k ≡ 0 → row_number numbers k ≡ row_number old k → row_number numbers k ≡ number_among ds k
    nothing_shown z e = omega (arith, z, e, h k m)

-- the sum of a view is that of its row
pub shown_sum_of_row : (r : Call) (numbers : List ℕ) → ((k : ℕ) → k < 256 → row_number numbers k ≡ shown_number r k) → shown_sum r ≡ sum_below (row_number numbers) 256
unfolding shown_sum
shown_sum_of_row r numbers h = omega (arith, go 256 0 (omega arith), sum_none_below)
  where
    sum_none_below : sum_below (row_number numbers) 0 ≡ 0
    sum_none_below = sum_none (row_number numbers)

    go : (n a : ℕ) → a + n ≤ 256 → sum_below (row_number numbers) (a + n) ≡ sum_below (row_number numbers) a + sum_by (shown_number r) (range_with_len a n)
    go zero a l = omega (arith, ap (sum_below (row_number numbers)) (let e : a + 0 ≡ a = omega arith in e))
    go (suc n) a l =
        let same = ap (sum_below (row_number numbers)) (let e : a + suc n ≡ (a + 1) + n = omega arith in e) in
        omega (arith, same, go n (a + 1) (omega (arith, l)), sum_more (row_number numbers) a, h a (omega (arith, l)), sum_by-cons (shown_number r) a (range_with_len (a + 1) n))

-- the row has the numbers of the last of the first views
pub record IsRowOfLast (calls : List Call) (keys : List (ℕ × ℕ)) (n : ℕ) (numbers : List ℕ) : Type 0 where
  pub none : n ≡ 0 → (k : ℕ) → k < 256 → row_number numbers k ≡ 0
  pub is : (i : ℕ) (d : ℕ × ℕ) → n ≡ suc i → (k : ℕ) → k < 256 → row_number numbers k ≡ shown_number (view_in calls (get_or keys i d).1) k

pub no_view_taken : (calls : List Call) (keys : List (ℕ × ℕ)) → IsRowOfLast calls keys 0 (replicate 256 0)
no_view_taken calls keys = record { none = λ z k l. get_or-replicate 256 k 0 0 l; is = λ i d e. absurd (omega (arith, e)) }

pub nothing_climbs : (calls : List Call) (keys : List (ℕ × ℕ)) → Climbs calls keys 0
nothing_climbs calls keys = record { each = λ i d l. absurd (omega (arith, l)) }

pub no_sum : sum_below (row_number (replicate 256 0)) 256 ≡ 0
no_sum = sum_skip (row_number (replicate 256 0)) 0 256 256 (omega arith) (λ j l m. get_or-replicate 256 j 0 0 m) ∙ sum_none (row_number (replicate 256 0))

-- where the views climb, the row is below the next
pub row_below : (calls : List Call) (keys : List (ℕ × ℕ)) (n : ℕ) (numbers : List ℕ) (ds : List Entry) → n < length keys → IsRowOfLast calls keys n numbers → ds ≡ entries_of (view_in calls (get_or keys n (0, 0)).1).operation →
    Climbs calls keys (length keys) → (k : ℕ) → k < 256 → row_number numbers k ≤ number_among ds k
row_below calls keys zero numbers ds l row e c k m = omega (arith, row.none refl k m)
row_below calls keys (suc n) numbers ds l row e c k m =
    omega (arith, row.is n (0, 0) refl k m, exceeds_not _ _ k (c.each n (0, 0) l), seen_number (view_in calls (get_or keys (suc n) (0, 0)).1) ds k e)

-- the row of the next view
pub row_taken : (calls : List Call) (keys : List (ℕ × ℕ)) (n : ℕ) (numbers : List ℕ) (ds : List Entry) → n < length keys → ds ≡ entries_of (view_in calls (get_or keys n (0, 0)).1).operation → AreNumbersOf ds numbers → IsRowOfLast calls keys (n + 1) numbers
row_taken calls keys n numbers ds l e h = record {
  none = λ z. absurd (omega (arith, z));
  is = λ i d same k m.
      let at : n ≡ i = omega (arith, same) in
      h k m ∙ seen_number (view_in calls (get_or keys n (0, 0)).1) ds k e
      ∙ ap (λ (z : ℕ × ℕ). shown_number (view_in calls z.1) k) (get_or_default keys n (0, 0) d l)
      ∙ ap (λ z. shown_number (view_in calls (get_or keys z d).1) k) at;
}

pub sum_taken : (r : Call) (numbers : List ℕ) (ds : List Entry) → ds ≡ entries_of r.operation → AreNumbersOf ds numbers → shown_sum r ≡ sum_below (row_number numbers) 256
sum_taken r numbers ds e h = shown_sum_of_row r numbers (λ k l. h k l ∙ seen_number r ds k e)

-- where the row is below the next view, one more view climbs
pub one_climbs : (es : List Event) → IsBoundedOrdered es → (keys : List (ℕ × ℕ)) → All (IsSummed (calls_of es)) keys → (n : ℕ) (numbers : List ℕ) (ds : List Entry) → n < length keys → IsRowOfLast (calls_of es) keys n numbers →
    ds ≡ entries_of (view_in (calls_of es) (get_or keys n (0, 0)).1).operation → ((k : ℕ) → k < 256 → row_number numbers k ≤ number_among ds k) → Climbs (calls_of es) keys n → Climbs (calls_of es) keys (n + 1)
one_climbs es kept keys all n numbers ds l row e below c = record {
  each = λ i d m. elim (cases_eq (suc i) n) [
    | inl last ↦
        let calls = calls_of es in
        let r = view_in calls (get_or keys i d).1 in
        let s = view_in calls (get_or keys (suc i) d).1 in
        let same : view_in calls (get_or keys n (0, 0)).1 ≡ s = ap (λ (z : ℕ × ℕ). view_in calls z.1) (get_or_default keys n (0, 0) d l) ∙ ap (λ z. view_in calls (get_or keys z d).1) (sym last) in
        not_exceeds r s (λ k. elim (cases_lt 0 (shown_number r k)) [
          | inl some ↦
              let fits = fit_views es kept.fit r (view_is calls (get_or keys i d).1 (all i d (omega (arith, last, l))).0).there in
              let byte = small r k fits some in
              omega (arith, row.is i d (sym last) k byte, below k byte, seen_number s ds k (e ∙ ap (λ (z : Call). entries_of z.operation) same))
          | inr none ↦ omega (arith, none)
        ])
    | inr other ↦ c.each i d (omega (arith, m, other))
  ];
}
