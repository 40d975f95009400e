-- Each text is one of a history, or it has a first fault.
use Rattle.std.proofs.Common.{◌≡◌, ◌<◌, ◌≤◌, ◌+◌, ◌++◌, ◌||◌, cond, inl, inr, ℕ, zero, suc, Bool, true, false, not, List, [], ◌∷◌, length, get_or, take, Option, Some, None, Result, Ok, Err, refl, arith, ◌∙◌, sym, ap, subst, add-one}
use Rattle.snap_core.specs.declared.limit.Limit.{Limit}
use Rattle.std.specs.Prelude.{◌==◌, ◌≢◌, ◌⊎◌, nat_le}
use Rattle.std.specs.List.{list_any}
use Rattle.std.specs.List.Sorted.{IsPermutation, IsStrictlyIncreasing}
use borrow.Author.Count.{below_more}
use Rattle.std.proofs.lemmas.Bool.{cases_lt}
use Rattle.std.proofs.lemmas.Bool.Decides.{nat_tests}
use Rattle.std.proofs.lemmas.List.{take_all}
use Rattle.std.proofs.lemmas.List.Sorted.{IsPermutation-cons, IsPermutation-insert, IsPermutation-map, IsPermutation-refl, IsPermutation-to_front, IsPermutation-trans, list_any-IsPermutation}
use Rattle.std.proofs.Math.Seq.{take-suc}
use Rattle.snap_core.specs.declared.event.Event.{Event}
use Rattle.snap_text.specs.declared.fault.TextFault.{TextFault}
use Rattle.snap_text.specs.declared.fault.TextFault.TheVariants as faults
use Rattle.snap_format.specs.declared.stamped.Stamped.{Stamped}
use Rattle.snap_text.specs.Fields.{Fields}
use Rattle.snap_format.specs.Rows.{rows_of}
use Rattle.snap_format.specs.Layout.{is_header_row, is_stamped_header_row}
use Rattle.snap_format.specs.Faults.{events_in, fault_at}
use Rattle.snap_format.specs.Stamps.{FirstOf, InOrder, NoneOf, StampedFault, StampedRead, events_of, nothing, order_at, repeat_fault, shape_at, shape_fault, stamped_from, stamped_in, stamped_row, stamps_of, with_stamped}
use Rattle.snap_format.specs.Texts.{HasFault, IsText, RowsFault, RowsRead, bytes_within}

-- none of so many has a fault, or one of them has the first
first_of : (fault : ℕ → Option TextFault) (n : ℕ) → NoneOf fault n ⊎ ((i : ℕ) × (f : TextFault) × FirstOf fault n i f)
first_of fault zero = inl (λ i lt. absurd (omega arith))
first_of fault (suc n) = elim (first_of fault n) [
  | inl none ↦ last (fault n) refl none
  | inr found ↦ inr (found.0, found.1, record { below = let lt = found.2.below in omega arith; here = found.2.here; first = found.2.first })
]
  where
    last : (o : Option TextFault) → fault n ≡ o → NoneOf fault n → NoneOf fault (suc n) ⊎ ((i : ℕ) × (f : TextFault) × FirstOf fault (suc n) i f)
    last None is none = inl (λ i lt. below_more (λ j. fault j ≡ None) n none is i (omega arith))
    last (Some f) is none = inr (n, f, record { below = omega arith; here = is; first = none })

-- ---- stamped events have an order

Above : ℕ → List Stamped → Type 0
Above n [] = Unit {0}
Above n (y ∷ ys) = (n < y.at) × Above n ys

Apart : ℕ → List Stamped → Type 0
Apart n [] = Unit {0}
Apart n (y ∷ ys) = (n ≢ y.at) × Apart n ys

Rises : List Stamped → Type 0
Rises [] = Unit {0}
Rises (x ∷ xs) = Above x.at xs × Rises xs

lower : (m n : ℕ) (ys : List Stamped) → m < n → Above n ys → Above m ys
unfolding Above
lower m n [] lt a = tt
lower m n (y ∷ ys) lt a = (let l = a.0 in omega arith, lower m n ys lt a.1)

-- some events that rise, and one more
record OneMore (x : Stamped) (ys : List Stamped) : Type 0 where
  all : List Stamped
  same : IsPermutation (x ∷ ys) all
  rise : Rises all
  above : (n : ℕ) → n < x.at → Above n ys → Above n all

one_more : (x : Stamped) (ys : List Stamped) → Apart x.at ys → Rises ys → OneMore x ys
unfolding Above Apart Rises
one_more x [] apart up = record { all = x ∷ []; same = IsPermutation-refl (x ∷ []); rise = (tt, tt); above = λ n lt a. (lt, tt) }
one_more x (y ∷ ys) apart up = elim (cases_lt x.at y.at) [
  | inl lt ↦ record { all = x ∷ y ∷ ys; same = IsPermutation-refl (x ∷ y ∷ ys); rise = ((lt, lower x.at y.at ys lt up.0), up); above = λ n l a. (l, a) }
  | inr le ↦
      let more = one_more x ys apart.1 up.1 in
      let other = apart.0 in
      let lt : y.at < x.at = omega (arith, le, other) in
      record {
        all = y ∷ more.all;
        same = IsPermutation-trans (x ∷ y ∷ ys) (y ∷ x ∷ ys) (y ∷ more.all) (IsPermutation-insert (y ∷ ys) 1 x) (IsPermutation-cons y (x ∷ ys) more.all more.same);
        rise = (more.above y.at lt up.0, more.rise);
        above = λ n l a. (a.0, more.above n l a.1);
      }
]

apart_of : (n : ℕ) (ys : List Stamped) → list_any (λ s. n == s) (stamps_of ys) ≡ false → Apart n ys
unfolding Apart
apart_of n [] e = tt
apart_of n (y ∷ ys) e = go (n == y.at) refl (apart_of n ys) e
  where
    go : (b : Bool) → (n == y.at) ≡ b → (list_any (λ s. n == s) (stamps_of ys) ≡ false → Apart n ys) → (b || list_any (λ s. n == s) (stamps_of ys)) ≡ false → (n ≢ y.at) × Apart n ys
    go true is later h = absurd cc
    go false is later h = (λ same. let test : (n == y.at) ≡ true = grind (arith, nat_tests) in cc, later h)

climbs : (ys : List Stamped) → Rises ys → IsStrictlyIncreasing (stamps_of ys)
unfolding Rises Above
climbs [] up k lt = absurd (omega arith)
climbs (x ∷ []) up k lt = absurd (omega arith)
climbs (x ∷ y ∷ ys) up zero lt = up.0.0
climbs (x ∷ y ∷ ys) up (suc k) lt = rw add-one (rw add-one at (climbs (y ∷ ys) up.1 k (omega (arith, lt))))

-- the last of some records has one stamped event more

with_more : (place : ℕ) (o : Result (ℕ × Event) TextFault) (later more : List Stamped) → with_stamped place o (later ++ more) ≡ with_stamped place o later ++ more
with_more place (Ok x) later more = refl
with_more place (Err f) later more = refl

stamped_last : (place : ℕ) (rows : List Fields) (r : Fields) (x : ℕ × Event) (n : ℕ) → stamped_row r ≡ Ok x → n ≡ place + length rows
    → stamped_from place (rows ++ r ∷ []) ≡ stamped_from place rows ++ record { at = x.0; place = n; event = x.1 } ∷ []
stamped_last place [] r x n is at = let here : n ≡ place = omega (arith, at) in rw (is, here) refl
stamped_last place (q ∷ rows) r x n is at =
    ap (with_stamped place (stamped_row q)) (stamped_last (place + 1) rows r x n is (omega (arith, at)))
    ∙ with_more place (stamped_row q) (stamped_from (place + 1) rows) (record { at = x.0; place = n; event = x.1 } ∷ [])

unrepeated : (b : Bool) → cond b (Some faults.Repeated) None ≡ None → b ≡ false
unrepeated true h = absurd cc
unrepeated false h = refl

-- a record without a fault has a stamp and an event, and no earlier record has its stamp
pub fresh_then : (limit : Limit) (n : ℕ) (earlier : List ℕ) (r : Fields) → shape_fault limit n earlier r ≡ None → (x : ℕ × Event) × (stamped_row r ≡ Ok x) × (list_any (λ s. x.0 == s) earlier ≡ false)
unfolding shape_fault
fresh_then limit n earlier r h = go (length r == 5) (nat_le limit.events n) (stamped_row r) h
  where
    go : (b c : Bool) (o : Result (ℕ × Event) TextFault) → cond (not b) (Some faults.Fields) (cond c (Some faults.TooMany) (repeat_fault earlier o)) ≡ None → (x : ℕ × Event) × (o ≡ Ok x) × (list_any (λ s. x.0 == s) earlier ≡ false)
    go true false (Ok x) h = (x, refl, unrepeated (list_any (λ s. x.0 == s) earlier) h)
    go true false (Err f) h = absurd cc
    go true true o h = absurd cc
    go false c o h = absurd cc

-- the stamped events of the first records in the order of their stamps
record Ordered (rows : List Fields) : Type 0 where
  all : List Stamped
  same : IsPermutation (stamped_in rows) all
  rise : Rises all

ordered : (limit : Limit) (rows : List Fields) → NoneOf (shape_at limit rows) (length rows) → (n : ℕ) → n ≤ length rows → Ordered (take n rows)
unfolding Rises
ordered limit rows none zero le = record { all = []; same = IsPermutation-refl []; rise = tt }
ordered limit rows none (suc n) le =
    let o = ordered limit rows none n (omega arith) in
    let before = stamped_in (take n rows) in
    let (x, is, fresh) = fresh_then limit n (stamps_of before) (get_or rows n []) (none n (omega arith)) in
    let s : Stamped = record { at = x.0; place = 2 + length (take n rows); event = x.1 } in
    let longer : stamped_in (take (suc n) rows) ≡ before ++ s ∷ [] = ap stamped_in (take-suc rows n [] (omega arith)) ∙ stamped_last 2 (take n rows) (get_or rows n []) x (2 + length (take n rows)) is refl in
    let none_of : list_any (λ q. x.0 == q) (stamps_of o.all) ≡ false = sym (list_any-IsPermutation (λ q. x.0 == q) (stamps_of before) (stamps_of o.all) (IsPermutation-map (λ (s : Stamped). s.at) before o.all o.same)) ∙ fresh in
    let more = one_more s o.all (apart_of x.0 o.all none_of) o.rise in
    record {
      all = more.all;
      same =
          subst (λ l. IsPermutation l more.all) (sym longer)
          (IsPermutation-trans (before ++ s ∷ []) (s ∷ before) more.all (IsPermutation-to_front before s) (IsPermutation-trans (s ∷ before) (s ∷ o.all) more.all (IsPermutation-cons s before o.all o.same) more.same));
      rise = more.rise;
    }

order_of : (limit : Limit) (rows : List Fields) → NoneOf (shape_at limit rows) (length rows) → (xs : List Stamped) × InOrder rows xs
order_of limit rows none =
    let o = ordered limit rows none (length rows) (omega arith) in
    let whole : take (length rows) rows ≡ rows = take_all (length rows) rows (omega arith) in
    (o.all, record { same = subst (λ r. IsPermutation (stamped_in r) o.all) whole o.same; rising = climbs o.all o.rise })

-- ---- each text

Decided : (List Event → Type 0) → (ℕ → TextFault → Type 0) → Type 0
Decided Read Fault = ((events : List Event) × Read events) ⊎ ((place : ℕ) × (fault : TextFault) × Fault place fault)

stamps_decided : (limit : Limit) (rows : List Fields) → Decided (StampedRead limit rows) (StampedFault limit rows)
unfolding Decided
stamps_decided limit rows = elim (first_of (shape_at limit rows) (length rows)) [
  | inl none ↦
      let (xs, order) = order_of limit rows none in
      elim (first_of (order_at limit xs) (length xs)) [
        | inl fine ↦ inl (events_of xs, record { shapes = none; sorted = xs; order = order; fine = fine; history = refl })
        | inr (i, f, first) ↦ inr ((get_or xs i nothing).place, f, inr (record { shapes = none; sorted = xs; order = order; i = i; first = first; record_is = refl }))
      ]
  | inr (i, f, first) ↦ inr (i + 2, f, inl (record { i = i; record_is = refl; first = first }))
]

rows_decided : (limit : Limit) (rows : List Fields) → Decided (RowsRead limit rows) (RowsFault limit rows)
unfolding Decided
rows_decided limit [] = inr (1, faults.Header, (refl, refl))
rows_decided limit (head ∷ rows) = go (is_header_row head) refl (is_stamped_header_row head) refl
  where
    go : (b : Bool) → is_header_row head ≡ b → (s : Bool) → is_stamped_header_row head ≡ s → Decided (RowsRead limit (head ∷ rows)) (RowsFault limit (head ∷ rows))
    go true is s stamped = elim (first_of (fault_at limit rows) (length rows)) [
      | inl none ↦ inl (events_in rows, inl (is, none, refl))
      | inr (i, f, first) ↦ inr (i + 2, f, inr (inl (is, i, refl, record { place = first.below; fault = first.here; first = first.first })))
    ]
    go false is true stamped = elim (stamps_decided limit rows) [
      | inl (events, read) ↦ inl (events, inr (stamped, read))
      | inr (place, f, fault) ↦ inr (place, f, inr (inr (stamped, fault)))
    ]
    go false is false stamped = inr (1, faults.Header, inl (is, stamped, refl, refl))

pub text_decided : (limit : Limit) (text : List ℕ) → ((events : List Event) × IsText limit text events) ⊎ ((place : ℕ) × (fault : TextFault) × HasFault limit text place fault)
unfolding Decided
text_decided limit text = elim (cases_lt (bytes_within limit) (length text)) [
  | inl long ↦ inr (0, faults.TooLong, inl (long, refl, refl))
  | inr short ↦ elim (rows_decided limit (rows_of text)) [
    | inl (events, read) ↦ inl (events, (short, read))
    | inr (place, f, fault) ↦ inr (place, f, inr (short, fault))
  ]
]
