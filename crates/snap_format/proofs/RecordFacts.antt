-- The record of each event's number spells it.
use Rattle.std.proofs.Common.{◌≡◌, ◌<◌, ◌+◌, ◌^◌, ◌==◌, cond, inl, inr, ℕ, suc, Bool, true, false, not, List, [], ◌∷◌, length, map, get_or, Some, None, Result, Ok, Err, refl, arith, ◌∙◌, sym, ap, subst}
use Rattle.snap_core.specs.declared.limit.Limit.{Limit}
use Rattle.std.specs.Prelude.{decimal, nat_le, slice_get}
use Rattle.std.specs.List.{IsDistinct, range_with_len}
use Rattle.std.proofs.lemmas.Bool.Decides.{nat_tests}
use Rattle.std.proofs.lemmas.List.{get_or-map, length-map}
use Rattle.std.proofs.lemmas.List.Elements.{Contains-get_or}
use Rattle.std.proofs.lemmas.List.FromFn.{get_or-range_with_len, length-range_with_len}
use Rattle.std.proofs.lemmas.List.Sorted.{Contains-permutation, IsPermutation-map, IsPermutation-sym}
use Rattle.std.proofs.lemmas.Map.Keys.{IsDistinct-IsPermutation, IsDistinct-from_apart}
use Rattle.std.proofs.lemmas.Option.{get_or_from_slice_get, slice_get-get_or, slice_get-map, slice_get_within}
use Rattle.snap_core.specs.declared.event.Event.{Event}
use Rattle.snap_text.specs.declared.fault.TextFault.{TextFault}
use Rattle.snap_text.specs.declared.fault.TextFault.TheVariants as faults
use Rattle.snap_format.specs.declared.stamped.Stamped.{Stamped}
use Rattle.snap_text.specs.Fields.{◌>>=◌, Fields, event_of, number_at, or_fault, row_event}
use Rattle.snap_format.specs.Rows.{rows_of}
use Rattle.snap_format.specs.Faults.{NoFault, events_in, fault_with, row_fault}
use Rattle.snap_format.specs.Stamps.{InOrder, NoneOf, events_of, nothing, places_of, repeat_fault, shape_at, shape_fault, stamped_from, stamped_in, stamped_row}
use Rattle.snap_text.specs.Spelling.{spelled}
use Rattle.snap_format.specs.Layout.{stamped_fields}
use Rattle.snap_format.specs.Texts.{RowsRead}
use Rattle.snap_format.specs.Records.{HaveRecords, RowsNumbered, SpellEvents, Spells, record_at}
use Rattle.snap_format.proofs.Exclusive.{one_header}
use Rattle.snap_text.proofs.GrammarFacts.{bind_ok, record_is, some_or}
use Rattle.snap_text.proofs.NumberFacts.{number_is}
use Rattle.snap_format.proofs.StampOnce.{flips, one_sort}

-- ---- records without a fault have the fields of an event

only_fits : (limit : Limit) (b c : Bool) (before : List Event) (res : Result Event TextFault) → cond (not b) (Some faults.Fields) (cond c (Some faults.TooMany) (fault_with limit before res)) ≡ None → (x : Event) × (res ≡ Ok x)
only_fits limit true false before (Ok x) h = (x, refl)
only_fits limit true false before (Err f) h = absurd cc
only_fits limit true true before res h = absurd cc
only_fits limit false c before res h = absurd cc

fits : (limit : Limit) (before : List Event) (r : Fields) → row_fault limit before r ≡ None → (x : Event) × (row_event r ≡ Ok x)
unfolding row_fault
fits limit before r h = only_fits limit (length r == 4) (nat_le limit.events (length before)) before (row_event r) h

-- each of these records is read as an event
Read : List Fields → Type 0
Read rows = (i : ℕ) → i < length rows → (x : Event) × (row_event (get_or rows i []) ≡ Ok x)

plain_rows : (rows : List Fields) → Read rows → rows ≡ map spelled (events_in rows)
unfolding Read
plain_rows [] h = refl
plain_rows (r ∷ rs) h =
    let (x, is) = h 0 (omega arith) in
    let later : rs ≡ map spelled (events_in rs) = plain_rows rs (λ i lt. h (suc i) (omega (arith, lt))) in
    let events : events_in (r ∷ rs) ≡ x ∷ events_in rs = rw is refl in
    ap (λ (z : Fields). z ∷ rs) (record_is r x is) ∙ ap (λ (zs : List Fields). spelled x ∷ zs) later ∙ ap (λ (xs : List Event). map spelled xs) (sym events)

-- ---- and so have those with stamps, after the stamp

abbrev stamp_and_event : Stamped → ℕ × Event
stamp_and_event s = (s.at, s.event)

fresh_fits : (b c : Bool) (earlier : List ℕ) (res : Result (ℕ × Event) TextFault) → cond (not b) (Some faults.Fields) (cond c (Some faults.TooMany) (repeat_fault earlier res)) ≡ None → (x : ℕ × Event) × (res ≡ Ok x)
fresh_fits true false earlier (Ok x) h = (x, refl)
fresh_fits true false earlier (Err f) h = absurd cc
fresh_fits true true earlier res h = absurd cc
fresh_fits false c earlier res h = absurd cc

stamp_fits : (limit : Limit) (n : ℕ) (earlier : List ℕ) (r : Fields) → shape_fault limit n earlier r ≡ None → (x : ℕ × Event) × (stamped_row r ≡ Ok x)
unfolding shape_fault
stamp_fits limit n earlier r h = fresh_fits (length r == 5) (nat_le limit.events n) earlier (stamped_row r) h

stamped_is : (r : Fields) (x : ℕ × Event) → stamped_row r ≡ Ok x → r ≡ stamped_fields x
unfolding stamped_row row_event
stamped_is [] x h = absurd cc
stamped_is (t ∷ []) x h = absurd cc
stamped_is (t ∷ a ∷ []) x h = absurd cc
stamped_is (t ∷ a ∷ p ∷ []) x h = absurd cc
stamped_is (t ∷ a ∷ p ∷ o ∷ []) x h = absurd cc
stamped_is (t ∷ a ∷ p ∷ o ∷ d ∷ []) x h =
    let (at, et, ht) = bind_ok (or_fault faults.BadAt (number_at (2 ^ 64) t)) (λ at. event_of a p o d >>= (λ event. Ok (at, event))) x h in
    let (event, ee, he) = bind_ok (event_of a p o d) (λ event. Ok (at, event)) x ht in
    let is_t : t ≡ decimal at = (number_is (2 ^ 64) at t (some_or faults.BadAt (number_at (2 ^ 64) t) at et)).1 in
    let is : ◌≡◌ {A = ℕ × Event} (at, event) x = cc in
    ap (λ (z : List ℕ). z ∷ a ∷ p ∷ o ∷ d ∷ []) is_t ∙ ap (λ (zs : Fields). decimal at ∷ zs) (record_is (a ∷ p ∷ o ∷ d ∷ []) event ee) ∙ ap stamped_fields is
stamped_is (t ∷ a ∷ p ∷ o ∷ d ∷ e ∷ rest) x h = absurd cc

-- each of these records is read as a stamp and an event
ReadStamped : List Fields → Type 0
ReadStamped rows = (i : ℕ) → i < length rows → (x : ℕ × Event) × (stamped_row (get_or rows i []) ≡ Ok x)

stamped_one : (n : ℕ) (r : Fields) (rs : List Fields) (x : ℕ × Event) → stamped_row r ≡ Ok x → stamped_from n (r ∷ rs) ≡ record { at = x.0; place = n; event = x.1 } ∷ stamped_from (n + 1) rs
stamped_one n r rs x is = rw is refl

stamped_rows : (n : ℕ) (rows : List Fields) → ReadStamped rows → rows ≡ map (λ s. stamped_fields (stamp_and_event s)) (stamped_from n rows)
unfolding ReadStamped
stamped_rows n [] h = refl
stamped_rows n (r ∷ rs) h =
    let (x, is) = h 0 (omega arith) in
    let later = stamped_rows (n + 1) rs (λ i lt. h (suc i) (omega (arith, lt))) in
    ap (λ (z : Fields). z ∷ rs) (stamped_is r x is) ∙ ap (λ (zs : List Fields). stamped_fields x ∷ zs) later
    ∙ ap (λ (ss : List Stamped). map (λ s. stamped_fields (stamp_and_event s)) ss) (sym (stamped_one n r rs x is))

stamped_places : (n : ℕ) (rows : List Fields) → ReadStamped rows → places_of (stamped_from n rows) ≡ range_with_len n (length rows)
unfolding ReadStamped
stamped_places n [] h = refl
stamped_places n (r ∷ rs) h =
    let (x, is) = h 0 (omega arith) in
    let later = stamped_places (n + 1) rs (λ i lt. h (suc i) (omega (arith, lt))) in
    ap places_of (stamped_one n r rs x is) ∙ ap (λ (ns : List ℕ). n ∷ ns) later

-- ---- numbers one after the other

range_distinct : (a n : ℕ) → IsDistinct (λ x y. x == y) (range_with_len a n)
range_distinct a n = IsDistinct-from_apart (λ x y. x == y) (range_with_len a n) (λ i j d lt within. apart i j d lt (omega (arith, within, length-range_with_len a n)))
  where
    apart : (i j d : ℕ) → i < j → j < n → (get_or (range_with_len a n) i d == get_or (range_with_len a n) j d) ≡ false
    apart i j d lt within =
        let one = get_or-range_with_len a n i d (omega arith) in
        let other = get_or-range_with_len a n j d within in
        rw (one, other) (grind (arith, nat_tests))

under_header : (head : Fields) (rows : List Fields) (number j : ℕ) → number ≡ 2 + j → record_at (head ∷ rows) number ≡ slice_get rows j
under_header head rows number j e = let two : number ≡ suc (suc j) = omega (arith, e) in rw two refl

-- ---- the whole

plain_spell : (limit : Limit) (head : Fields) (rows : List Fields) → NoFault limit rows → SpellEvents (head ∷ rows) (events_in rows) (range_with_len 2 (length rows))
unfolding Read
plain_spell limit head rows none =
    let all : Read rows = λ i lt. fits limit _ _ (none i lt) in
    let same = plain_rows rows all in
    let size : length rows ≡ length (events_in rows) = ap length same ∙ length-map (events_in rows) spelled in
    record {
      count = length-range_with_len 2 (length rows) ∙ size;
      distinct = range_distinct 2 (length rows);
      spell = λ i number event at here.
          let within : i < length (events_in rows) = slice_get_within (events_in rows) i event here in
          let place : number ≡ 2 + i = sym (get_or_from_slice_get (range_with_len 2 (length rows)) i number 0 at) ∙ get_or-range_with_len 2 (length rows) i 0 (omega (arith, size, within)) in
          let found : slice_get rows i ≡ Some (spelled event) = ap (λ (rs : List Fields). slice_get rs i) same ∙ slice_get-map spelled (events_in rows) i ∙ rw here refl in
          (spelled event, under_header head rows number i place ∙ found, inl refl);
    }

stamped_spell : (limit : Limit) (head : Fields) (rows : List Fields) (sorted : List Stamped) → NoneOf (shape_at limit rows) (length rows) → InOrder rows sorted → SpellEvents (head ∷ rows) (events_of sorted) (places_of sorted)
unfolding ReadStamped
stamped_spell limit head rows sorted shapes order =
    let all : ReadStamped rows = λ i lt. stamp_fits limit _ _ _ (shapes i lt) in
    let places : places_of (stamped_in rows) ≡ range_with_len 2 (length rows) = stamped_places 2 rows all in
    record {
      count = length-map sorted (λ s. s.place) ∙ sym (length-map sorted (λ s. s.event));
      distinct =
          IsDistinct-IsPermutation (λ x y. x == y) flips (places_of (stamped_in rows)) (places_of sorted) (IsPermutation-map (λ (s : Stamped). s.place) (stamped_in rows) sorted order.same)
          (subst (IsDistinct (λ x y. x == y)) (sym places) (range_distinct 2 (length rows)));
      spell = λ i number event at here. spell all places i number event at here;
    }
  where
    spell : ReadStamped rows → places_of (stamped_in rows) ≡ range_with_len 2 (length rows) → (i number : ℕ) (event : Event) → slice_get (places_of sorted) i ≡ Some number → slice_get (events_of sorted) i ≡ Some event
        → (fields : Fields) × (record_at (head ∷ rows) number ≡ Some fields) × Spells fields event
    spell all places i number event at here =
        let within : i < length (events_of sorted) = slice_get_within (events_of sorted) i event here in
        let lt : i < length sorted = omega (arith, within, length-map sorted (λ (s : Stamped). s.event)) in
        let s = get_or sorted i nothing in
        let is_event : s.event ≡ event = sym (get_or-map (λ (z : Stamped). z.event) sorted i nothing event lt) ∙ get_or_from_slice_get (events_of sorted) i event event here in
        let is_number : s.place ≡ number = sym (get_or-map (λ (z : Stamped). z.place) sorted i nothing number lt) ∙ get_or_from_slice_get (places_of sorted) i number number at in
        let (j, below, is) = Contains-permutation sorted (stamped_in rows) s (IsPermutation-sym (stamped_in rows) sorted order.same) (Contains-get_or sorted i nothing lt) in
        let same = stamped_rows 2 rows all in
        let size : length rows ≡ length (stamped_in rows) = ap length same ∙ length-map (stamped_in rows) (λ (z : Stamped). stamped_fields (stamp_and_event z)) in
        let there : slice_get (stamped_in rows) j ≡ Some s = slice_get-get_or (stamped_in rows) j s below ∙ ap Some is in
        let place : number ≡ 2 + j =
        sym is_number ∙ ap (λ (z : Stamped). z.place) (sym is) ∙ sym (get_or-map (λ (z : Stamped). z.place) (stamped_in rows) j s 0 below) ∙ ap (λ (ns : List ℕ). get_or ns j 0) places
        ∙ get_or-range_with_len 2 (length rows) j 0 (omega (arith, size, below)) in
        let found : slice_get rows j ≡ Some (stamped_fields (s.at, s.event)) =
        ap (λ (rs : List Fields). slice_get rs j) same ∙ slice_get-map (λ (z : Stamped). stamped_fields (stamp_and_event z)) (stamped_in rows) j ∙ rw there refl in
        (stamped_fields (s.at, event), under_header head rows number j place ∙ found ∙ ap (λ (x : Event). Some (stamped_fields (s.at, x))) is_event, inr (s.at, refl))

pub rows_spell : (limit : Limit) (rows : List Fields) (events : List Event) (records : List ℕ) → RowsRead limit rows events → RowsNumbered rows records → SpellEvents rows events records
rows_spell limit [] events records read numbers = absurd read
rows_spell limit (head ∷ rows) events records (inl read) (inl numbers) = rw (read.2, numbers.1) (plain_spell limit head rows read.1)
rows_spell limit (head ∷ rows) events records (inl read) (inr numbers) = absurd (one_header head read.0 numbers.0)
rows_spell limit (head ∷ rows) events records (inr read) (inl numbers) = absurd (one_header head numbers.0 read.0)
rows_spell limit (head ∷ rows) events records (inr (stamped, read)) (inr numbers) =
    let same : read.sorted ≡ numbers.1 = one_sort rows read.sorted numbers.1 read.order numbers.2 in
    rw (read.history, numbers.3, ← same) (stamped_spell limit head rows read.sorted read.shapes read.order)

pub records_spell : (limit : Limit) (text : List ℕ) (events : List Event) (records : List ℕ) → HaveRecords limit text events records → SpellEvents (rows_of text) events records
records_spell limit text events records h = rows_spell limit (rows_of text) events records h.history.1 h.numbers
