-- The updates that a view misses, by the begins of those that it shows.
use Rattle.std.proofs.Common.{◌≡◌, ℕ, zero, suc, ◌+◌, ◌<◌, ◌≤◌, Bool, true, false, not, cond, List, [], ◌∷◌, length, get_or, Option, Some, None, refl, sym, ap, ◌∙◌, arith}
use Rattle.std.specs.Prelude.{nat_lt, filter, count_by, option_map, is_some}
use Rattle.std.specs.List.{position_or_len}
use Rattle.std.specs.Option.{option_or}
use Rattle.std.proofs.lemmas.Bool.{lt-ltb, le-ltb}
use Rattle.std.proofs.lemmas.List.{get_or-map, length-map}
use Rattle.std.proofs.lemmas.List.Sums.{sum_by-cons}
use Rattle.snap_core.specs.declared.entry.Entry.{Entry}
use Rattle.snap_core.specs.declared.event.Event.{Event}
use Rattle.snap_core.specs.Entries.{AreEntries}
use Rattle.snap_core.specs.Bounded.{IsBoundedOrdered}
use Rattle.snap_core.specs.Calls.{Call, calls_of, entries_of, shown_number}
use Rattle.snap_core.proofs.Facts.{shown_number_at}
use Rattle.snap_core.proofs.Ordered.{are_ordered_calls}
use Rattle.snap_conditions.specs.declared.fault.WriteFault.{WriteFault}
use Rattle.snap_theory.specs.Faults.{write_fault, listed, first_of, missed_at}
use Rattle.snap_conditions.specs.Parts.{part_of, no_part, merged_part}
use Rattle.snap_conditions.specs.PartValue.{PartValue}
use Rattle.snap_conditions.proofs.OneView.{missed_part}
use Rattle.snap_conditions.proofs.Parts.{part_is}
use Rattle.snap_conditions.specs.inside.Places.{end_of, begin_of, begins_behind, begin_of_shown, begin_or_0}
use Rattle.snap_theory.specs.Updates.{update_of}
use Rattle.snap_conditions.specs.Tally.{reported_write}
use Rattle.snap_theory.proofs.Entries.{nothing}
use Rattle.snap_conditions.proofs.Finds.{shown_at}
use Rattle.snap_conditions.proofs.Places.{write_by_place, behind_begin}

-- the test of one entry
pub test_at : (es : List Event) → IsBoundedOrdered es → (r : Call) (j ended : ℕ) (begins : List ℕ) → AreEntries (entries_of r.operation) → end_of (update_of (calls_of es) j (suc (shown_number r j))) ≡ Some ended →
    (i : ℕ) → i < length (entries_of r.operation) → get_or begins i 0 ≡ begin_or_0 (begin_of_shown (calls_of es) (entries_of r.operation) i) → write_fault (calls_of es) r j (get_or (listed r) i 0) ≡ nat_lt ended (get_or begins i 0)
test_at es kept r j ended begins shape e i l b =
    let calls = calls_of es in
    let d = get_or (entries_of r.operation) i nothing in
    let at : get_or (listed r) i 0 ≡ d.component = get_or-map (λ (d : Entry). d.component) (entries_of r.operation) i nothing 0 l in
    let number = shown_number_at r d.component d (shown_at r i nothing shape l) in
    ap (write_fault calls r j) at ∙ write_by_place calls (are_ordered_calls es kept.history) r j d.component
    ∙ ap (λ o. begins_behind o (begin_of (update_of calls d.component (shown_number r d.component)))) e
    ∙ ap (λ n. begins_behind (Some ended) (begin_of (update_of calls d.component n))) number
    ∙ behind_begin (Some ended) (begin_of_shown calls (entries_of r.operation) i) ∙ ap (nat_lt ended) (sym b)

-- what a test lets through of a list, by another test of another list

pub count_filtered : (p q : ℕ → Bool) (xs bs : List ℕ) → length xs ≡ length bs → ((i : ℕ) → i < length xs → p (get_or xs i 0) ≡ q (get_or bs i 0)) → length (filter p xs) ≡ count_by q bs
count_filtered p q [] [] e h = refl
count_filtered p q [] (b ∷ bs) e h = absurd (omega (arith, e))
count_filtered p q (x ∷ xs) [] e h = absurd (omega (arith, e))
count_filtered p q (x ∷ xs) (b ∷ bs) e h = at (q b) refl (count_filtered p q xs bs (omega (arith, e)) (λ i l. h (suc i) (omega (arith, l))))
  where
    at : (t : Bool) → q b ≡ t → length (filter p xs) ≡ count_by q bs → length (filter p (x ∷ xs)) ≡ count_by q (b ∷ bs)
    at true t rest =
        ap (λ z. length (cond z (x ∷ filter p xs) (filter p xs))) (h 0 (omega arith) ∙ t) ∙ omega (arith, rest, sum_by-cons (λ y. cond (q y) 1 0) b bs, ap {B = ℕ} (λ z. cond z 1 0) t)
    at false t rest =
        ap (λ z. length (cond z (x ∷ filter p xs) (filter p xs))) (h 0 (omega arith) ∙ t) ∙ omega (arith, rest, sum_by-cons (λ y. cond (q y) 1 0) b bs, ap {B = ℕ} (λ z. cond z 1 0) t)

pub first_filtered : (p q : ℕ → Bool) (xs bs : List ℕ) → length xs ≡ length bs → ((i : ℕ) → i < length xs → p (get_or xs i 0) ≡ q (get_or bs i 0)) → position_or_len q bs < length bs →
    first_of (filter p xs) ≡ Some (get_or xs (position_or_len q bs) 0)
first_filtered p q [] [] e h l = absurd (omega (arith, l))
first_filtered p q [] (b ∷ bs) e h l = absurd (omega (arith, e))
first_filtered p q (x ∷ xs) [] e h l = absurd (omega (arith, e))
first_filtered p q (x ∷ xs) (b ∷ bs) e h l = at (q b) refl (first_filtered p q xs bs (omega (arith, e)) (λ i l. h (suc i) (omega (arith, l))))
  where
    at : (t : Bool) → q b ≡ t → (position_or_len q bs < length bs → first_of (filter p xs) ≡ Some (get_or xs (position_or_len q bs) 0)) → first_of (filter p (x ∷ xs)) ≡ Some (get_or (x ∷ xs) (position_or_len q (b ∷ bs)) 0)
    at true t rest =
        let zero : position_or_len q (b ∷ bs) ≡ 0 = ap {B = ℕ} (λ z. cond (not z) (1 + position_or_len q bs) 0) t in
        ap (λ z. first_of (cond z (x ∷ filter p xs) (filter p xs))) (h 0 (omega arith) ∙ t) ∙ sym (ap (λ z. Some (get_or (x ∷ xs) z 0)) zero)
    at false t rest =
        let more : position_or_len q (b ∷ bs) ≡ suc (position_or_len q bs) = ap {B = ℕ} (λ z. cond (not z) (1 + position_or_len q bs) 0) t ∙ omega arith in
        ap (λ z. first_of (cond z (x ∷ filter p xs) (filter p xs))) (h 0 (omega arith) ∙ t) ∙ rest (omega (arith, l, more)) ∙ sym (ap (λ z. Some (get_or (x ∷ xs) z 0)) more)

pub none_filtered : (xs : List ℕ) → length xs ≡ 0 → xs ≡ []
none_filtered [] h = refl
none_filtered (x ∷ xs) h = absurd (omega (arith, h))

-- a fault as it is reported, by the entry that shows it
pub reported_at : (r : Call) (view j m i : ℕ) (d : Entry) → AreEntries (entries_of r.operation) → i < length (entries_of r.operation) → d ≡ get_or (entries_of r.operation) i nothing → view ≡ r.number → m ≡ suc (shown_number r j) →
    ◌≡◌ {A = WriteFault} (record { view = view; missed_component = j; missed_number = m; shown_component = d.component; shown_number = d.number }) (reported_write (r, j, get_or (listed r) i 0))
reported_at r view j m i d shape l e v n =
    let F : ℕ → ℕ → ℕ → ℕ → WriteFault = λ a b k x. record { view = a; missed_component = j; missed_number = b; shown_component = k; shown_number = x } in
    let g = get_or (entries_of r.operation) i nothing in
    let at : get_or (listed r) i 0 ≡ g.component = get_or-map (λ (d : Entry). d.component) (entries_of r.operation) i nothing 0 l in
    ap (λ a. F a m d.component d.number) v ∙ ap (λ b. F r.number b d.component d.number) n ∙ ap (λ (z : Entry). F r.number (suc (shown_number r j)) z.component z.number) e
    ∙ ap (F r.number (suc (shown_number r j)) g.component) (sym (shown_number_at r g.component g (shown_at r i nothing shape l)))
    ∙ ap (λ k. F r.number (suc (shown_number r j)) k (shown_number r k)) (sym at)

-- begins that tell of each entry whether it is a fault
pub record AreTested (calls : List Call) (r : Call) (j ended : ℕ) (begins : List ℕ) : Type 0 where
  pub size : length (listed r) ≡ length begins
  pub test : (i : ℕ) → i < length (listed r) → write_fault calls r j (get_or (listed r) i 0) ≡ nat_lt ended (get_or begins i 0)

pub are_tested : (es : List Event) → IsBoundedOrdered es → (r : Call) (j ended : ℕ) (entries : List Entry) (begins : List ℕ) → entries ≡ entries_of r.operation → AreEntries (entries_of r.operation) → end_of (update_of (calls_of es) j (suc (shown_number r j))) ≡ Some ended →
    length begins ≡ length entries → ((i : ℕ) → i < length entries → get_or begins i 0 ≡ begin_or_0 (begin_of_shown (calls_of es) entries i)) → AreTested (calls_of es) r j ended begins
are_tested es kept r j ended entries begins same shape e n h = record {
  size = omega (arith, long, n, ap length same);
  test = λ i l. test_at es kept r j ended begins shape e i (omega (arith, l, long)) (h i (omega (arith, l, long, ap length same)) ∙ ap (λ z. begin_or_0 (begin_of_shown (calls_of es) z i)) same);
}
  where
    long : length (listed r) ≡ length (entries_of r.operation)
    long = length-map (entries_of r.operation) (λ (d : Entry). d.component)

none_counted : (q : ℕ → Bool) (bs : List ℕ) → length bs ≤ position_or_len q bs → count_by q bs ≡ 0
none_counted q [] l = refl
none_counted q (b ∷ bs) l = at (q b) refl (none_counted q bs)
  where
    at : (t : Bool) → q b ≡ t → (length bs ≤ position_or_len q bs → count_by q bs ≡ 0) → count_by q (b ∷ bs) ≡ 0
    at true t rest = let zero : position_or_len q (b ∷ bs) ≡ 0 = ap {B = ℕ} (λ z. cond (not z) (1 + position_or_len q bs) 0) t in absurd (omega (arith, l, zero))
    at false t rest =
        let more : position_or_len q (b ∷ bs) ≡ suc (position_or_len q bs) = ap {B = ℕ} (λ z. cond (not z) (1 + position_or_len q bs) 0) t ∙ omega arith in
        omega (arith, rest (omega (arith, l, more)), sum_by-cons (λ y. cond (q y) 1 0) b bs, ap {B = ℕ} (λ z. cond z 1 0) t)

pub some_counted : (q : ℕ → Bool) (bs : List ℕ) → position_or_len q bs < length bs → 0 < count_by q bs
some_counted q [] l = absurd (omega (arith, l))
some_counted q (b ∷ bs) l = at (q b) refl (some_counted q bs)
  where
    at : (t : Bool) → q b ≡ t → (position_or_len q bs < length bs → 0 < count_by q bs) → 0 < count_by q (b ∷ bs)
    at true t rest = omega (arith, sum_by-cons (λ y. cond (q y) 1 0) b bs, ap {B = ℕ} (λ z. cond z 1 0) t)
    at false t rest =
        let more : position_or_len q (b ∷ bs) ≡ suc (position_or_len q bs) = ap {B = ℕ} (λ z. cond (not z) (1 + position_or_len q bs) 0) t ∙ omega arith in
        omega (arith, rest (omega (arith, l, more)), sum_by-cons (λ y. cond (q y) 1 0) b bs)

pub missed_none : (calls : List Call) (r : Call) (j ended : ℕ) (begins : List ℕ) → AreTested calls r j ended begins → length begins ≤ position_or_len (λ b. nat_lt ended b) begins → part_of reported_write (missed_at calls r j) ≡ no_part
missed_none calls r j ended begins t l =
    missed_part calls r j
    ∙ ap (part_of (λ k. reported_write (r, j, k))) (none_filtered (filter (write_fault calls r j) (listed r)) (count_filtered (write_fault calls r j) (λ b. nat_lt ended b) (listed r) begins t.size t.test ∙ none_counted (λ b. nat_lt ended b) begins l))

pub missed_some : (calls : List Call) (r : Call) (j ended first count : ℕ) (begins : List ℕ) (fault : WriteFault) → AreTested calls r j ended begins → first ≡ position_or_len (λ b. nat_lt ended b) begins → first < length begins → count ≡ count_by (λ b. nat_lt ended b) begins →
    fault ≡ reported_write (r, j, get_or (listed r) first 0) → ◌≡◌ {A = PartValue WriteFault} (record { count = count; first = Some fault }) (part_of reported_write (missed_at calls r j))
missed_some calls r j ended first count begins fault t f l n e =
    part_is (record { count = count; first = Some fault }) (part_of (λ k. reported_write (r, j, k)) (filter (write_fault calls r j) (listed r)))
    (n ∙ sym (count_filtered (write_fault calls r j) (λ b. nat_lt ended b) (listed r) begins t.size t.test))
    (ap (λ z. Some z) (e ∙ ap (λ z. reported_write (r, j, get_or (listed r) z 0)) f)
    ∙ sym (ap (option_map (λ k. reported_write (r, j, k))) (first_filtered (write_fault calls r j) (λ b. nat_lt ended b) (listed r) begins t.size t.test (omega (arith, l, f)))))
    ∙ sym (missed_part calls r j)

-- how many of some begins in their order stand after an end, where the first of them stands
pub counted_behind : (ended : ℕ) (xs : List ℕ) (i : ℕ) → i ≤ length xs → ((k : ℕ) → k < i → get_or xs k 0 ≤ ended) → ((k : ℕ) → i ≤ k → k < length xs → ended < get_or xs k 0) → count_by (λ b. nat_lt ended b) xs + i ≡ length xs
counted_behind ended [] i w f b = omega (arith, w)
counted_behind ended (x ∷ xs) zero w f b =
    omega (
      arith,
      sum_by-cons (λ y. cond (nat_lt ended y) 1 0) x xs,
      ap {B = ℕ} (λ z. cond z 1 0) (lt-ltb ended x (b 0 (omega arith) (omega arith))),
      counted_behind ended xs 0 (omega arith) (λ k l. absurd (omega (arith, l))) (λ k l m. b (suc k) (omega arith) (omega (arith, m))),
    )
counted_behind ended (x ∷ xs) (suc i) w f b =
    omega (
      arith,
      sum_by-cons (λ y. cond (nat_lt ended y) 1 0) x xs,
      ap {B = ℕ} (λ z. cond z 1 0) (le-ltb ended x (f 0 (omega arith))),
      counted_behind ended xs i (omega (arith, w)) (λ k l. f (suc k) (omega (arith, l))) (λ k l m. b (suc k) (omega (arith, l)) (omega (arith, m))),
    )

-- a part that has a first fault, with as many faults more as a view has that misses an update
pub merged_missed : (calls : List Call) (r : Call) (j ended count : ℕ) (begins : List ℕ) (part : PartValue WriteFault) → AreTested calls r j ended begins → count ≡ count_by (λ b. nat_lt ended b) begins → is_some part.first ≡ true →
    ◌≡◌ {A = PartValue WriteFault} (record { count = part.count + count; first = part.first }) (merged_part part (part_of reported_write (missed_at calls r j)))
merged_missed calls r j ended count begins part t n some =
    let faults = filter (write_fault calls r j) (listed r) in
    part_is (record { count = part.count + count; first = part.first }) (merged_part part (part_of reported_write (missed_at calls r j)))
    (ap (λ m. part.count + m) (n ∙ sym (count_filtered (write_fault calls r j) (λ b. nat_lt ended b) (listed r) begins t.size t.test) ∙ sym (ap (λ (p : PartValue WriteFault). p.count) (missed_part calls r j))))
    (keeps part.first (part_of reported_write (missed_at calls r j)).first some)
  where
    keeps : {F : Type 0} (o p : Option F) → is_some o ≡ true → o ≡ option_or o p
    keeps None p h = cc
    keeps (Some x) p h = refl

-- a part without a fault, with the faults of another
pub merged_first : {F : Type 0} (p q : PartValue F) → p.count ≡ 0 → is_some p.first ≡ false → q ≡ merged_part p q
merged_first p q n none = part_is q (merged_part p q) (omega (arith, n)) (behind p.first q.first none)
  where
    behind : {F : Type 0} (o p : Option F) → is_some o ≡ false → p ≡ option_or o p
    behind None p h = refl
    behind (Some x) p h = cc
