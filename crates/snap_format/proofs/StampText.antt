-- The text of a history with stamps has the records of its events, and no fault.
use Rattle.std.proofs.Common.{zip, ◌≡◌, ◌<◌, ◌≤◌, ◌+◌, ◌^◌, ◌++◌, ◌==◌, ℕ, suc, zero, false, true, List, [], ◌∷◌, length, map, take, get_or, None, Ok, refl, arith, ◌∙◌, sym, ap, subst, inr}
use Rattle.snap_core.specs.declared.limit.Limit.{Limit}
use Rattle.std.specs.Prelude.{codes, decimal, nat_le}
use Rattle.std.specs.List.{All, AllByRecursion, flat_map, list_any}
use Rattle.std.specs.List.Sorted.{IsStrictlyIncreasing}
use Rattle.std.proofs.lemmas.List.{get_or-map, get_or-take, length-map, length-take-le, take-map}
use Rattle.std.proofs.lemmas.Bool.Decides.{nat_tests}
use Rattle.std.proofs.lemmas.List.Kept.{AllPairs-from_increasing}
use Rattle.std.proofs.lemmas.Slice.Zip.{firsts-zip, get_or-zip, length-zip, seconds-zip}
use Rattle.std.proofs.Math.Seq.{get_or-append_seam, take-append_seam}
use Rattle.std.proofs.lemmas.List.Concat.{flat_map-cons}
use Rattle.std.proofs.lemmas.List.Elements.{All-head, All-tail}
use Rattle.std.proofs.lemmas.List.Sorted.{IsPermutation-refl}
use Rattle.csv.specs.Reading.{default_config, records, strip_bom}
use Rattle.csv.specs.Writing.{fields_text, is_blank, read_back}
use Rattle.snap_core.specs.declared.event.Event.{Event}
use Rattle.snap_core.specs.declared.event.Event.TheVariants.{BeginUpdate, BeginView, EndUpdate, EndView}
use Rattle.snap_core.specs.Events.{EventFits}
use Rattle.snap_core.specs.Bounded.{IsBoundedBy, IsHistoryBy}
use Rattle.snap_core.proofs.OrderedPushes.{is_ordered_by}
use Rattle.snap_text.specs.Fields.{Fields, row_event}
use Rattle.snap_format.specs.Rows.{rows_of}
use Rattle.snap_format.specs.Layout.{record_text, stamped_fields, stamped_header, stamped_lines, stamped_text}
use Rattle.snap_format.specs.Texts.{IsText, bytes_within}
use Rattle.snap_format.proofs.LineFacts.{stamped_header_line, stamped_line_of}
use Rattle.snap_format.specs.declared.stamped.Stamped.{Stamped}
use Rattle.snap_format.specs.Faults.{fault_with}
use Rattle.snap_format.specs.Stamps.{NoneOf, events_of, nothing, order_at, shape_at, shape_fault, stamped_from, stamped_in, stamped_row, stamps_of}
use Rattle.snap_text.proofs.BackFacts.{event_back}
use Rattle.snap_text.proofs.NumberFacts.{number_some}
use Rattle.snap_format.proofs.TextFacts.{Reads, Whole, each_reads, none_then, not_refused, place, row, rows_back, rows_long}

abbrev Stamp : Type 0
Stamp = ℕ × Event

-- a stamp and an event whose fields fit their types
abbrev pub StampFits : Stamp → Type 0
StampFits x = (x.0 < 2 ^ 64) × EventFits x.1

whole_stamp : (x : Stamp) → read_back (stamped_fields x) ≡ stamped_fields x
whole_stamp (n, BeginUpdate p e) = refl
whole_stamp (n, BeginView p) = refl
whole_stamp (n, EndUpdate p) = refl
whole_stamp (n, EndView p es) = refl

whole_stamps : (xs : List Stamp) → Whole (map stamped_fields xs)
unfolding Whole
whole_stamps [] = tt
whole_stamps (x ∷ xs) = (whole_stamp x, whole_stamps xs)

lines : (xs : List Stamp) → AllByRecursion StampFits xs → flat_map record_text (map stamped_fields xs) ≡ flat_map row (map stamped_fields xs)
lines [] fits = refl
lines (x ∷ xs) fits =
    flat_map-cons record_text (stamped_fields x) (map stamped_fields xs)
    ∙ ap (λ (t : List ℕ). record_text (stamped_fields x) ++ t) (lines xs fits.1)
    ∙ ap (λ (t : List ℕ). t ++ flat_map row (map stamped_fields xs)) (sym (stamped_line_of x.0 x.1 fits.0.0 fits.0.1))
    ∙ sym (flat_map-cons row (stamped_fields x) (map stamped_fields xs))

header_text : row stamped_header ≡ codes "at,event,process,op,data\n"
unfolding fields_text is_blank
header_text = refl

plain_start : (tail : List ℕ) → strip_bom (codes "at,event,process,op,data\n" ++ tail) ≡ codes "at,event,process,op,data\n" ++ tail
unfolding strip_bom
plain_start tail = refl

no_mark : (tail : List ℕ) → strip_bom (row stamped_header ++ tail) ≡ row stamped_header ++ tail
no_mark tail = ap (λ (h : List ℕ). strip_bom (h ++ tail)) header_text ∙ plain_start tail ∙ sym (ap (λ (h : List ℕ). h ++ tail) header_text)

begins : (tail : List ℕ) → record_text stamped_header ++ tail ≡ row stamped_header ++ tail
unfolding stamped_lines record_text
begins tail = ap (λ (t : List ℕ). t ++ tail) (sym stamped_header_line)

text_is : (xs : List Stamp) → AllByRecursion StampFits xs → stamped_lines xs ≡ row stamped_header ++ flat_map row (map stamped_fields xs)
unfolding stamped_lines
text_is xs fits = flat_map-cons record_text stamped_header (map stamped_fields xs) ∙ ap (λ (t : List ℕ). record_text stamped_header ++ t) (lines xs fits) ∙ begins (flat_map row (map stamped_fields xs))

pub stamped_rows : (xs : List Stamp) → AllByRecursion StampFits xs → rows_of (stamped_lines xs) ≡ stamped_header ∷ map stamped_fields xs
unfolding Whole
stamped_rows xs fits =
    let rows = stamped_header ∷ map stamped_fields xs in
    let text : row stamped_header ++ flat_map row (map stamped_fields xs) ≡ flat_map row rows = sym (flat_map-cons row stamped_header (map stamped_fields xs)) in
    let plain : strip_bom (stamped_lines xs) ≡ flat_map row rows = ap strip_bom (text_is xs fits) ∙ no_mark (flat_map row (map stamped_fields xs)) ∙ text in
    ap (λ (t : List ℕ). records default_config t) plain
    ∙ rows_back rows (length (flat_map row rows) + 1) (omega (arith, rows_long rows)) (refl, whole_stamps xs)

-- ---- what the records are read as

stamped_back : (x : Stamp) → x.0 < 2 ^ 64 → Reads x.1 → stamped_row (stamped_fields x) ≡ Ok x
unfolding stamped_row row_event
stamped_back (n, BeginUpdate p e) lt r = rw (number_some (2 ^ 64) n (decimal n) lt (omega arith) refl, event_back (BeginUpdate p e) r.0 r.1) refl
stamped_back (n, BeginView p) lt r = rw (number_some (2 ^ 64) n (decimal n) lt (omega arith) refl, event_back (BeginView p) r.0 r.1) refl
stamped_back (n, EndUpdate p) lt r = rw (number_some (2 ^ 64) n (decimal n) lt (omega arith) refl, event_back (EndUpdate p) r.0 r.1) refl
stamped_back (n, EndView p es) lt r = rw (number_some (2 ^ 64) n (decimal n) lt (omega arith) refl, event_back (EndView p es) r.0 r.1) refl

AllBack : List Stamp → Type 0
AllBack ps = AllByRecursion (λ p. stamped_row (stamped_fields p) ≡ Ok p) ps

numbered : ℕ → List Stamp → List Stamped
numbered n [] = []
numbered n (p ∷ ps) = record { at = p.0; place = n; event = p.1 } ∷ numbered (n + 1) ps

from_back : (n : ℕ) (ps : List Stamp) → AllBack ps → stamped_from n (map stamped_fields ps) ≡ numbered n ps
unfolding AllBack numbered
from_back n [] b = refl
from_back n (p ∷ ps) b = rw (b.0, from_back (n + 1) ps b.1) refl

stamps_back : (n : ℕ) (ps : List Stamp) → stamps_of (numbered n ps) ≡ map (λ (p : Stamp). p.0) ps
unfolding numbered
stamps_back n [] = refl
stamps_back n (p ∷ ps) = ap (λ t. p.0 ∷ t) (stamps_back (n + 1) ps)

events_are : (n : ℕ) (ps : List Stamp) → events_of (numbered n ps) ≡ map (λ (p : Stamp). p.1) ps
unfolding numbered
events_are n [] = refl
events_are n (p ∷ ps) = ap (λ (t : List Event). p.1 ∷ t) (events_are (n + 1) ps)

back_front : (ps : List Stamp) (i : ℕ) → AllBack ps → AllBack (take i ps)
unfolding AllBack
back_front [] zero b = tt
back_front [] (suc i) b = tt
back_front (p ∷ ps) zero b = tt
back_front (p ∷ ps) (suc i) b = (b.0, back_front ps i b.1)

back_here : (ps : List Stamp) (i : ℕ) (d : Stamp) → i < length ps → AllBack ps → stamped_row (stamped_fields (get_or ps i d)) ≡ Ok (get_or ps i d)
unfolding AllBack
back_here [] i d lt b = absurd (omega arith)
back_here (p ∷ ps) zero d lt b = b.0
back_here (p ∷ ps) (suc i) d lt b = back_here ps i d (omega arith) b.1

-- ---- no fault

earlier_none : (xs : List ℕ) (n : ℕ) → ((j : ℕ) → j < length xs → get_or xs j 0 < n) → list_any (λ s. n == s) xs ≡ false
earlier_none [] n h = refl
earlier_none (x ∷ xs) n h =
    let l : x < n = h 0 (omega arith) in
    let test : (n == x) ≡ false = grind (arith, nat_tests) in
    rw (test, earlier_none xs n (λ j lt. h (suc j) (omega arith))) refl

five_fields : (p : Stamp) → (length (stamped_fields p) == 5) ≡ true
five_fields (n, BeginUpdate p e) = refl
five_fields (n, BeginView p) = refl
five_fields (n, EndUpdate p) = refl
five_fields (n, EndView p es) = refl

shape_fine : (limit : Limit) (n : ℕ) (earlier : List ℕ) (p : Stamp) → n < limit.events → stamped_row (stamped_fields p) ≡ Ok p → list_any (λ s. p.0 == s) earlier ≡ false → shape_fault limit n earlier (stamped_fields p) ≡ None
unfolding shape_fault
shape_fine limit n earlier p lt b none =
    let test : nat_le limit.events n ≡ false = grind (arith, nat_tests) in
    rw (five_fields p, test, b, none) refl

shapes_fine : (limit : Limit) (at : List ℕ) (xs : List Event) → length at ≡ length xs → length xs ≤ limit.events → IsStrictlyIncreasing at → AllBack (zip at xs) → NoneOf (shape_at limit (map stamped_fields (zip at xs))) (length (map stamped_fields (zip at xs)))
shapes_fine limit at xs same short up b i lt =
    let ps = zip at xs in
    let d : Stamp = (0, BeginView 0) in
    let size = length-map ps stamped_fields in
    let len = length-zip at xs in
    let here : i < length ps = omega (arith, size, lt) in
    let la : i < length at = omega (arith, here, len) in
    let front : take i (map stamped_fields ps) ≡ map stamped_fields (take i ps) = take-map stamped_fields i ps in
    let stamps : stamps_of (stamped_in (map stamped_fields (take i ps))) ≡ take i at =
    ap stamps_of (from_back 2 (take i ps) (back_front ps i b)) ∙ stamps_back 2 (take i ps) ∙ sym (take-map (λ (p : Stamp). p.0) i ps) ∙ ap (take i) (firsts-zip at xs (sym same)) in
    let there : get_or (map stamped_fields ps) i [] ≡ stamped_fields (get_or ps i d) = get_or-map stamped_fields ps i d [] here in
    let first : (get_or ps i d).0 ≡ get_or at i 0 = ap (λ (p : Stamp). p.0) (get_or-zip at xs i d la (omega (arith, la, same))) in
    let below : (j : ℕ) → j < length (take i at) → get_or (take i at) j 0 < (get_or ps i d).0 = λ j l.
    let lj : j < i = omega (arith, l, length-take-le i at (omega (arith, la))) in
    let e = get_or-take i at j 0 lj in
    let m = AllPairs-from_increasing at up j i 0 lj la in
    omega (arith, e, m, first) in
    let none = earlier_none (take i at) (get_or ps i d).0 below in
    let fine = shape_fine limit i (take i at) (get_or ps i d) (omega (arith, here, len, same, short)) (back_here ps i d here b) none in
    ap (λ (t : List Fields). shape_fault limit i (stamps_of (stamped_in t)) (get_or (map stamped_fields ps) i [])) front
    ∙ ap (λ (e : List ℕ). shape_fault limit i e (get_or (map stamped_fields ps) i [])) stamps
    ∙ ap (shape_fault limit i (take i at)) there ∙ fine

events_fine : (limit : Limit) (xs : List Event) → IsHistoryBy limit.writers xs → length xs ≤ limit.events → (i : ℕ) (d : Event) → i < length xs → fault_with limit (take i xs) (Ok (get_or xs i d)) ≡ None
events_fine limit xs h short i d lt =
    let p = place xs i lt in
    let fine = none_then limit p.before p.here (not_refused limit p.before p.here p.behind (subst (IsHistoryBy limit.writers) p.whole h) (omega (arith, p.count, lt, short))) in
    let before : take i (p.before ++ p.here ∷ p.behind) ≡ p.before = subst (λ n. take n (p.before ++ p.here ∷ p.behind) ≡ p.before) p.count (take-append_seam p.before (p.here ∷ p.behind)) in
    let here : get_or (p.before ++ p.here ∷ p.behind) i d ≡ p.here = subst (λ n. get_or (p.before ++ p.here ∷ p.behind) n d ≡ p.here) p.count (get_or-append_seam p.before p.here p.behind d) in
    ap (λ (t : List Event). fault_with limit (take i t) (Ok (get_or t i d))) p.whole
    ∙ ap (λ (t : List Event). fault_with limit t (Ok (get_or (p.before ++ p.here ∷ p.behind) i d))) before ∙ ap (λ (x : Event). fault_with limit p.before (Ok x)) here ∙ fine

turns_fine : (limit : Limit) (ys : List Stamped) (xs : List Event) → events_of ys ≡ xs → IsHistoryBy limit.writers xs → length xs ≤ limit.events → NoneOf (order_at limit ys) (length ys)
turns_fine limit ys xs e h short i lt =
    let size : length xs ≡ length ys = ap length (sym e) ∙ length-map ys (λ (y : Stamped). y.event) in
    let d : Event = BeginView 0 in
    let front : events_of (take i ys) ≡ take i xs = sym (take-map (λ (y : Stamped). y.event) i ys) ∙ ap (take i) e in
    let here : (get_or ys i nothing).event ≡ get_or xs i d = sym (get_or-map (λ (y : Stamped). y.event) ys i nothing d lt) ∙ ap (λ (t : List Event). get_or t i d) e in
    ap (λ (t : List Event). fault_with limit t (Ok (get_or ys i nothing).event)) front ∙ ap (λ (x : Event). fault_with limit (take i xs) (Ok x)) here
    ∙ events_fine limit xs h short i d (omega (arith, lt, size))

all_back : (ps : List Stamp) → AllByRecursion StampFits ps → AllByRecursion Reads (map (λ (p : Stamp). p.1) ps) → AllBack ps
unfolding AllBack
all_back [] fits reads = tt
all_back (p ∷ ps) fits reads = (stamped_back p fits.0.0 reads.0, all_back ps fits.1 reads.1)

all_fit : (at : List ℕ) (xs : List Event) → All (λ n. n < 2 ^ 64) at → All EventFits xs → AllByRecursion StampFits (zip at xs)
all_fit [] xs a b = tt
all_fit (n ∷ at) [] a b = tt
all_fit (n ∷ at) (x ∷ xs) a b =
    ((All-head (λ n. n < 2 ^ 64) n at a, All-head EventFits x xs b), all_fit at xs (All-tail (λ n. n < 2 ^ 64) n at a) (All-tail EventFits x xs b))

pub stamped_reads : (limit : Limit) (at : List ℕ) (xs : List Event) → IsBoundedBy limit.writers xs → length xs ≤ limit.events → length at ≡ length xs → IsStrictlyIncreasing at → All (λ n. n < 2 ^ 64) at → length (stamped_text at xs) ≤ bytes_within limit → IsText limit (stamped_text at xs) xs
stamped_reads limit at xs k few same up small short =
    let ps = zip at xs in
    let fits = all_fit at xs small k.fit in
    let seconds : map (λ (p : Stamp). p.1) ps ≡ xs = seconds-zip at xs (sym same) in
    let reads = each_reads xs [] xs (is_ordered_by limit.writers xs k.history).numbered refl k.fit in
    let back = all_back ps fits (subst (λ (t : List Event). AllByRecursion Reads t) (sym seconds) reads) in
    let rows = map stamped_fields ps in
    let stamps : stamps_of (stamped_in rows) ≡ at = ap stamps_of (from_back 2 ps back) ∙ stamps_back 2 ps ∙ firsts-zip at xs (sym same) in
    let events : events_of (stamped_in rows) ≡ xs = ap events_of (from_back 2 ps back) ∙ events_are 2 ps ∙ seconds in (
      short,
      rw (stamped_rows ps fits) (inr (
        refl,
        record {
          shapes = shapes_fine limit at xs same few up back;
          sorted = stamped_in rows;
          order = record { same = IsPermutation-refl (stamped_in rows); rising = subst (λ (t : List ℕ). IsStrictlyIncreasing t) (sym stamps) up };
          fine = turns_fine limit (stamped_in rows) xs events k.history few;
          history = sym events;
        },
      )),
    )
