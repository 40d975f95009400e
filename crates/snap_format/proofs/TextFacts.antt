-- The text of a history has the records of its events, and no fault.
use Rattle.std.proofs.Common.{inl, ◌≡◌, ◌<◌, ◌≤◌, ◌+◌, ◌++◌, ℕ, suc, zero, false, true, ◌==◌, List, [], ◌∷◌, length, map, take, get_or, None, Ok, refl, arith, ◌∙◌, sym, ap, subst, append_assoc, append-nil}
use Rattle.snap_core.specs.declared.limit.Limit.{Limit}
use Rattle.std.specs.Prelude.{codes}
use Rattle.std.specs.List.{All, AllByRecursion, flat_map}
use Rattle.std.proofs.lemmas.List.{length-append, length-map, map-append}
use Rattle.std.proofs.lemmas.List.Concat.{flat_map-cons}
use Rattle.std.proofs.lemmas.List.Elements.{All-head, All-tail}
use Rattle.std.proofs.Math.Seq.{get_or-append_seam, take-append_seam}
use Rattle.csv.specs.Machine.{next_record}
use Rattle.csv.specs.Reading.{default_config, records, records_from, strip_bom}
use Rattle.csv.specs.Writing.{default_writer, fields_text, is_blank, read_back, row_body, row_text}
use Rattle.csv.specs.declared.parser.State.TheVariants as st
use Rattle.csv.proofs.RoundTrip.{read-write}
use Rattle.snap_core.specs.declared.event.Event.{Event}
use Rattle.snap_core.specs.declared.event.Event.TheVariants.{BeginUpdate, BeginView, EndUpdate, EndView}
use Rattle.std.proofs.lemmas.Bool.{lt-leb}
use Rattle.snap_core.specs.Events.{EventFits, IsNumbered}
use Rattle.snap_core.specs.Bounded.{IsBoundedBy, IsHistoryBy}
use Rattle.snap_core.specs.declared.writers.Writers.{Writers}
use Rattle.snap_core.specs.Refusals.{refusal_of}
use Rattle.snap_core.proofs.Picks.{is_short, picked}
use Rattle.snap_core.proofs.OrderedPushes.{history_by_back, is_ordered_by}
use Rattle.snap_text.specs.Fields.{Fields}
use Rattle.snap_format.specs.Rows.{rows_of}
use Rattle.snap_format.specs.Layout.{header, history_text, record_text}
use Rattle.snap_format.specs.Faults.{NoFault, events_in, fault_at, fault_with, row_fault}
use Rattle.snap_text.specs.Laws.{HasNumber}
use Rattle.snap_format.specs.Texts.{IsText, bytes_within}
use Rattle.snap_text.specs.Spelling.{spelled}
use Rattle.snap_text.proofs.BackFacts.{event_back}
use Rattle.snap_format.proofs.LineFacts.{header_line, line_of}

abbrev pub row : Fields → List ℕ
row r = row_text default_writer r

-- ---- records

unfoldable pub Whole : List Fields → Type 0
Whole rows = AllByRecursion (λ r. read_back r ≡ r) rows

no_more : (n : ℕ) → records_from default_config n st.StartRecord [] ≡ []
unfolding records_from next_record
no_more zero = refl
no_more (suc n) = refl

one_more : (n : ℕ) (r : Fields) (tail : List ℕ) → records_from default_config (suc n) st.StartRecord (row r ++ tail) ≡ read_back r ∷ records_from default_config n st.StartRecord tail
unfolding records_from
one_more n r tail = rw (read-write r tail) refl

pub rows_back : (rows : List Fields) (n : ℕ) → length rows ≤ n → Whole rows → records_from default_config n st.StartRecord (flat_map row rows) ≡ rows
unfolding Whole
rows_back [] n lt whole = no_more n
rows_back (r ∷ rs) zero lt whole = absurd (omega arith)
rows_back (r ∷ rs) (suc n) lt whole =
    ap (λ (t : List ℕ). records_from default_config (suc n) st.StartRecord t) (flat_map-cons row r rs)
    ∙ one_more n r (flat_map row rs) ∙ rw (whole.0, rows_back rs n (omega arith) whole.1) refl

end_long : (a b : List ℕ) → 0 < length (a ++ (b ++ 10 ∷ []))
end_long a b = omega (arith, length-append a (b ++ 10 ∷ []), length-append b (10 ∷ []))

row_long : (r : Fields) → 0 < length (row r)
row_long r = end_long (row_body default_writer r) _

pub rows_long : (rows : List Fields) → length rows ≤ length (flat_map row rows)
rows_long [] = omega arith
rows_long (r ∷ rs) = omega (arith, rows_long rs, row_long r, length-append (row r) (flat_map row rs), ap length (flat_map-cons row r rs))

whole_event : (x : Event) → read_back (spelled x) ≡ spelled x
whole_event (BeginUpdate p e) = refl
whole_event (BeginView p) = refl
whole_event (EndUpdate p) = refl
whole_event (EndView p es) = refl

whole_events : (xs : List Event) → Whole (map spelled xs)
unfolding Whole
whole_events [] = tt
whole_events (x ∷ xs) = (whole_event x, whole_events xs)

lines : (xs : List Event) → All EventFits xs → flat_map record_text (map spelled xs) ≡ flat_map row (map spelled xs)
lines [] fits = refl
lines (x ∷ xs) fits =
    flat_map-cons record_text (spelled x) (map spelled xs)
    ∙ ap (λ (t : List ℕ). record_text (spelled x) ++ t) (lines xs (All-tail EventFits x xs fits))
    ∙ ap (λ (t : List ℕ). t ++ flat_map row (map spelled xs)) (sym (line_of x (All-head EventFits x xs fits)))
    ∙ sym (flat_map-cons row (spelled x) (map spelled xs))

header_text : row header ≡ codes "event,process,op,data\n"
unfolding fields_text is_blank
header_text = refl

plain_start : (tail : List ℕ) → strip_bom (codes "event,process,op,data\n" ++ tail) ≡ codes "event,process,op,data\n" ++ tail
unfolding strip_bom
plain_start tail = refl

no_mark : (tail : List ℕ) → strip_bom (row header ++ tail) ≡ row header ++ tail
no_mark tail = ap (λ (h : List ℕ). strip_bom (h ++ tail)) header_text ∙ plain_start tail ∙ sym (ap (λ (h : List ℕ). h ++ tail) header_text)

begins : (tail : List ℕ) → record_text header ++ tail ≡ row header ++ tail
unfolding history_text record_text
begins tail = ap (λ (t : List ℕ). t ++ tail) (sym header_line)

text_is : (xs : List Event) → All EventFits xs → history_text xs ≡ row header ++ flat_map row (map spelled xs)
unfolding history_text
text_is xs fits = flat_map-cons record_text header (map spelled xs) ∙ ap (λ (t : List ℕ). record_text header ++ t) (lines xs fits) ∙ begins (flat_map row (map spelled xs))

pub text_rows : (xs : List Event) → All EventFits xs → rows_of (history_text xs) ≡ header ∷ map spelled xs
unfolding Whole
text_rows xs fits =
    let rows = header ∷ map spelled xs in
    let text : row header ++ flat_map row (map spelled xs) ≡ flat_map row rows = sym (flat_map-cons row header (map spelled xs)) in
    let plain : strip_bom (history_text xs) ≡ flat_map row rows = ap strip_bom (text_is xs fits) ∙ no_mark (flat_map row (map spelled xs)) ∙ text in
    ap (λ (t : List ℕ). records default_config t) plain
    ∙ rows_back rows (length (flat_map row rows) + 1) (omega (arith, rows_long rows)) (refl, whole_events xs)

-- ---- no fault

-- what each event of a history keeps
abbrev pub Reads : Event → Type 0
Reads x = EventFits x × HasNumber x

number_of : (xs ys : List Event) (x : Event) (zs : List Event) → IsNumbered xs → xs ≡ ys ++ x ∷ zs → HasNumber x
number_of xs ys (BeginUpdate p e) zs h is = let n = h ys zs p e is in omega (arith, n)
number_of xs ys (BeginView p) zs h is = tt
number_of xs ys (EndUpdate p) zs h is = tt
number_of xs ys (EndView p es) zs h is = tt

pub each_reads : (xs ys zs : List Event) → IsNumbered xs → xs ≡ ys ++ zs → All EventFits zs → AllByRecursion Reads zs
each_reads xs ys [] h is fits = tt
each_reads xs ys (z ∷ zs) h is fits =
    let moved : xs ≡ (ys ++ z ∷ []) ++ zs = is ∙ sym (append_assoc ys (z ∷ []) zs) in
    ((All-head EventFits z zs fits, number_of xs ys z zs h is), each_reads xs (ys ++ z ∷ []) zs h moved (All-tail EventFits z zs fits))

events_back : (xs : List Event) → AllByRecursion Reads xs → events_in (map spelled xs) ≡ xs
events_back [] h = refl
events_back (x ∷ xs) h = rw (event_back x h.0.0 h.0.1, events_back xs h.1) refl

front : (writers : Writers) (ys zs : List Event) → IsHistoryBy writers (ys ++ zs) → IsHistoryBy writers ys
front writers ys [] h = subst (IsHistoryBy writers) (append-nil ys) h
front writers ys (z ∷ zs) h =
    let longer = front writers (ys ++ z ∷ []) zs (subst (IsHistoryBy writers) (sym (append_assoc ys (z ∷ []) zs)) h) in
    (history_by_back writers ys z longer).0

-- no refusal applies to an event that stands in a history
pub not_refused : (limit : Limit) (ys : List Event) (x : Event) (zs : List Event) → IsHistoryBy limit.writers (ys ++ x ∷ zs) → length ys < limit.events → refusal_of limit ys x ≡ None
not_refused limit ys x zs h lt =
    let longer = front limit.writers (ys ++ x ∷ []) zs (subst (IsHistoryBy limit.writers) (sym (append_assoc ys (x ∷ []) zs)) h) in
    let a = (history_by_back limit.writers ys x longer).1 in
    picked limit ys x false false false false false false false (is_short limit ys lt) a.not_busy a.not_idle a.not_other a.writer a.number a.order

pub none_then : (limit : Limit) (ys : List Event) (x : Event) → refusal_of limit ys x ≡ None → fault_with limit ys (Ok x) ≡ None
none_then limit ys x none = rw none refl

four_fields : (x : Event) → (length (spelled x) == 4) ≡ true
four_fields (BeginUpdate p e) = refl
four_fields (BeginView p) = refl
four_fields (EndUpdate p) = refl
four_fields (EndView p es) = refl

row_clean : (limit : Limit) (ys : List Event) (x : Event) → length ys < limit.events → refusal_of limit ys x ≡ None → Reads x → row_fault limit ys (spelled x) ≡ None
unfolding row_fault
row_clean limit ys x lt none h = rw (four_fields x, lt-leb limit.events (length ys) lt, event_back x h.0 h.1) (none_then limit ys x none)

-- an element with what stands before and after it
pub record Place (xs : List Event) (i : ℕ) : Type 0 where
  pub before : List Event
  pub here : Event
  pub behind : List Event
  pub whole : xs ≡ before ++ here ∷ behind
  pub count : length before ≡ i

pub place : (xs : List Event) (i : ℕ) → i < length xs → Place xs i
place [] i lt = absurd (omega arith)
place (x ∷ xs) zero lt = record { before = []; here = x; behind = xs; whole = refl; count = refl }
place (x ∷ xs) (suc i) lt =
    let p = place xs i (omega arith) in
    record { before = x ∷ p.before; here = p.here; behind = p.behind; whole = ap (λ (t : List Event). x ∷ t) p.whole; count = ap (λ n. suc n) p.count }

reads_front : (ys zs : List Event) → AllByRecursion Reads (ys ++ zs) → AllByRecursion Reads ys
reads_front [] zs h = tt
reads_front (y ∷ ys) zs h = (h.0, reads_front ys zs h.1)

reads_here : (ys : List Event) (x : Event) (zs : List Event) → AllByRecursion Reads (ys ++ x ∷ zs) → Reads x
reads_here [] x zs h = h.0
reads_here (y ∷ ys) x zs h = reads_here ys x zs h.1

clean_at : (limit : Limit) (ys : List Event) (x : Event) (zs : List Event) → IsHistoryBy limit.writers (ys ++ x ∷ zs) → length (ys ++ x ∷ zs) ≤ limit.events → AllByRecursion Reads (ys ++ x ∷ zs)
    → fault_at limit (map spelled (ys ++ x ∷ zs)) (length ys) ≡ None
clean_at limit ys x zs h few reads =
    let lt : length ys < limit.events = omega (arith, few, length-append ys (x ∷ zs)) in
    let rows : map spelled (ys ++ x ∷ zs) ≡ map spelled ys ++ spelled x ∷ map spelled zs = map-append spelled ys (x ∷ zs) in
    let len : length (map spelled ys) ≡ length ys = length-map ys spelled in
    let before : take (length ys) (map spelled ys ++ spelled x ∷ map spelled zs) ≡ map spelled ys = rw (← len) (take-append_seam (map spelled ys) (spelled x ∷ map spelled zs)) in
    let there : get_or (map spelled ys ++ spelled x ∷ map spelled zs) (length ys) [] ≡ spelled x = rw (← len) (get_or-append_seam (map spelled ys) (spelled x) (map spelled zs) []) in
    ap (λ (t : List Fields). fault_at limit t (length ys)) rows
    ∙ rw (before, there, events_back ys (reads_front ys (x ∷ zs) reads)) (row_clean limit ys x lt (not_refused limit ys x zs h lt) (reads_here ys x zs reads))

no_fault : (limit : Limit) (xs : List Event) → IsHistoryBy limit.writers xs → length xs ≤ limit.events → AllByRecursion Reads xs → NoFault limit (map spelled xs)
no_fault limit xs h few reads = λ i lt.
    let p = place xs i (omega (arith, lt, length-map xs spelled)) in
    let here = clean_at limit p.before p.here p.behind (subst (IsHistoryBy limit.writers) p.whole h)
    (subst (λ (t : List Event). length t ≤ limit.events) p.whole few) (subst (λ (t : List Event). AllByRecursion Reads t) p.whole reads) in
    subst (λ (t : List Event). fault_at limit (map spelled t) i ≡ None) (sym p.whole) (subst (λ n. fault_at limit (map spelled (p.before ++ p.here ∷ p.behind)) n ≡ None) p.count here)

pub text_reads : (limit : Limit) (xs : List Event) → IsBoundedBy limit.writers xs → length xs ≤ limit.events → length (history_text xs) ≤ bytes_within limit → IsText limit (history_text xs) xs
text_reads limit xs k few short =
    let reads = each_reads xs [] xs (is_ordered_by limit.writers xs k.history).numbered refl k.fit in
    (short, rw (text_rows xs k.fit) (inl (refl, no_fault limit xs k.history few reads, sym (events_back xs reads))))
