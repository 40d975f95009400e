-- The events of a text are a history.
use Rattle.std.proofs.Common.{◌≡◌, ◌<◌, ◌≤◌, ◌+◌, ◌^◌, ◌++◌, ◌==◌, cond, inl, inr, ℕ, zero, suc, Bool, true, false, not, List, [], ◌∷◌, length, get_or, take, Option, Some, None, Result, Ok, Err, refl, arith, ◌∙◌, sym, ap, subst}
use Rattle.snap_core.specs.declared.limit.Limit.{Limit}
use Rattle.std.specs.Prelude.{nat_le, is_none, option_and_then, option_map, All}
use Rattle.std.proofs.lemmas.List.{map-append, take_all}
use Rattle.std.proofs.lemmas.List.Elements.{All-cons, All-get_or, All-nil, filter_map-append}
use Rattle.std.proofs.lemmas.List.Sorted.{All-permutation}
use Rattle.std.proofs.Math.Seq.{take-suc}
use Rattle.snap_core.specs.declared.entry.Entry.{Entry}
use Rattle.snap_core.specs.declared.event.Event.{Event}
use Rattle.snap_core.specs.declared.event.Event.TheVariants.{BeginUpdate, BeginView, EndUpdate, EndView}
use Rattle.snap_core.specs.declared.view.ViewRefusal.TheVariants.{NotRising, ZeroNumber}
use Rattle.snap_core.specs.Entries.{AreEntries, EntryFits, has_zero, rises}
use Rattle.snap_core.specs.Events.{EventFits}
use Rattle.snap_core.specs.Bounded.{IsBoundedBy}
use Rattle.snap_core.specs.Refusals.{breaks_order, breaks_writer, has_other_number, is_busy, is_idle, is_other, refusal_of}
use Rattle.snap_core.proofs.Picks.{pick, picked}
use Rattle.snap_core.proofs.OrderedPushes.{bounded_nil, bounded_push}
use Rattle.snap_text.specs.declared.fault.TextFault.{TextFault}
use Rattle.snap_text.specs.declared.fault.TextFault.TheVariants as faults
use Rattle.snap_text.specs.Fields.{◌>>=◌, Fields, begins_at, empty_at, entries_at, entry_at, event_of, event_with, number_at, numbered, or_fault, row_event, update_at, updates_at, view_at, viewed}
use Rattle.snap_text.proofs.GrammarFacts.{bind_ok, entry_fits, some_or}
use Rattle.snap_text.proofs.KnownFacts.{read_spelled}
use Rattle.snap_text.proofs.NumberFacts.{number_is}
use Rattle.snap_format.specs.declared.stamped.Stamped.{Stamped}
use Rattle.snap_format.specs.Rows.{rows_of}
use Rattle.snap_format.specs.Faults.{NoFault, event_in, events_in, fault_of, fault_with, row_fault}
use Rattle.snap_format.specs.Stamps.{NoneOf, events_of, nothing, order_at, stamped_from, stamped_in, stamped_row, with_stamped}
use Rattle.snap_format.specs.Texts.{IsText, RowsRead}

-- ---- what is read fits its type

numbered_fits : (e d : Entry) (b : Bool) → EntryFits e → cond b None (Some e) ≡ Some d → EntryFits d
numbered_fits e d true fits h = absurd cc
numbered_fits e d false fits h = let same : e ≡ d = cc in subst (λ (x : Entry). EntryFits x) same fits

update_fits : (text : List ℕ) (e : Entry) → update_at text ≡ Some e → EntryFits e
unfolding update_at
update_fits text e h = go (entry_at text) refl h
  where
    go : (o : Option Entry) → entry_at text ≡ o → option_and_then numbered o ≡ Some e → EntryFits e
    go None is h = absurd cc
    go (Some x) is h = numbered_fits x e (x.number == 0) (entry_fits text x is) h

viewed_fit : (xs es : List Entry) (r z : Bool) → rises xs ≡ r → has_zero xs ≡ z → All EntryFits xs
    → cond (is_none (cond (not r) (Some NotRising) (cond z (Some ZeroNumber) None))) (Some xs) None ≡ Some es → AreEntries es
viewed_fit xs es true true up none fits h = absurd cc
viewed_fit xs es true false up none fits h = let same : xs ≡ es = cc in subst (λ (ys : List Entry). AreEntries ys) same (record { rising = up; positive = none; fit = fits })
viewed_fit xs es false z up none fits h = absurd cc

view_fits : (text : List ℕ) (es : List Entry) → view_at text ≡ Some es → AreEntries es
unfolding view_at
view_fits text es h = go (entries_at text) refl h
  where
    go : (o : Option (List Entry)) → entries_at text ≡ o → option_and_then viewed o ≡ Some es → AreEntries es
    go None is h = absurd cc
    go (Some xs) is h = viewed_fit xs es (rises xs) (has_zero xs) refl refl (read_spelled xs text is).fit h

empty_fits : (x y : Event) (text : List ℕ) → EventFits x → empty_at x text ≡ Ok y → EventFits y
empty_fits x y text fits h = go (length text == 0) h
  where
    go : (b : Bool) → cond b (Ok x) (Err faults.BadData) ≡ Ok y → EventFits y
    go true h = let same : x ≡ y = cc in subst (λ (z : Event). EventFits z) same fits
    go false h = absurd cc

data_fits : (b : Bool) (p : ℕ) (u : Bool) (text : List ℕ) (x : Event) → p < 65536 → event_with b p u text ≡ Ok x → EventFits x
data_fits true p true text x lt h = go (update_at text) refl h
  where
    go : (o : Option Entry) → update_at text ≡ o → or_fault faults.BadData (option_map (λ e. BeginUpdate p e) o) ≡ Ok x → EventFits x
    go None is h = absurd cc
    go (Some e) is h = let same : BeginUpdate p e ≡ x = cc in subst (λ (z : Event). EventFits z) same (lt, update_fits text e is)
data_fits true p false text x lt h = empty_fits (BeginView p) x text lt h
data_fits false p true text x lt h = empty_fits (EndUpdate p) x text lt h
data_fits false p false text x lt h = go (view_at text) refl h
  where
    go : (o : Option (List Entry)) → view_at text ≡ o → or_fault faults.BadData (option_map (λ es. EndView p es) o) ≡ Ok x → EventFits x
    go None is h = absurd cc
    go (Some es) is h = let same : EndView p es ≡ x = cc in subst (λ (z : Event). EventFits z) same (lt, view_fits text es is)

fields_fit : (a p o d : List ℕ) (x : Event) → event_of a p o d ≡ Ok x → EventFits x
unfolding event_of
fields_fit a p o d x h =
    let (b, eb, hb) = bind_ok (begins_at a) (λ begins. or_fault faults.BadProcess (number_at (2 ^ 16) p) >>= (λ process. updates_at o >>= (λ updates. event_with begins process updates d))) x h in
    let (n, en, hn) = bind_ok (or_fault faults.BadProcess (number_at (2 ^ 16) p)) (λ process. updates_at o >>= (λ updates. event_with b process updates d)) x hb in
    let (u, eu, hu) = bind_ok (updates_at o) (λ updates. event_with b n updates d) x hn in
    data_fits b n u d x (number_is (2 ^ 16) n p (some_or faults.BadProcess (number_at (2 ^ 16) p) n en)).0 hu

row_fits : (r : Fields) (x : Event) → row_event r ≡ Ok x → EventFits x
unfolding row_event
row_fits [] x h = absurd cc
row_fits (a ∷ []) x h = absurd cc
row_fits (a ∷ p ∷ []) x h = absurd cc
row_fits (a ∷ p ∷ o ∷ []) x h = absurd cc
row_fits (a ∷ p ∷ o ∷ d ∷ []) x h = fields_fit a p o d x h
row_fits (a ∷ p ∷ o ∷ d ∷ e ∷ rest) x h = absurd cc

stamped_fits : (r : Fields) (x : ℕ × Event) → stamped_row r ≡ Ok x → EventFits x.1
unfolding stamped_row
stamped_fits [] x h = absurd cc
stamped_fits (t ∷ []) x h = absurd cc
stamped_fits (t ∷ a ∷ []) x h = absurd cc
stamped_fits (t ∷ a ∷ p ∷ []) x h = absurd cc
stamped_fits (t ∷ a ∷ p ∷ o ∷ []) x h = absurd cc
stamped_fits (t ∷ a ∷ p ∷ o ∷ d ∷ []) x h =
    let (at, et, ht) = bind_ok (or_fault faults.BadAt (number_at (2 ^ 64) t)) (λ at. event_of a p o d >>= (λ event. Ok (at, event))) x h in
    let (event, ee, he) = bind_ok (event_of a p o d) (λ event. Ok (at, event)) x ht in
    let is : ◌≡◌ {A = ℕ × Event} (at, event) x = cc in
    subst (λ (z : ℕ × Event). EventFits z.1) is (fields_fit a p o d event ee)
stamped_fits (t ∷ a ∷ p ∷ o ∷ d ∷ e ∷ rest) x h = absurd cc

-- ---- an event without a fault is not refused

none_refused : (limit : Limit) (es : List Event) (x : Event) → fault_with limit es (Ok x) ≡ None → refusal_of limit es x ≡ None
none_refused limit es x h = go (nat_le limit.events (length es)) refl (is_busy es x) refl (is_idle es x) refl (is_other es x) refl (breaks_writer limit.writers es x) refl (has_other_number es x) refl (breaks_order limit.writers es x) refl
  where
    by : (t b i o w n r : Bool) → nat_le limit.events (length es) ≡ t → is_busy es x ≡ b → is_idle es x ≡ i → is_other es x ≡ o → breaks_writer limit.writers es x ≡ w → has_other_number es x ≡ n → breaks_order limit.writers es x ≡ r → option_and_then fault_of (pick t b i o w n r) ≡ None
    by t b i o w n r h1 h2 h3 h4 h5 h6 h7 = sym (ap (option_and_then fault_of) (picked limit es x t b i o w n r h1 h2 h3 h4 h5 h6 h7)) ∙ h

    go : (t : Bool) → nat_le limit.events (length es) ≡ t → (b : Bool) → is_busy es x ≡ b → (i : Bool) → is_idle es x ≡ i → (o : Bool) → is_other es x ≡ o → (w : Bool) → breaks_writer limit.writers es x ≡ w → (n : Bool) → has_other_number es x ≡ n → (r : Bool) → breaks_order limit.writers es x ≡ r → refusal_of limit es x ≡ None
    go true h1 b h2 i h3 o h4 w h5 n h6 r h7 = absurd (let g = by true b i o w n r h1 h2 h3 h4 h5 h6 h7 in cc)
    go false h1 true h2 i h3 o h4 w h5 n h6 r h7 = absurd (let g = by false true i o w n r h1 h2 h3 h4 h5 h6 h7 in cc)
    go false h1 false h2 true h3 o h4 w h5 n h6 r h7 = absurd (let g = by false false true o w n r h1 h2 h3 h4 h5 h6 h7 in cc)
    go false h1 false h2 false h3 true h4 w h5 n h6 r h7 = absurd (let g = by false false false true w n r h1 h2 h3 h4 h5 h6 h7 in cc)
    go false h1 false h2 false h3 false h4 true h5 n h6 r h7 = absurd (let g = by false false false false true n r h1 h2 h3 h4 h5 h6 h7 in cc)
    go false h1 false h2 false h3 false h4 false h5 true h6 r h7 = absurd (let g = by false false false false false true r h1 h2 h3 h4 h5 h6 h7 in cc)
    go false h1 false h2 false h3 false h4 false h5 false h6 true h7 = absurd (let g = by false false false false false false true h1 h2 h3 h4 h5 h6 h7 in cc)
    go false h1 false h2 false h3 false h4 false h5 false h6 false h7 = picked limit es x false false false false false false false h1 h2 h3 h4 h5 h6 h7

-- ---- records without stamps

row_then : (limit : Limit) (before : List Event) (r : Fields) → row_fault limit before r ≡ None → (x : Event) × (row_event r ≡ Ok x) × (fault_with limit before (Ok x) ≡ None)
unfolding row_fault
row_then limit before r h = go (length r == 4) (nat_le limit.events (length before)) (row_event r) h
  where
    go : (b c : Bool) (o : Result Event TextFault) → cond (not b) (Some faults.Fields) (cond c (Some faults.TooMany) (fault_with limit before o)) ≡ None → (x : Event) × (o ≡ Ok x) × (fault_with limit before (Ok x) ≡ None)
    go true false (Ok x) h = (x, refl, h)
    go true false (Err f) h = absurd cc
    go true true o h = absurd cc
    go false c o h = absurd cc

rows_kept : (limit : Limit) (rows : List Fields) → NoFault limit rows → (n : ℕ) → n ≤ length rows → IsBoundedBy limit.writers (events_in (take n rows))
rows_kept limit rows none zero le = bounded_nil limit.writers
rows_kept limit rows none (suc n) le =
    let before = events_in (take n rows) in
    let row = get_or rows n [] in
    let (x, is, fine) = row_then limit before row (none n (omega arith)) in
    let longer : events_in (take (suc n) rows) ≡ before ++ x ∷ [] =
    rw (take-suc rows n [] (omega arith), filter_map-append (λ r. event_in (row_event r)) (take n rows) (row ∷ []), is) refl in
    subst (IsBoundedBy limit.writers) (sym longer) (bounded_push limit before x (rows_kept limit rows none n (omega arith)) (none_refused limit before x fine) (row_fits row x is))

-- ---- records with stamps

abbrev Fits : Stamped → Type 0
Fits s = EventFits s.event

all_fit : (place : ℕ) (rows : List Fields) → All Fits (stamped_from place rows)
all_fit place [] = All-nil Fits
all_fit place (r ∷ rows) = go (stamped_row r) refl (all_fit (place + 1) rows)
  where
    go : (o : Result (ℕ × Event) TextFault) → stamped_row r ≡ o → All Fits (stamped_from (place + 1) rows) → All Fits (with_stamped place o (stamped_from (place + 1) rows))
    go (Ok x) is later = All-cons Fits (record { at = x.0; place = place; event = x.1 }) (stamped_from (place + 1) rows) (stamped_fits r x is) later
    go (Err f) is later = later

turns_kept : (limit : Limit) (xs : List Stamped) → NoneOf (order_at limit xs) (length xs) → All Fits xs → (n : ℕ) → n ≤ length xs → IsBoundedBy limit.writers (events_of (take n xs))
turns_kept limit xs none fits zero le = bounded_nil limit.writers
turns_kept limit xs none fits (suc n) le =
    let before = events_of (take n xs) in
    let s = get_or xs n nothing in
    let longer : events_of (take (suc n) xs) ≡ before ++ s.event ∷ [] = ap events_of (take-suc xs n nothing (omega arith)) ∙ map-append (λ (z : Stamped). z.event) (take n xs) (s ∷ []) in
    subst (IsBoundedBy limit.writers) (sym longer)
    (bounded_push limit before s.event (turns_kept limit xs none fits n (omega arith)) (none_refused limit before s.event (none n (omega arith))) (All-get_or Fits xs n nothing (omega arith) fits))

-- ---- a text

read_kept : (limit : Limit) (rows : List Fields) (events : List Event) → RowsRead limit rows events → IsBoundedBy limit.writers events
read_kept limit [] events read = absurd read
read_kept limit (head ∷ rows) events (inl (heads, none, is)) =
    let whole : take (length rows) rows ≡ rows = take_all (length rows) rows (omega arith) in
    subst (IsBoundedBy limit.writers) (sym is) (subst (λ r. IsBoundedBy limit.writers (events_in r)) whole (rows_kept limit rows none (length rows) (omega arith)))
read_kept limit (head ∷ rows) events (inr (heads, read)) =
    let xs = read.sorted in
    let whole : take (length xs) xs ≡ xs = take_all (length xs) xs (omega arith) in
    let fits = All-permutation Fits (stamped_in rows) xs read.order.same (all_fit 2 rows) in
    subst (IsBoundedBy limit.writers) (sym read.history) (subst (λ z. IsBoundedBy limit.writers (events_of z)) whole (turns_kept limit xs read.fine fits (length xs) (omega arith)))

pub text_kept : (limit : Limit) (text : List ℕ) (events : List Event) → IsText limit text events → IsBoundedBy limit.writers events
text_kept limit text events read = read_kept limit (rows_of text) events read.1
