-- How long the text of a history can be.
use Rattle.std.proofs.Common.{◌≡◌, ◌<◌, ◌≤◌, ◌+◌, ◌*◌, ◌==◌, ◌++◌, not, cond, ℕ, suc, zero, Bool, true, false, List, [], ◌∷◌, length, map, refl, arith, ◌∙◌, sym, ap, subst}
use Rattle.snap_core.specs.declared.limit.Limit.{Limit}
use Rattle.std.specs.Prelude.{decimal, filter, codes, nat_lt}
use Rattle.std.specs.List.{All, sum_by}
use Rattle.std.proofs.lemmas.Bool.{and_parts, eq-eqb, eqb-true, ltb-true}
use Rattle.std.proofs.lemmas.Bool.Decides.{nat_tests}
use Rattle.std.proofs.lemmas.List.Filters.{length-filter_both, sum_by-filter_both}
use Rattle.std.proofs.lemmas.Fmt.{length-decimal-le}
use Rattle.std.proofs.lemmas.List.{length-append}
use Rattle.std.proofs.lemmas.List.Sums.{sum_by-cons}
use Rattle.std.proofs.lemmas.List.Concat.{length-flat_map}
use Rattle.std.proofs.lemmas.List.Elements.{All-filter, All-head, All-tail}
use Rattle.snap_core.specs.declared.entry.Entry.{Entry}
use Rattle.snap_core.specs.declared.event.Event.{Event}
use Rattle.snap_core.specs.declared.event.Event.TheVariants.{BeginUpdate, BeginView, EndUpdate, EndView}
use Rattle.snap_core.specs.Entries.{AreEntries, EntryFits, rises}
use Rattle.snap_core.specs.Events.{EventFits, TakeTurns, IsBegin, Ends, IsWellFormed, events_of, process_of}
use Rattle.snap_core.specs.Bounded.{IsBoundedOrdered}
use Rattle.snap_core.specs.Refusals.{is_begin}
use Rattle.snap_format.specs.Laws.{ListsAtMost}
use Rattle.snap_format.specs.Texts.{bytes_within}
use Rattle.snap_format.specs.Layout.{header, history_text, record_text}
use Rattle.snap_text.specs.Spelling.{entries_text, entry_text, spelled}

-- ---- one record

entry_short : (e : Entry) → EntryFits e → length (entry_text e) ≤ 25
entry_short e f =
    let k = length-decimal-le 3 e.component (omega arith) (omega (arith, f.0)) (omega (arith, f.0)) in
    let n = length-decimal-le 10 e.number (omega arith) (omega (arith, f.1)) (omega (arith, f.1)) in
    let v = length-decimal-le 10 e.value (omega arith) (omega (arith, f.2)) (omega (arith, f.2)) in
    omega (arith, k, n, v, length-append (decimal e.component) (58 ∷ (decimal e.number ++ 58 ∷ decimal e.value)), length-append (decimal e.number) (58 ∷ decimal e.value))

entries_short : (es : List Entry) → All EntryFits es → length (entries_text es) ≤ 26 * length es
unfolding entries_text
entries_short [] f = omega arith
entries_short (e ∷ []) f = omega (arith, entry_short e (All-head EntryFits e [] f))
entries_short (e ∷ d ∷ es) f =
    omega (arith, entry_short e (All-head EntryFits e (d ∷ es) f), entries_short (d ∷ es) (All-tail EntryFits e (d ∷ es) f), length-append (entry_text e) (32 ∷ entries_text (d ∷ es)))

-- components that rise from one on and stay below 256
few_more : (e : Entry) (es : List Entry) → rises (e ∷ es) ≡ true → All EntryFits (e ∷ es) → length (e ∷ es) + e.component ≤ 256
few_more e [] up f = let k = (All-head EntryFits e [] f).0 in omega (arith, k)
few_more e (d ∷ es) up f =
    let both = and_parts (nat_lt e.component d.component) (rises (d ∷ es)) up in
    let less = ltb-true e.component d.component both.0 in
    omega (arith, less, few_more d es both.1 (All-tail EntryFits e (d ∷ es) f))

few_entries : (es : List Entry) → AreEntries es → length es ≤ 256
few_entries [] f = omega arith
few_entries (e ∷ es) f = omega (arith, few_more e es f.rising f.fit)

record_long : (a b c d : List ℕ) → length (record_text (a ∷ b ∷ c ∷ d ∷ [])) ≡ length a + length b + length c + length d + 4
unfolding record_text
record_long a b c d =
    omega (arith, length-append (a ++ 44 ∷ (b ++ 44 ∷ (c ++ 44 ∷ d))) (10 ∷ []), length-append a (44 ∷ (b ++ 44 ∷ (c ++ 44 ∷ d))), length-append b (44 ∷ (c ++ 44 ∷ d)), length-append c (44 ∷ d))

process_short : (p : ℕ) → p < 65536 → length (decimal p) ≤ 5
process_short p lt = length-decimal-le 5 p (omega arith) (omega (arith, lt)) (omega (arith, lt))

-- a begin is short, and an end as long as the longest view
abbrev most : Bool → ℕ
most true = 64
most false = 6700

record_short : (x : Event) → EventFits x → length (record_text (spelled x)) ≤ most (is_begin x)
record_short (BeginUpdate p e) f = omega (arith, record_long (codes "begin") (decimal p) (codes "update") (entry_text e), process_short p f.0, entry_short e f.1)
record_short (BeginView p) f = omega (arith, record_long (codes "begin") (decimal p) (codes "view") [], process_short p f)
record_short (EndUpdate p) f = omega (arith, record_long (codes "end") (decimal p) (codes "update") [], process_short p f)
record_short (EndView p es) f =
    omega (arith, record_long (codes "end") (decimal p) (codes "view") (entries_text es), process_short p f.0, entries_short es f.1.fit, few_entries es f.1)

-- ---- the records of one process

abbrev weight : Event → ℕ
weight x = length (record_text (spelled x))

begins_short : (x : Event) → IsBegin x → EventFits x → weight x ≤ 64
begins_short (BeginUpdate p e) b f = record_short (BeginUpdate p e) f
begins_short (BeginView p) b f = record_short (BeginView p) f
begins_short (EndUpdate p) b f = absurd b
begins_short (EndView p es) b f = absurd b

is_begun : (b e : Event) → Ends b e → IsBegin b
is_begun (BeginUpdate p d) e h = tt
is_begun (BeginView p) e h = tt
is_begun (EndUpdate p) e h = absurd h
is_begun (EndView p s) e h = absurd h

any_short : (x : Event) → EventFits x → weight x ≤ 6700
any_short (BeginUpdate p e) f = omega (arith, record_short (BeginUpdate p e) f)
any_short (BeginView p) f = omega (arith, record_short (BeginView p) f)
any_short (EndUpdate p) f = record_short (EndUpdate p) f
any_short (EndView p es) f = record_short (EndView p es) f

-- a begin and its end weigh no more than twice 3,382
turns_short : (ys : List Event) → TakeTurns ys → All EventFits ys → sum_by weight ys ≤ 3382 * length ys
turns_short [] t f = omega arith
turns_short (b ∷ []) t f = omega (arith, begins_short b t (All-head EventFits b [] f), sum_by-cons weight b [])
turns_short (b ∷ e ∷ rest) t f =
    let later = All-tail EventFits b (e ∷ rest) f in
    let first = begins_short b (is_begun b e t.0) (All-head EventFits b (e ∷ rest) f) in
    let second = any_short e (All-head EventFits e rest later) in
    omega (arith, first, second, turns_short rest t.1 (All-tail EventFits e rest later), sum_by-cons weight b (e ∷ rest), sum_by-cons weight e rest)

-- ---- one process after the other

abbrev others_of : ℕ → List Event → List Event
others_of p xs = filter (λ x. not (process_of x == p)) xs

none_left : (p : ℕ) (xs : List Event) → events_of p (others_of p xs) ≡ []
none_left p [] = refl
none_left p (x ∷ xs) = go (process_of x == p) refl (none_left p xs)
  where
    go : (b : Bool) → (process_of x == p) ≡ b → events_of p (others_of p xs) ≡ [] → events_of p (cond (not b) (x ∷ others_of p xs) (others_of p xs)) ≡ []
    go true e more = more
    go false e more = rw e more

eqb_apart : (a p q : ℕ) → a ≡ p → (q == p) ≡ false → (a == q) ≡ false
eqb_apart a p q is h = grind (arith, nat_tests)

same_left : (p q : ℕ) (xs : List Event) → (q == p) ≡ false → events_of q (others_of p xs) ≡ events_of q xs
same_left p q [] h = refl
same_left p q (x ∷ xs) h = go (process_of x == p) refl (same_left p q xs h)
  where
    go : (b : Bool) → (process_of x == p) ≡ b → events_of q (others_of p xs) ≡ events_of q xs → events_of q (cond (not b) (x ∷ others_of p xs) (others_of p xs)) ≡ events_of q (x ∷ xs)
    go true e more =
        let is : process_of x ≡ p = eqb-true (process_of x) p e in
        let test : (process_of x == q) ≡ false = eqb_apart (process_of x) p q is h in
        more ∙ sym (rw test refl)
    go false e more = ap (λ (t : List Event). cond (process_of x == q) (x ∷ t) t) more

turns_left : (p : ℕ) (xs : List Event) → IsWellFormed xs → IsWellFormed (others_of p xs)
turns_left p xs h = λ q. go q (q == p) refl
  where
    go : (q : ℕ) (b : Bool) → (q == p) ≡ b → TakeTurns (events_of q (others_of p xs))
    go q true e =
        let is : q ≡ p = eqb-true q p e in
        subst (λ (t : List Event). TakeTurns t) (sym (subst (λ n. events_of n (others_of p xs) ≡ []) (sym is) (none_left p xs))) tt
    go q false e = subst (λ (t : List Event). TakeTurns t) (sym (same_left p q xs e)) (h q)

some_mine : (x : Event) (xs : List Event) → 0 < length (events_of (process_of x) (x ∷ xs))
some_mine x xs = let test : (process_of x == process_of x) ≡ true = eq-eqb (process_of x) (process_of x) refl in rw test (omega arith)

all_short : (n : ℕ) (xs : List Event) → length xs ≤ n → IsWellFormed xs → All EventFits xs → sum_by weight xs ≤ 3382 * length xs
all_short n [] le h f = omega arith
all_short zero (x ∷ xs) le h f = absurd (omega arith)
all_short (suc n) (x ∷ xs) le h f =
    let p = process_of x in
    let here = λ (e : Event). process_of e == p in
    let there = λ (e : Event). not (process_of e == p) in
    let lengths : length (events_of p (x ∷ xs)) + length (others_of p (x ∷ xs)) ≡ length (x ∷ xs) = length-filter_both here there (λ e. refl) (x ∷ xs) in
    let sums : sum_by weight (events_of p (x ∷ xs)) + sum_by weight (others_of p (x ∷ xs)) ≡ sum_by weight (x ∷ xs) = sum_by-filter_both here there (λ e. refl) weight (x ∷ xs) in
    let mine = turns_short (events_of p (x ∷ xs)) (h p) (All-filter here EventFits (x ∷ xs) f) in
    let some = some_mine x xs in
    let rest = all_short n (others_of p (x ∷ xs)) (omega (arith, lengths, some, le)) (turns_left p (x ∷ xs) h) (All-filter there EventFits (x ∷ xs) f) in
    short_both (length (events_of p (x ∷ xs))) (length (others_of p (x ∷ xs))) (length (x ∷ xs)) _ _ _ lengths sums mine rest
  where
    short_both : (a b c s t u : ℕ) → a + b ≡ c → s + t ≡ u → s ≤ 3382 * a → t ≤ 3382 * b → u ≤ 3382 * c
    short_both a b c s t u lengths sums mine rest = omega arith

map_weights : (xs : List Event) → sum_by (λ r. length (record_text r)) (map spelled xs) ≡ sum_by weight xs
map_weights [] = refl
map_weights (x ∷ xs) =
    sum_by-cons (λ r. length (record_text r)) (spelled x) (map spelled xs) ∙ ap (λ n. weight x + n) (map_weights xs) ∙ sym (sum_by-cons weight x xs)

-- as all records weigh together, the text weighs with its header
text_weight : (xs : List Event) → length (history_text xs) ≡ 22 + sum_by weight xs
unfolding history_text
text_weight xs = omega (arith, length-flat_map record_text (header ∷ map spelled xs), sum_by-cons (λ r. length (record_text r)) header (map spelled xs), record_long (codes "event") (codes "process") (codes "op") (codes "data"), map_weights xs)

pub text_short : (limit : Limit) (xs : List Event) → IsBoundedOrdered xs → 4 * length xs ≤ limit.events → length (history_text xs) ≤ bytes_within limit
text_short limit xs k few = omega (arith, text_weight xs, all_short (length xs) xs (omega arith) k.history.well_formed k.fit, few, limit.fits.0)

-- ---- views of few entries

narrow_short : (x : Event) → EventFits x → ListsAtMost 36 x → weight x ≤ 1000
narrow_short (BeginUpdate p e) f few = omega (arith, record_short (BeginUpdate p e) f)
narrow_short (BeginView p) f few = omega (arith, record_short (BeginView p) f)
narrow_short (EndUpdate p) f few = omega (arith, record_long (codes "end") (decimal p) (codes "update") [], process_short p f)
narrow_short (EndView p es) f few = omega (arith, record_long (codes "end") (decimal p) (codes "view") (entries_text es), process_short p f.0, entries_short es f.1.fit, few)

each_narrow : (xs : List Event) → All EventFits xs → All (ListsAtMost 36) xs → sum_by weight xs ≤ 1000 * length xs
each_narrow [] f few = omega arith
each_narrow (x ∷ xs) f few =
    omega (arith, narrow_short x (All-head EventFits x xs f) (All-head (ListsAtMost 36) x xs few), each_narrow xs (All-tail EventFits x xs f) (All-tail (ListsAtMost 36) x xs few), sum_by-cons weight x xs)

pub narrow_text_short : (limit : Limit) (xs : List Event) → IsBoundedOrdered xs → length xs ≤ limit.events → All (ListsAtMost 36) xs → length (history_text xs) ≤ bytes_within limit
narrow_text_short limit xs k short few = omega (arith, text_weight xs, each_narrow xs k.fit few, short, limit.fits.0)
