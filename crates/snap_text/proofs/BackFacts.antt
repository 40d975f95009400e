-- The fields of an event's record read as that event, and no other event has them.
use Rattle.std.proofs.Common.{◌≡◌, ◌<◌, ◌^◌, ◌==◌, ◌++◌, inr, ℕ, true, false, List, [], ◌∷◌, length, map, Some, Ok, refl, arith, ◌∙◌, ap}
use Rattle.std.specs.Prelude.{decimal}
use Rattle.std.specs.List.{All}
use Rattle.std.proofs.lemmas.Bool.Decides.{nat_tests}
use Rattle.std.proofs.lemmas.List.{length-append}
use Rattle.std.proofs.lemmas.List.Elements.{All-head, All-tail}
use Rattle.std.proofs.lemmas.List.Splits.{slice_split_at, slice_split_none}
use Rattle.snap_core.specs.declared.entry.Entry.{Entry}
use Rattle.snap_core.specs.declared.event.Event.{Event}
use Rattle.snap_core.specs.declared.event.Event.TheVariants.{BeginUpdate, BeginView, EndUpdate, EndView}
use Rattle.snap_core.specs.Entries.{AreEntries, EntryFits}
use Rattle.snap_core.specs.Events.{EventFits}
use Rattle.snap_text.specs.Spelling.{entries_text, entry_text, spelled}
use Rattle.snap_text.specs.Fields.{all_of, entries_at, entry_at, event_of, parts, row_event, update_at, view_at}
use Rattle.snap_text.specs.Laws.{HasNumber}
use Rattle.snap_text.proofs.NumberFacts.{number_some}
use Rattle.snap_text.proofs.ByteFacts.{AllFit, Lacks, digits_lack, entry_lacks_space}
use Rattle.snap_text.proofs.PartFacts.{some_text}

pub fit_each : (es : List Entry) → All EntryFits es → AllFit es
fit_each [] h = tt
fit_each (e ∷ es) h = (All-head EntryFits e es h, fit_each es (All-tail EntryFits e es h))

pub parts_at : (mark : ℕ) (xs ys : List ℕ) → Lacks mark xs → parts mark (xs ++ mark ∷ ys) ≡ xs ∷ parts mark ys
parts_at mark xs ys h = let same : (mark == mark) ≡ true = grind (arith, nat_tests) in slice_split_at (λ b. b == mark) xs mark ys h same

pub one_part : (mark : ℕ) (xs : List ℕ) → Lacks mark xs → parts mark xs ≡ xs ∷ []
one_part mark xs h = slice_split_none (λ b. b == mark) xs h

-- ---- an entry

pub entry_back : (e : Entry) → EntryFits e → entry_at (entry_text e) ≡ Some e
unfolding entry_at
entry_back e f =
    let k = decimal e.component in
    let n = decimal e.number in
    let v = decimal e.value in
    let first : parts 58 (k ++ 58 ∷ (n ++ 58 ∷ v)) ≡ k ∷ parts 58 (n ++ 58 ∷ v) = parts_at 58 k (n ++ 58 ∷ v) (digits_lack 58 e.component (omega (arith, f.0)) (inr (omega arith))) in
    let second : parts 58 (n ++ 58 ∷ v) ≡ n ∷ parts 58 v = parts_at 58 n v (digits_lack 58 e.number (omega (arith, f.1)) (inr (omega arith))) in
    let third : parts 58 v ≡ v ∷ [] = one_part 58 v (digits_lack 58 e.value (omega (arith, f.2)) (inr (omega arith))) in
    let component = number_some (2 ^ 8) e.component k f.0 (omega arith) refl in
    let number = number_some (2 ^ 32) e.number n f.1 (omega arith) refl in
    let value = number_some (2 ^ 32) e.value v f.2 (omega arith) refl in
    rw (first, second, third, component, number, value) refl

-- ---- entries

pub words_of : (e : Entry) (es : List Entry) → AllFit (e ∷ es) → parts 32 (entries_text (e ∷ es)) ≡ map entry_text (e ∷ es)
unfolding entries_text
words_of e [] f = one_part 32 (entry_text e) (entry_lacks_space e f.0)
words_of e (d ∷ es) f =
    parts_at 32 (entry_text e) (entries_text (d ∷ es)) (entry_lacks_space e f.0) ∙ ap (λ (ps : List (List ℕ)). entry_text e ∷ ps) (words_of d es f.1)

all_back : (es : List Entry) → AllFit es → all_of (map entry_at (map entry_text es)) ≡ Some es
all_back [] f = refl
all_back (e ∷ es) f = rw (entry_back e f.0, all_back es f.1) refl

entry_long : (e : Entry) → 0 < length (entry_text e)
entry_long e = omega (arith, length-append (decimal e.component) (58 ∷ (decimal e.number ++ 58 ∷ decimal e.value)))

pub entries_long : (e : Entry) (es : List Entry) → 0 < length (entries_text (e ∷ es))
unfolding entries_text
entries_long e [] = entry_long e
entries_long e (d ∷ es) = omega (arith, length-append (entry_text e) (32 ∷ entries_text (d ∷ es)), entry_long e)

pub entries_back : (es : List Entry) → AllFit es → entries_at (entries_text es) ≡ Some es
unfolding entries_at entries_text
entries_back [] f = refl
entries_back (e ∷ es) f =
    let some : (length (entries_text (e ∷ es)) == 0) ≡ false = let long = entries_long e es in grind (arith, nat_tests) in
    some_text (entries_text (e ∷ es)) some ∙ rw (words_of e es f) (all_back (e ∷ es) f)

view_back : (es : List Entry) → AreEntries es → view_at (entries_text es) ≡ Some es
unfolding view_at
view_back es f = rw (entries_back es (fit_each es f.fit), f.rising, f.positive) refl

-- ---- an event

update_back : (e : Entry) → EntryFits e → 0 < e.number → update_at (entry_text e) ≡ Some e
unfolding update_at
update_back e f positive =
    let test : (e.number == 0) ≡ false = grind (arith, nat_tests) in
    rw (entry_back e f, test) refl

pub event_back : (x : Event) → EventFits x → HasNumber x → row_event (spelled x) ≡ Ok x
unfolding row_event event_of
event_back (BeginUpdate p e) f n = rw (number_some (2 ^ 16) p (decimal p) f.0 (omega arith) refl, update_back e f.1 n) refl
event_back (BeginView p) f n = rw (number_some (2 ^ 16) p (decimal p) f (omega arith) refl) refl
event_back (EndUpdate p) f n = rw (number_some (2 ^ 16) p (decimal p) f (omega arith) refl) refl
event_back (EndView p es) f n = rw (number_some (2 ^ 16) p (decimal p) f.0 (omega arith) refl, view_back es f.1) refl

-- ---- no other event

same_process : (p q : ℕ) → p < 2 ^ 16 → q < 2 ^ 16 → decimal p ≡ decimal q → p ≡ q
same_process p q fp fq h =
    let at_p = number_some (2 ^ 16) p (decimal p) fp (omega arith) refl in
    let at_q = number_some (2 ^ 16) q (decimal p) fq (omega arith) h in
    cc

same_entry : (e d : Entry) → EntryFits e → EntryFits d → entry_text e ≡ entry_text d → e ≡ d
same_entry e d fe fd h =
    let at_e = entry_back e fe in
    let at_d : entry_at (entry_text e) ≡ Some d = rw h (entry_back d fd) in
    cc

same_entries : (es ds : List Entry) → AreEntries es → AreEntries ds → entries_text es ≡ entries_text ds → es ≡ ds
same_entries es ds fe fd h =
    let at_e = entries_back es (fit_each es fe.fit) in
    let at_d : entries_at (entries_text es) ≡ Some ds = rw h (entries_back ds (fit_each ds fd.fit)) in
    cc

abbrev second : List (List ℕ) → List ℕ
second (a ∷ p ∷ rest) = p
second rest = []

abbrev fourth : List (List ℕ) → List ℕ
fourth (a ∷ p ∷ o ∷ d ∷ rest) = d
fourth rest = []

pub alone : (x y : Event) → EventFits x → EventFits y → spelled x ≡ spelled y → x ≡ y
alone (BeginUpdate p e) (BeginUpdate q d) fx fy h =
    let ps = same_process p q fx.0 fy.0 (ap second h) in
    let es = same_entry e d fx.1 fy.1 (ap fourth h) in
    rw (ps, es) refl
alone (BeginUpdate p e) (BeginView q) fx fy h = absurd (cc h)
alone (BeginUpdate p e) (EndUpdate q) fx fy h = absurd (cc h)
alone (BeginUpdate p e) (EndView q ds) fx fy h = absurd (cc h)
alone (BeginView p) (BeginUpdate q d) fx fy h = absurd (cc h)
alone (BeginView p) (BeginView q) fx fy h = rw (same_process p q fx fy (ap second h)) refl
alone (BeginView p) (EndUpdate q) fx fy h = absurd (cc h)
alone (BeginView p) (EndView q ds) fx fy h = absurd (cc h)
alone (EndUpdate p) (BeginUpdate q d) fx fy h = absurd (cc h)
alone (EndUpdate p) (BeginView q) fx fy h = absurd (cc h)
alone (EndUpdate p) (EndUpdate q) fx fy h = rw (same_process p q fx fy (ap second h)) refl
alone (EndUpdate p) (EndView q ds) fx fy h = absurd (cc h)
alone (EndView p es) (BeginUpdate q d) fx fy h = absurd (cc h)
alone (EndView p es) (BeginView q) fx fy h = absurd (cc h)
alone (EndView p es) (EndUpdate q) fx fy h = absurd (cc h)
alone (EndView p es) (EndView q ds) fx fy h =
    let ps = same_process p q fx.0 fy.0 (ap second h) in
    let same = same_entries es ds fx.1 fy.1 (ap fourth h) in
    rw (ps, same) refl
