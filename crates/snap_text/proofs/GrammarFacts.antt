-- What a record's fields are where they spell an event.
use Rattle.std.proofs.Common.{◌≡◌, ◌^◌, ◌==◌, cond, ℕ, Bool, true, false, List, [], ◌∷◌, length, map, Option, Some, None, Result, Ok, Err, refl, arith, ◌∙◌, sym, ap, subst}
use Rattle.std.specs.Prelude.{codes, decimal, is_none, option_and_then, option_map}
use Rattle.std.specs.Str.{bytes_eq}
use Rattle.std.proofs.lemmas.Slice.Eq.{bytes_eq-Decides}
use Rattle.std.specs.List.{join_with_byte}
use Rattle.std.proofs.lemmas.Bool.Decides.{nat_tests}
use Rattle.std.proofs.lemmas.List.Splits.{join_with_byte-slice_split}
use Rattle.snap_core.specs.declared.entry.Entry.{Entry}
use Rattle.snap_core.specs.declared.event.Event.{Event}
use Rattle.snap_core.specs.declared.event.Event.TheVariants.{BeginUpdate, BeginView, EndUpdate, EndView}
use Rattle.snap_core.specs.Entries.{EntryFits, view_refusal}
use Rattle.snap_text.specs.declared.fault.TextFault.{TextFault}
use Rattle.snap_text.specs.declared.fault.TextFault.TheVariants as faults
use Rattle.snap_text.specs.Fields.{◌>>=◌, Fields, all_of, begins_at, empty_at, entries_at, entry_at, entry_from, event_of, event_with, number_at, numbered, or_fault, parts, row_event, three, update_at, updates_at, view_at, viewed}
use Rattle.snap_text.specs.Spelling.{entries_text, entry_text, spelled}
use Rattle.snap_text.proofs.NumberFacts.{number_is}

and_then_some : {A B : Type 0} (f : A → Option B) (o : Option A) (y : B) → option_and_then f o ≡ Some y → (x : A) × (o ≡ Some x) × (f x ≡ Some y)
and_then_some f None y e = absurd cc
and_then_some f (Some x) y e = (x, refl, e)

map_some : {A B : Type 0} (f : A → B) (o : Option A) (y : B) → option_map f o ≡ Some y → (x : A) × (o ≡ Some x) × (f x ≡ y)
map_some f None y e = absurd cc
map_some f (Some x) y e = (x, refl, cc)

three_is : (ps : List (List ℕ)) (k n v : List ℕ) → three ps ≡ Some (k, n, v) → ps ≡ k ∷ n ∷ v ∷ []
three_is [] k n v e = absurd cc
three_is (a ∷ []) k n v e = absurd cc
three_is (a ∷ b ∷ []) k n v e = absurd cc
three_is (a ∷ b ∷ c ∷ []) k n v e =
    let same : ◌≡◌ {A = List ℕ × List ℕ × List ℕ} (a, b, c) (k, n, v) = cc in
    ap (λ (t : List ℕ × List ℕ × List ℕ). t.0 ∷ t.1 ∷ t.2 ∷ []) same
three_is (a ∷ b ∷ c ∷ d ∷ more) k n v e = absurd cc

parts_join : (mark : ℕ) (text : List ℕ) (ps : List (List ℕ)) → parts mark text ≡ ps → text ≡ join_with_byte mark ps
parts_join mark text ps e = sym (join_with_byte-slice_split mark text) ∙ ap (join_with_byte mark) e

pub entry_is : (text : List ℕ) (e : Entry) → entry_at text ≡ Some e → text ≡ entry_text e
unfolding entry_at
entry_is text e h =
    let (p, cut, made) = and_then_some entry_from (three (parts 58 text)) e h in
    whole p.0 p.1 p.2 cut made
  where
    whole : (k n v : List ℕ) → three (parts 58 text) ≡ Some (k, n, v) → entry_from (k, n, v) ≡ Some e → text ≡ entry_text e
    whole k n v cut made =
        let (component, ek, hk) = and_then_some (λ component. option_and_then (λ number. option_map (λ value. record { component = component; number = number; value = value }) (number_at (2 ^ 32) v)) (number_at (2 ^ 32) n)) (number_at (2 ^ 8) k) e made in
        let (number, en, hn) = and_then_some (λ number. option_map (λ value. record { component = component; number = number; value = value }) (number_at (2 ^ 32) v)) (number_at (2 ^ 32) n) e hk in
        let (value, ev, hv) = map_some (λ value. record { component = component; number = number; value = value }) (number_at (2 ^ 32) v) e hn in
        let is_k = (number_is (2 ^ 8) component k ek).1 in
        let is_n = (number_is (2 ^ 32) number n en).1 in
        let is_v = (number_is (2 ^ 32) value v ev).1 in
        parts_join 58 text (k ∷ n ∷ v ∷ []) (three_is (parts 58 text) k n v cut) ∙
        ap (λ (z : List ℕ). join_with_byte 58 (z ∷ n ∷ v ∷ [])) is_k ∙ ap (λ (z : List ℕ). join_with_byte 58 (decimal component ∷ z ∷ v ∷ [])) is_n
        ∙ ap (λ (z : List ℕ). join_with_byte 58 (decimal component ∷ decimal number ∷ z ∷ [])) is_v ∙ ap entry_text hv

-- and its numbers are in range
pub entry_fits : (text : List ℕ) (e : Entry) → entry_at text ≡ Some e → EntryFits e
unfolding entry_at
entry_fits text e h =
    let (p, cut, made) = and_then_some entry_from (three (parts 58 text)) e h in
    fit p.0 p.1 p.2 made
  where
    fit : (k n v : List ℕ) → entry_from (k, n, v) ≡ Some e → EntryFits e
    fit k n v made =
        let (component, ek, hk) = and_then_some (λ component. option_and_then (λ number. option_map (λ value. record { component = component; number = number; value = value }) (number_at (2 ^ 32) v)) (number_at (2 ^ 32) n)) (number_at (2 ^ 8) k) e made in
        let (number, en, hn) = and_then_some (λ number. option_map (λ value. record { component = component; number = number; value = value }) (number_at (2 ^ 32) v)) (number_at (2 ^ 32) n) e hk in
        let (value, ev, hv) = map_some (λ value. record { component = component; number = number; value = value }) (number_at (2 ^ 32) v) e hn in
        subst (λ (d : Entry). EntryFits d) hv ((number_is (2 ^ 8) component k ek).0, (number_is (2 ^ 32) number n en).0, (number_is (2 ^ 32) value v ev).0)

entries_are : (ps : List (List ℕ)) (es : List Entry) → all_of (map entry_at ps) ≡ Some es → ps ≡ map entry_text es
entries_are [] es h = let e : ◌≡◌ {A = List Entry} [] es = cc in ap (λ (z : List Entry). map entry_text z) e
entries_are (p ∷ ps) es h =
    let (e, is, rest) = and_then_some (λ e. option_map (λ es. e ∷ es) (all_of (map entry_at ps))) (entry_at p) es h in
    let (more, there, made) = map_some (λ es. e ∷ es) (all_of (map entry_at ps)) es rest in
    ap (λ (z : List ℕ). z ∷ ps) (entry_is p e is) ∙ ap (λ (z : List (List ℕ)). entry_text e ∷ z) (entries_are ps more there) ∙ ap (λ (z : List Entry). map entry_text z) made

pub view_is : (text : List ℕ) (es : List Entry) → entries_at text ≡ Some es → text ≡ entries_text es
unfolding entries_at entries_text
view_is [] es h = let e : ◌≡◌ {A = List Entry} [] es = cc in ap (λ (z : List Entry). join_with_byte 32 (map entry_text z)) e
view_is (b ∷ bs) es h =
    let some : (length (b ∷ bs) == 0) ≡ false = grind (arith, nat_tests) in
    parts_join 32 (b ∷ bs) (map entry_text es) (entries_are (parts 32 (b ∷ bs)) es (rw some at h))

-- ---- an event

pub bind_ok : {A B : Type 0} (r : Result A TextFault) (f : A → Result B TextFault) (y : B) → (r >>= f) ≡ Ok y → (x : A) × (r ≡ Ok x) × (f x ≡ Ok y)
bind_ok (Ok x) f y e = (x, refl, e)
bind_ok (Err g) f y e = absurd cc

pub some_or : {A : Type 0} (g : TextFault) (o : Option A) (x : A) → or_fault g o ≡ Ok x → o ≡ Some x
some_or g None x e = absurd cc
some_or g (Some z) x e = cc

abbrev begin_word : Bool → List ℕ
begin_word true = codes "begin"
begin_word false = codes "end"

abbrev update_word : Bool → List ℕ
update_word true = codes "update"
update_word false = codes "view"

begin_is : (a : List ℕ) (b : Bool) → begins_at a ≡ Ok b → a ≡ begin_word b
begin_is a b h = go (bytes_eq a (codes "begin")) refl (bytes_eq a (codes "end")) refl h
  where
    go : (s : Bool) → bytes_eq a (codes "begin") ≡ s → (t : Bool) → bytes_eq a (codes "end") ≡ t → cond s (Ok true) (cond t (Ok false) (Err faults.BadEvent)) ≡ Ok b → a ≡ begin_word b
    go true es t et h = let is : true ≡ b = cc in (bytes_eq-Decides a (codes "begin")).0 es ∙ ap begin_word is
    go false es true et h = let is : false ≡ b = cc in (bytes_eq-Decides a (codes "end")).0 et ∙ ap begin_word is
    go false es false et h = absurd cc

update_is : (o : List ℕ) (b : Bool) → updates_at o ≡ Ok b → o ≡ update_word b
update_is o b h = go (bytes_eq o (codes "update")) refl (bytes_eq o (codes "view")) refl h
  where
    go : (s : Bool) → bytes_eq o (codes "update") ≡ s → (t : Bool) → bytes_eq o (codes "view") ≡ t → cond s (Ok true) (cond t (Ok false) (Err faults.BadOp)) ≡ Ok b → o ≡ update_word b
    go true es t et h = let is : true ≡ b = cc in (bytes_eq-Decides o (codes "update")).0 es ∙ ap update_word is
    go false es true et h = let is : false ≡ b = cc in (bytes_eq-Decides o (codes "view")).0 et ∙ ap update_word is
    go false es false et h = absurd cc

kept_update : (e d : Entry) → numbered e ≡ Some d → e ≡ d
kept_update e d h = go (e.number == 0) h
  where
    go : (b : Bool) → cond b None (Some e) ≡ Some d → e ≡ d
    go true h = absurd cc
    go false h = cc

kept_view : (es ds : List Entry) → viewed es ≡ Some ds → es ≡ ds
kept_view es ds h = go (is_none (view_refusal es)) h
  where
    go : (b : Bool) → cond b (Some es) None ≡ Some ds → es ≡ ds
    go true h = cc
    go false h = absurd cc

update_text : (d : List ℕ) (e : Entry) → update_at d ≡ Some e → d ≡ entry_text e
unfolding update_at
update_text d e h =
    let (x, is, kept) = and_then_some numbered (entry_at d) e h in
    entry_is d x is ∙ ap entry_text (kept_update x e kept)

view_text : (d : List ℕ) (es : List Entry) → view_at d ≡ Some es → d ≡ entries_text es
unfolding view_at
view_text d es h =
    let (xs, is, kept) = and_then_some viewed (entries_at d) es h in
    view_is d xs is ∙ ap entries_text (kept_view xs es kept)

empty_is : (x y : Event) (d : List ℕ) → empty_at x d ≡ Ok y → (d ≡ []) × (x ≡ y)
empty_is x y [] h = (refl, cc)
empty_is x y (b ∷ bs) h = let some : (length (b ∷ bs) == 0) ≡ false = grind (arith, nat_tests) in absurd (let bad = rw some at h in cc)

data_is : (b : Bool) (p : ℕ) (u : Bool) (d : List ℕ) (x : Event) → event_with b p u d ≡ Ok x → begin_word b ∷ decimal p ∷ update_word u ∷ d ∷ [] ≡ spelled x
data_is true p true d x h =
    let (e, is, made) = map_some (λ e. BeginUpdate p e) (update_at d) x (some_or faults.BadData (option_map (λ e. BeginUpdate p e) (update_at d)) x h) in
    rw (update_text d e is) (ap spelled made)
data_is true p false d x h = let (none, is) = empty_is (BeginView p) x d h in rw none (ap spelled is)
data_is false p true d x h = let (none, is) = empty_is (EndUpdate p) x d h in rw none (ap spelled is)
data_is false p false d x h =
    let (es, is, made) = map_some (λ es. EndView p es) (view_at d) x (some_or faults.BadData (option_map (λ es. EndView p es) (view_at d)) x h) in
    rw (view_text d es is) (ap spelled made)

fields_are : (a p o d : List ℕ) (x : Event) → event_of a p o d ≡ Ok x → a ∷ p ∷ o ∷ d ∷ [] ≡ spelled x
unfolding event_of
fields_are a p o d x h =
    let (b, eb, hb) = bind_ok (begins_at a) (λ begins. or_fault faults.BadProcess (number_at (2 ^ 16) p) >>= (λ process. updates_at o >>= (λ updates. event_with begins process updates d))) x h in
    let (n, en, hn) = bind_ok (or_fault faults.BadProcess (number_at (2 ^ 16) p)) (λ process. updates_at o >>= (λ updates. event_with b process updates d)) x hb in
    let (u, eu, hu) = bind_ok (updates_at o) (λ updates. event_with b n updates d) x hn in
    let is_p = (number_is (2 ^ 16) n p (some_or faults.BadProcess (number_at (2 ^ 16) p) n en)).1 in
    ap (λ (z : List ℕ). z ∷ p ∷ o ∷ d ∷ []) (begin_is a b eb) ∙ ap (λ (z : List ℕ). begin_word b ∷ z ∷ o ∷ d ∷ []) is_p
    ∙ ap (λ (z : List ℕ). begin_word b ∷ decimal n ∷ z ∷ d ∷ []) (update_is o u eu) ∙ data_is b n u d x hu

pub record_is : (r : Fields) (x : Event) → row_event r ≡ Ok x → r ≡ spelled x
unfolding row_event
record_is [] x h = absurd cc
record_is (a ∷ []) x h = absurd cc
record_is (a ∷ p ∷ []) x h = absurd cc
record_is (a ∷ p ∷ o ∷ []) x h = absurd cc
record_is (a ∷ p ∷ o ∷ d ∷ []) x h = fields_are a p o d x h
record_is (a ∷ p ∷ o ∷ d ∷ e ∷ rest) x h = absurd cc
