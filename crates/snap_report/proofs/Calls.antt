-- The words of a call, by what the index says of it.
use Rattle.std.proofs.Common.{◌≡◌, ◌<◌, ◌++◌, [], ◌∷◌, ◌⊎◌, List, ℕ, true, codes, length, map, refl, sym, ap, ◌∙◌, inl, inr, Some, append_assoc}
use Rattle.std.specs.Prelude.{slice_get}
use Rattle.std.specs.List.{flat_map, join_by}
use Rattle.std.specs.Option.{option_map}
use Rattle.std.proofs.lemmas.List.{append-nil}
use Rattle.std.proofs.lemmas.List.Folds.{flat_map-map}
use Rattle.snap_core.specs.declared.entry.Entry.{Entry}
use Rattle.snap_core.specs.declared.event.Event.{Event}
use Rattle.snap_core.specs.Calls.{Call, Operation, Updates, Views, call_numbered, calls_of, entries_of, is_view}
use Rattle.snap_core.specs.Orders.{is_update}
use Rattle.snap_index.specs.declared.call.CallOp.TheVariants.{Update, View}
use Rattle.snap_index.specs.declared.call.Call.{Call as IndexedCall}
use Rattle.snap_index.specs.IndexedCalls.{as_indexed, indexed_op}
use Rattle.snap_index.proofs.Known.{indexed_within}
use Rattle.snap_report.specs.Lines.{Word, call_word, entry_word, line_text, process_word}
use Rattle.snap_report.specs.Reports.{call_line, operation_words}

no_update : (o : Operation) (c : Call) → c.operation ≡ o → View ≡ indexed_op o → is_update c ≡ true → ⊥
unfolding is_update
no_update (Updates d) c e h u = absurd (cc)
no_update (Views answer) c e h u = let f = rw e at u in absurd (cc)

pub views_then : (c : Call) → View ≡ indexed_op c.operation → (is_update c ≡ true) ⊎ (is_view c ≡ true) → is_view c ≡ true
views_then c h (inl u) = absurd (no_update c.operation c refl h u)
views_then c h (inr v) = v

-- what the index answers of a call
pub op_is : (es : List Event) (n : ℕ) (b : IndexedCall) → n < length (calls_of es) → Some b ≡ option_map as_indexed (slice_get (calls_of es) n) → b ≡ as_indexed (call_numbered (calls_of es) n)
op_is es n b l h = let w = indexed_within (calls_of es) n l in cc

-- the line of an update, and that of a view, put together from their words
line_of_words : {A : Type 0} (space end out a b : List A) (words : List (List A)) →
    out ++ a ++ space ++ b ++ flat_map (λ word. space ++ word) words ++ end ≡ out ++ (join_by (λ word. word) space (a ∷ b ∷ words) ++ end)
line_of_words space end out a b words = simp append_assoc

two_words : {A : Type 0} (space end out a b : List A) → out ++ (space ++ a ++ space) ++ b ++ end ≡ out ++ flat_map (λ word. space ++ word) (a ∷ b ∷ []) ++ end
two_words space end out a b = simp (append_assoc, append-nil)

more_words : {A : Type 0} (space end out a : List A) (words : List (List A)) →
    out ++ (space ++ a) ++ flat_map (λ word. space ++ word) words ++ end ≡ out ++ flat_map (λ word. space ++ word) (a ∷ words) ++ end
more_words space end out a words = simp append_assoc

update_words : (out : List ℕ) (a b : Word) (o : Operation) (e : Entry) → Update e ≡ indexed_op o →
    out ++ a ++ codes " " ++ b ++ codes " update " ++ entry_word e ++ codes "\n" ≡ out ++ line_text (a ∷ b ∷ operation_words o)
update_words out a b (Updates d) e h =
    let same : e ≡ d = cc in
    rw same (two_words (codes " ") (codes "\n") (out ++ a ++ codes " " ++ b) (codes "update") (entry_word d)
    ∙ line_of_words (codes " ") (codes "\n") out a b (operation_words (Updates d)))
update_words out a b (Views answer) e h = absurd (cc)

view_words : (out : List ℕ) (a b : Word) (o : Operation) → View ≡ indexed_op o →
    out ++ a ++ codes " " ++ b ++ codes " view" ++ flat_map (λ entry. codes " " ++ entry_word entry) (entries_of o) ++ codes "\n"
    ≡ out ++ line_text (a ∷ b ∷ operation_words o)
view_words out a b (Updates d) h = absurd (cc)
view_words out a b (Views answer) h =
    let entries = entries_of (Views answer) in
    ap (λ words. out ++ a ++ codes " " ++ b ++ codes " view" ++ words ++ codes "\n") (sym (flat_map-map (λ word. codes " " ++ word) entry_word entries))
    ∙ more_words (codes " ") (codes "\n") (out ++ a ++ codes " " ++ b) (codes "view") (map entry_word entries)
    ∙ line_of_words (codes " ") (codes "\n") out a b (operation_words (Views answer))

pub line_of_update : (out : List ℕ) (c : Call) (n process : ℕ) (e : Entry) → c.number ≡ n → process ≡ c.process → Update e ≡ indexed_op c.operation →
    out ++ call_word n ++ codes " " ++ process_word process ++ codes " update " ++ entry_word e ++ codes "\n" ≡ out ++ line_text (call_line c)
line_of_update out c n process e f g h = rw (g, ← f) (update_words out (call_word c.number) (process_word c.process) c.operation e h)

pub line_of_view : (out : List ℕ) (c : Call) (n process : ℕ) (entries : List Entry) → c.number ≡ n → process ≡ c.process → View ≡ indexed_op c.operation →
    entries ≡ entries_of c.operation →
    out ++ call_word n ++ codes " " ++ process_word process ++ codes " view" ++ flat_map (λ entry. codes " " ++ entry_word entry) entries ++ codes "\n"
    ≡ out ++ line_text (call_line c)
line_of_view out c n process entries f g h e = rw (e, g, ← f) (view_words out (call_word c.number) (process_word c.process) c.operation h)
