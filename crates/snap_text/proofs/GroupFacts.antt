-- Entries in a text, some at a time.
use Rattle.std.proofs.Common.{◌≡◌, ◌++◌, ℕ, List, [], ◌∷◌, map, append_assoc, Some, refl, sym, ap, ◌∙◌, subst, arith}
use Rattle.std.proofs.lemmas.List.Elements.{All-head, All-tail}
use Rattle.snap_core.specs.declared.entry.Entry.{Entry}
use Rattle.snap_core.specs.Entries.{EntryFits}
use Rattle.snap_text.specs.Fields.{all_of, entry_at, parts}
use Rattle.snap_text.specs.inside.Fronts.{EntriesThen, EntryThen}
use Rattle.snap_text.specs.Spelling.{entries_text, entry_text}
use Rattle.snap_text.proofs.PartFacts.{AreRead}
use Rattle.snap_text.proofs.ViewFacts.{last_read, one_read}

-- the first of some entries, and the others after it
first_then : (e d : Entry) (es : List Entry) (rest left : List ℕ) → EntriesThen (e ∷ d ∷ es) rest left → EntryThen e (32 ∷ (entries_text (d ∷ es) ++ rest)) left
unfolding entries_text
first_then e d es rest left h = record {
  fits = All-head EntryFits e (d ∷ es) h.fit;
  whole = h.whole ∙ append_assoc (entry_text e) (32 ∷ entries_text (d ∷ es)) rest;
  ends = refl;
}

only_then : (e : Entry) (rest left : List ℕ) → EntriesThen (e ∷ []) rest left → EntryThen e rest left
unfolding entries_text
only_then e rest left h = record { fits = All-head EntryFits e [] h.fit; whole = h.whole; ends = h.ends }

others_then : (e d : Entry) (es : List Entry) (rest left : List ℕ) → EntriesThen (e ∷ d ∷ es) rest left → EntriesThen (d ∷ es) rest (entries_text (d ∷ es) ++ rest)
others_then e d es rest left h = record { some = omega arith; fit = All-tail EntryFits e (d ∷ es) h.fit; whole = refl; ends = h.ends }

pub some_read : (entries es : List Entry) (left text : List ℕ) (b : ℕ) (next : List ℕ) → AreRead entries left text → EntriesThen es (b ∷ next) left → AreRead (entries ++ es) next text
some_read entries [] left text b next h then = absurd (omega (arith, then.some))
some_read entries (e ∷ []) left text b next h then = one_read entries left text e b next h (only_then e (b ∷ next) left then)
some_read entries (e ∷ d ∷ es) left text b next h then =
    let one = one_read entries left text e 32 (entries_text (d ∷ es) ++ b ∷ next) h (first_then e d es (b ∷ next) left then) in
    let others = some_read (entries ++ e ∷ []) (d ∷ es) (entries_text (d ∷ es) ++ b ∷ next) text b next one (others_then e d es (b ∷ next) left then) in
    subst (λ (t : List Entry). AreRead t next text) (append_assoc entries (e ∷ []) (d ∷ es)) others

pub rest_read : (entries es : List Entry) (left text : List ℕ) → AreRead entries left text → EntriesThen es [] left → Some (entries ++ es) ≡ all_of (map entry_at (parts 32 text))
rest_read entries [] left text h then = absurd (omega (arith, then.some))
rest_read entries (e ∷ []) left text h then = last_read entries left text e h (only_then e [] left then)
rest_read entries (e ∷ d ∷ es) left text h then =
    let one = one_read entries left text e 32 (entries_text (d ∷ es) ++ []) h (first_then e d es [] left then) in
    let others = rest_read (entries ++ e ∷ []) (d ∷ es) (entries_text (d ∷ es) ++ []) text one (others_then e d es [] left then) in
    ap (λ (t : List Entry). Some t) (sym (append_assoc entries (e ∷ []) (d ∷ es))) ∙ others
