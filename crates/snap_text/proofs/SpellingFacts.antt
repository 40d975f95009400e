-- The entries of a view, one after the other.
use Rattle.std.proofs.Common.{◌≡◌, ◌<◌, ◌==◌, ◌+◌, ◌++◌, ℕ, false, List, [], ◌∷◌, length, get_or, take, refl, arith, ◌∙◌, sym, ap, add-one, append_assoc}
use Rattle.std.proofs.lemmas.Bool.Decides.{nat_tests}
use Rattle.std.proofs.Math.Seq.{take-suc}
use Rattle.snap_core.specs.declared.entry.Entry.{Entry}
use Rattle.snap_text.specs.Spelling.{entries_text, entry_text, with_next}
use Rattle.snap_text.proofs.BackFacts.{entries_long}

pub text_tail : (d : Entry) (es : List Entry) (e : Entry) → entries_text (d ∷ (es ++ e ∷ [])) ≡ entries_text (d ∷ es) ++ 32 ∷ entry_text e
unfolding entries_text
text_tail d [] e = refl
text_tail d (f ∷ es) e =
    ap (λ (t : List ℕ). entry_text d ++ 32 ∷ t) (text_tail f es e) ∙ sym (append_assoc (entry_text d) (32 ∷ entries_text (f ∷ es)) (32 ∷ entry_text e))

text_more : (es : List Entry) (e : Entry) → entries_text (es ++ e ∷ []) ≡ with_next (length (entries_text es) == 0) (entries_text es) e
unfolding entries_text
text_more [] e = refl
text_more (d ∷ es) e =
    let long = entries_long d es in
    let test : (length (entries_text (d ∷ es)) == 0) ≡ false = grind (arith, nat_tests) in
    rw test (text_tail d es e)

pub next_entry : (es : List Entry) (i : ℕ) (d : Entry) (text : List ℕ) → i < length es → text ≡ entries_text (take i es)
    → with_next (length text == 0) text (get_or es i d) ≡ entries_text (take (i + 1) es)
next_entry es i d text lt is = rw (is, add-one, take-suc es i d lt) (sym (text_more (take i es) (get_or es i d)))
