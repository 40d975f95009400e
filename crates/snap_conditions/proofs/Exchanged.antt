-- The entries of one view exchanged for those of another, from the front on.
use Rattle.std.proofs.Common.{◌≡◌, ◌≢◌, ℕ, ◌+◌, ◌<◌, List, ◌∷◌, [], ◌++◌, length, get_or, take, drop, Some, refl, sym, ap, ◌∙◌, arith}
use Rattle.std.specs.Prelude.{◌==◌}
use Rattle.std.specs.List.{All}
use Rattle.std.specs.Option.{option_or}
use Rattle.std.proofs.Math.Seq.{take-add}
use Rattle.std.proofs.lemmas.List.{take-append-drop, drop-drop, take_more, drop_more, append_assoc}
use Rattle.std.proofs.lemmas.List.Elements.{All-nil, All-cons, All-head, All-tail, All-rest, All-append, All-more}
use Rattle.std.proofs.lemmas.List.Folds.{find-append}
use Rattle.snap_core.specs.declared.entry.Entry.{Entry}
use Rattle.snap_core.specs.Entries.{AreEntries, entry_of, number_in}
use Rattle.snap_core.proofs.Rising.{entry_at}
use Rattle.snap_theory.proofs.Entries.{listed_first, listed_behind}
use Rattle.snap_views.specs.Rows.{number_among}

-- the first i entries of one list, and after them those of another
abbrev pub exchanged : (old new : List Entry) (i : ℕ) → List Entry
exchanged old new i = take i new ++ drop i old

-- a piece that is the same in both

pub same_piece : (old new : List Entry) (i n : ℕ) → take n (drop i old) ≡ take n (drop i new) → exchanged old new (i + n) ≡ exchanged old new i
same_piece old new i n same =
    ap (λ es. es ++ drop (i + n) old) (take-add i n new)
    ∙ append_assoc (take i new) (take n (drop i new)) (drop (i + n) old)
    ∙ ap (λ es. take i new ++ es) (ap (λ es. es ++ drop (i + n) old) (sym same) ∙ ap (λ es. take n (drop i old) ++ es) (sym (drop-drop n i old)) ∙ take-append-drop n (drop i old))

-- what holds of each entry

front : (P : Entry → Type 0) (xs ys : List Entry) → All P (xs ++ ys) → All P xs
front P [] ys h = All-nil P
front P (x ∷ xs) ys h = All-cons P x xs (All-head P x (xs ++ ys) h) (front P xs ys (All-tail P x (xs ++ ys) h))

behind : (P : Entry → Type 0) (xs ys : List Entry) → All P (xs ++ ys) → All P ys
behind P [] ys h = h
behind P (x ∷ xs) ys h = behind P xs ys (All-tail P x (xs ++ ys) h)

pub each_exchanged : (P : Entry → Type 0) (old new : List Entry) (i : ℕ) (x : Entry) → i < length new → length old ≡ length new → All P (exchanged old new i) → P (get_or new i x) → All P (exchanged old new (i + 1))
each_exchanged P old new i x l long all here =
    let kept = All-rest P (get_or old i x) (drop (i + 1) old) (drop i old) (drop_more old i x (omega arith)) (behind P (take i new) (drop i old) all) in
    All-append P (take (i + 1) new) (drop (i + 1) old) (All-more P new i x l (front P (take i new) (drop i old) all) here) kept

-- one entry exchanged for one of the same component

one_more : (old new : List Entry) (i : ℕ) (x : Entry) → i < length new → exchanged old new (i + 1) ≡ take i new ++ get_or new i x ∷ drop (i + 1) old
one_more old new i x l = ap (λ es. es ++ drop (i + 1) old) (take_more new i x l) ∙ append_assoc (take i new) (get_or new i x ∷ []) (drop (i + 1) old)

pub exchanged_number : (old new : List Entry) (i : ℕ) (x : Entry) → AreEntries new → i < length new → number_among (exchanged old new (i + 1)) (get_or new i x).component ≡ (get_or new i x).number
exchanged_number old new i x h l =
    let e = get_or new i x in
    let first : (es : List Entry) → entry_of e.component (take i new ++ e ∷ es) ≡ option_or (entry_of e.component (take i new)) (Some e) =
    λ es. find-append (λ (d : Entry). d.component == e.component) (take i new) (e ∷ es) ∙ ap (option_or (entry_of e.component (take i new))) (listed_first e es) in
    ap (λ es. number_among es e.component) (one_more old new i x l)
    ∙ ap number_in (first (drop (i + 1) old) ∙ sym (first (drop (i + 1) new)) ∙ ap (λ es. entry_of e.component (take i new ++ es)) (sym (drop_more new i x l)) ∙ ap (entry_of e.component) (take-append-drop i new) ∙ entry_at new i x e.component h.rising l refl)

pub other_number : (old new : List Entry) (i j : ℕ) (x : Entry) → i < length new → length old ≡ length new → (get_or old i x).component ≡ (get_or new i x).component → j ≢ (get_or new i x).component →
    number_among (exchanged old new (i + 1)) j ≡ number_among (exchanged old new i) j
other_number old new i j x l long same other =
    ap (λ es. number_among es j) (one_more old new i x l) ∙ ap number_in (past new (λ q. other (sym q)) ∙ sym (past old (λ q. other (sym q ∙ same)))) ∙ ap (λ es. number_among (take i new ++ es) j) (sym (drop_more old i x (omega arith)))
  where
    past : (es : List Entry) → (get_or es i x).component ≢ j → entry_of j (take i new ++ get_or es i x ∷ drop (i + 1) old) ≡ option_or (entry_of j (take i new)) (entry_of j (drop (i + 1) old))
    past es h = find-append (λ (d : Entry). d.component == j) (take i new) (get_or es i x ∷ drop (i + 1) old) ∙ ap (option_or (entry_of j (take i new))) (listed_behind j (get_or es i x) (drop (i + 1) old) h)
