-- Entries and their text, cut at a space.
use Rattle.std.proofs.Common.{◌≡◌, ◌<◌, ◌≤◌, ◌==◌, ◌+◌, ◌++◌, inl, inr, suc, get_or, drop-cons, ℕ, Bool, true, false, List, [], ◌∷◌, length, map, take, drop, append-nil, Option, Some, None, refl, sym, ap, ◌∙◌, subst, arith}
use Rattle.std.specs.Prelude.{count_by, option_and_then, option_map}
use Rattle.std.specs.List.{All}
use Rattle.std.specs.List.{join_with_byte, onto_first, starts_with}
use Rattle.std.proofs.Math.Seq.{drop-append_seam, take-add, take-append_seam}
use Rattle.std.proofs.lemmas.Bool.Decides.{Decides-eqb, nat_tests}
use Rattle.std.proofs.lemmas.List.{drop-map, length-append, length-drop, length-map, length-take, take-append-drop, take-map, take-take, take_all}
use Rattle.std.proofs.lemmas.Slice.Eq.{starts_is}
use Rattle.std.proofs.lemmas.List.Elements.{All-cons, All-drop, All-nil, All-take}
use Rattle.std.proofs.lemmas.List.Splits.{join_with_byte-slice_split, length-slice_split}
use Rattle.snap_core.specs.declared.entry.Entry.{Entry}
use Rattle.snap_core.specs.Entries.{EntryFits}
use Rattle.snap_text.specs.Fields.{all_of, entries_at, entry_at, parts}
use Rattle.snap_text.specs.inside.Fronts.{AddsFront, AreSpelled, EndsEntry, EntriesThen}
use Rattle.snap_text.specs.Spelling.{entries_text, entry_text}
use Rattle.snap_text.proofs.BackFacts.{fit_each, words_of}
use Rattle.snap_text.proofs.GrammarFacts.{entry_fits, view_is}
use Rattle.snap_text.proofs.GroupFacts.{some_read}
use Rattle.snap_text.proofs.PartFacts.{AreRead}

-- how many spaces a text has
abbrev pub spaces_in : List ℕ → ℕ
spaces_in text = count_by (λ b. b == 32) text

-- the parts of a text that goes on after a space
onto_more : (b : ℕ) (ps qs : List (List ℕ)) → 0 < length ps → onto_first b (ps ++ qs) ≡ onto_first b ps ++ qs
onto_more b [] qs some = absurd (omega arith)
onto_more b (p ∷ ps) qs some = refl

parts_behind : (f r : List ℕ) → parts 32 (f ++ 32 ∷ r) ≡ parts 32 f ++ parts 32 r
parts_behind [] r = refl
parts_behind (b ∷ f) r = go (b == 32) refl (parts_behind f r)
  where
    go : (space : Bool) → (b == 32) ≡ space → parts 32 (f ++ 32 ∷ r) ≡ parts 32 f ++ parts 32 r → parts 32 ((b ∷ f) ++ 32 ∷ r) ≡ parts 32 (b ∷ f) ++ parts 32 r
    go true e behind = rw (e, behind) refl
    go false e behind = rw (e, behind) (onto_more b (parts 32 f) (parts 32 r) (omega (arith, length-slice_split (λ b. b == 32) f)))

pub none_spelled : AreSpelled [] []
unfolding entries_text
none_spelled = record { fit = All-nil EntryFits; whole = refl }

-- the parts of a text are those of its entries
words : (es : List Entry) (text : List ℕ) → AreSpelled es text → 0 < length text → parts 32 text ≡ map entry_text es
unfolding entries_text
words [] text h some = absurd (omega (arith, ap length h.whole))
words (e ∷ es) text h some = rw h.whole (words_of e es (fit_each (e ∷ es) h.fit))

text_by : (es : List Entry) (text : List ℕ) → map entry_text es ≡ parts 32 text → text ≡ entries_text es
unfolding entries_text
text_by es text e = sym (join_with_byte-slice_split 32 text) ∙ ap (join_with_byte 32) (sym e)

-- entries, cut at a space of their text
pub record AreCut (es : List Entry) (front rest : List ℕ) : Type 0 where
  pub within : spaces_in front + 1 ≤ length es
  pub front_is : AreSpelled (take (spaces_in front + 1) es) front
  pub rest_is : AreSpelled (drop (spaces_in front + 1) es) rest

pub cut_spelled : (es : List Entry) (front rest : List ℕ) → AreSpelled es (front ++ 32 ∷ rest) → AreCut es front rest
cut_spelled es front rest h =
    let n = spaces_in front + 1 in
    let long = length-slice_split (λ b. b == 32) front in
    let all : map entry_text es ≡ parts 32 front ++ parts 32 rest = sym (words es (front ++ 32 ∷ rest) h (omega (arith, length-append front (32 ∷ rest)))) ∙ parts_behind front rest in
    let first : map entry_text (take n es) ≡ parts 32 front = sym (take-map entry_text n es) ∙ ap (take n) all ∙ ap (λ (k : ℕ). take k (parts 32 front ++ parts 32 rest)) (sym long) ∙ take-append_seam (parts 32 front) (parts 32 rest) in
    let second : map entry_text (drop n es) ≡ parts 32 rest = sym (drop-map entry_text n es) ∙ ap (drop n) all ∙ ap (λ (k : ℕ). drop k (parts 32 front ++ parts 32 rest)) (sym long) ∙ drop-append_seam (parts 32 front) (parts 32 rest) in
    record {
      within = omega (arith, ap length all, length-map es entry_text, length-append (parts 32 front) (parts 32 rest), long);
      front_is = record { fit = All-take EntryFits n es h.fit; whole = text_by (take n es) front first };
      rest_is = record { fit = All-drop EntryFits n es h.fit; whole = text_by (drop n es) rest second };
    }

pub count_spelled : (es : List Entry) (text : List ℕ) → AreSpelled es text → 0 < length text → spaces_in text + 1 ≡ length es
count_spelled es text h some = omega (arith, ap length (words es text h some), length-map es entry_text, length-slice_split (λ b. b == 32) text)

pub spelled_then : (es : List Entry) (front rest text : List ℕ) → AreSpelled es front → 0 < length es → text ≡ front ++ rest → EndsEntry rest → EntriesThen es rest text
spelled_then es front rest text h some cut ends = record { some = some; fit = h.fit; whole = cut ∙ ap (λ (t : List ℕ). t ++ rest) h.whole; ends = ends }

-- entries that were read are spelled by their text
all_fit : (ps : List (List ℕ)) (es : List Entry) → all_of (map entry_at ps) ≡ Some es → All EntryFits es
all_fit [] es h = let e : ◌≡◌ {A = List Entry} [] es = cc in subst (All EntryFits) e (All-nil EntryFits)
all_fit (p ∷ ps) es h = go (entry_at p) refl (all_of (map entry_at ps)) (λ xs f. all_fit ps xs f) h
  where
    go : (o : Option Entry) → entry_at p ≡ o → (os : Option (List Entry)) → ((xs : List Entry) → os ≡ Some xs → All EntryFits xs) → option_and_then (λ e. option_map (λ es. e ∷ es) os) o ≡ Some es → All EntryFits es
    go None e os f h = absurd cc
    go (Some x) e None f h = absurd cc
    go (Some x) e (Some xs) f h =
        let is : x ∷ xs ≡ es = cc in
        subst (All EntryFits) is (All-cons EntryFits x xs (entry_fits p x e) (f xs refl))

all_read : (text : List ℕ) (es : List Entry) → entries_at text ≡ Some es → All EntryFits es
unfolding entries_at
all_read [] es h = let e : ◌≡◌ {A = List Entry} [] es = cc in subst (All EntryFits) e (All-nil EntryFits)
all_read (b ∷ bs) es h =
    let some : (length (b ∷ bs) == 0) ≡ false = grind (arith, nat_tests) in
    all_fit (parts 32 (b ∷ bs)) es (rw some at h)

pub read_spelled : (es : List Entry) (text : List ℕ) → entries_at text ≡ Some es → AreSpelled es text
read_spelled es text h = record { fit = all_read text es h; whole = view_is text es h }

-- texts that are alike some bytes further
pub same_more : (a b s p : List ℕ) (at step : ℕ) (r : Bool) → take at a ≡ take at b → at + step ≤ length b → s ≡ drop at a → p ≡ take step (drop at b)
    → r ≡ starts_with (λ a b. a == b) s p → r ≡ true → take (at + step) a ≡ take (at + step) b
same_more a b s p at step r same within is_s is_p value holds =
    let long : length p ≡ step = omega (arith, ap length is_p, length-take step (drop at b), length-drop at b) in
    let begun : s ≡ p ++ drop (length p) s = (starts_is Decides-eqb s p r value).0 holds in
    let piece : take step (drop at a) ≡ p = ap (take step) (sym is_s ∙ begun) ∙ ap (λ (k : ℕ). take k (p ++ drop (length p) s)) (sym long) ∙ take-append_seam p (drop (length p) s) in
    take-add at step a ∙ rw (same, piece, is_p) (sym (take-add at step b))

text_at : (text : List ℕ) (at : ℕ) → at < length text → get_or text at 0 ≡ 32 → text ≡ take at text ++ 32 ∷ drop (at + 1) text
text_at text at lt is =
    let behind : drop at text ≡ get_or text at 0 ∷ drop (suc at) text = drop-cons text at 0 lt in
    let next : suc at ≡ at + 1 = omega arith in
    sym (take-append-drop at text) ∙ ap (λ (t : List ℕ). take at text ++ t) (behind ∙ rw (is, next) refl)

pub cut_place : (es : List Entry) (text : List ℕ) (at : ℕ) → AreSpelled es text → at < length text → get_or text at 0 ≡ 32 → AreCut es (take at text) (drop (at + 1) text)
cut_place es text at h lt is = cut_spelled es (take at text) (drop (at + 1) text) (subst (AreSpelled es) (text_at text at lt is) h)

-- a text that is the front of the text of some entries, up to a space
pub record IsFront (es : List Entry) (text : List ℕ) : Type 0 where
  pub within : spaces_in text + 1 ≤ length es
  pub then : EntriesThen (take (spaces_in text + 1) es) [] text

spelled_alone : (es : List Entry) (text : List ℕ) → AreSpelled es text → 0 < length es → EntriesThen es [] text
spelled_alone es text h some = spelled_then es text [] text h some (sym (append-nil text)) tt

pub front_of : (es : List Entry) (left old : List ℕ) (same : ℕ) → AreSpelled es old → left ≡ take same old → same < length old → get_or old same 0 ≡ 32 → IsFront es left
front_of es left old same h all lt space =
    let cut : AreCut es left (drop (same + 1) old) = subst (λ (t : List ℕ). AreCut es t (drop (same + 1) old)) (sym all) (cut_place es old same h lt space) in
    record {
      within = cut.within;
      then = spelled_alone (take (spaces_in left + 1) es) left cut.front_is (omega (arith, cut.within, length-take (spaces_in left + 1) es));
    }

-- or all of it
pub all_of_known : (es : List Entry) (left old : List ℕ) (same : ℕ) → AreSpelled es old → 0 < length old → left ≡ take same old → same ≡ length old → EntriesThen es [] left
all_of_known es left old same h some all whole =
    let is : AreSpelled es left = subst (AreSpelled es) (sym (all ∙ take_all same old (omega arith))) h in
    spelled_alone es left is (omega (arith, count_spelled es old h some))

-- a text that begins with the front of another, cut at a space
pub front_added : (es : List Entry) (left old : List ℕ) (same at : ℕ) → AreSpelled es (take at old) → 0 < length es → take same left ≡ take same old → same ≤ length left → same ≤ length old
    → at < same → get_or left at 0 ≡ 32 → EntriesThen es (32 ∷ drop (at + 1) left) left
front_added es left old same at h some alike within fits lt space =
    let front : take at left ≡ take at old = sym (take-take at same left (omega arith)) ∙ ap (take at) alike ∙ take-take at same old (omega arith) in
    spelled_then es (take at left) (32 ∷ drop (at + 1) left) left (subst (AreSpelled es) (sym front) h) some (text_at left at (omega arith) space) refl

pub front_read : (old new : List Entry) (rest left text : List ℕ) → AddsFront old new rest left → AreRead old left text → AreRead new rest text
front_read old new rest left text (inl none) h = rw (none.0, none.1) h
front_read old new rest left text (inr (es, added, then)) h = rw added (some_read old es left text 32 rest h then)
