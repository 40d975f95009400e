-- A list that is cut at its ends.
use Rattle.std.proofs.Common.{◌≡◌, ◌<◌, ◌≤◌, ◌+◌, ◌==◌, ◌++◌, ◌∙◌, ℕ, true, false, All, List, [], ◌∷◌, Option, Some, None, Result, Ok, Err, append-nil, append_assoc, ap, subst, sym, refl, arith, drop, get_or, inl, inr, length, take, add-one, drop-cons}
use Rattle.std.specs.Prelude.{◌≢◌, IfSome, option_map, slice_index}
use Rattle.std.specs.Global.{Vec}
use Rattle.std.proofs.lemmas.Bool.Decides.{nat_tests}
use Rattle.std.proofs.lemmas.List.{get_or-take, length-take, take-append-drop, take_all}
use Rattle.std.proofs.lemmas.List.Concat.{flat_map-append}
use Rattle.std.proofs.lemmas.List.Elements.{All-from_get_or, All-push}
use Rattle.memchr.specs.Find.{IsFirstByte, is_byte}
use Rattle.snap_names.specs.declared.fault.NamesFault.{NamesFault}
use Rattle.snap_names.specs.declared.fault.NamesFault.TheVariants.{Unread, TooLong, Empty, TooManyFolders, Memory}
use Rattle.snap_names.specs.declared.list.TheConstants.{LIST_LIMIT}
use Rattle.snap_names.specs.Lists.{AnswersList, AreNamesOf, CutsList, IsName, ended}

-- a byte that is not found to be an end is none
no_end : (end : ℕ) (text : List ℕ) (i : ℕ) → ((is_byte end (slice_index text i) ≡ true) → ⊥) → get_or text i 0 ≢ end
no_end end text i h = λ is. h (rw is (grind (arith, nat_tests)))

-- the bytes before the first end, and those of a text without any
pub front_has_no_end : (end k : ℕ) (text : List ℕ) → IsFirstByte (is_byte end) text (Some k) → All (λ b. b ≢ end) (take k text)
front_has_no_end end k text found =
    All-from_get_or (λ b. b ≢ end) (take k text) 0 (λ i lt.
    let below : i < k = omega (arith, length-take {A = ℕ}) in
    rw (get_or-take k text i 0 below) (no_end end text i (found.0.before i (omega arith) below)))

pub text_has_no_end : (end : ℕ) (text : List ℕ) → IsFirstByte (is_byte end) text None → All (λ b. b ≢ end) text
text_has_no_end end text found = All-from_get_or (λ b. b ≢ end) text 0 (λ i lt. no_end end text i (found i (omega arith) lt))

-- the byte that is found is an end
pub cut_at : (end k : ℕ) (text : List ℕ) → IsFirstByte (is_byte end) text (Some k) → text ≡ take k text ++ end ∷ drop (k + 1) text
cut_at end k text found =
    let here : get_or text k 0 ≡ end = grind (arith, nat_tests, found.1) in
    let behind : drop k text ≡ end ∷ drop (k + 1) text = rw (add-one, ← here) (drop-cons text k 0 found.0.high) in
    sym (take-append-drop k text) ∙ ap (λ rest. take k text ++ rest) behind

-- one name more, with its end
pub ended_more : (end : ℕ) (names : List (List ℕ)) (name : List ℕ) → ended end (names ++ name ∷ []) ≡ ended end names ++ (name ++ end ∷ [])
ended_more end names name = flat_map-append (λ n. n ++ end ∷ []) names (name ∷ []) ∙ ap (λ t. ended end names ++ t) (append-nil (name ++ end ∷ []))

-- a name is cut off a list
pub record Cut (end : ℕ) (text : List ℕ) (names : List (List ℕ)) (rest : List ℕ) : Type 0 where
  pub each : All (IsName end) names
  pub spelled : text ≡ ended end names ++ rest

pub cut_more : (end k : ℕ) (text : List ℕ) (names : List (List ℕ)) (rest : List ℕ) → 0 < k → IsFirstByte (is_byte end) rest (Some k) → Cut end text names rest → Cut end text (names ++ take k rest ∷ []) (drop (k + 1) rest)
cut_more end k text names rest some found cut =
    let filled : take k rest ≢ [] = λ empty. let none : length (take k rest) ≡ 0 = ap length empty in absurd (omega (arith, length-take k rest, found.0.high)) in
    record {
      each = All-push (IsName end) names (take k rest) cut.each (record { some = filled; whole = front_has_no_end end k rest found });
      spelled =
          cut.spelled ∙ ap (λ t. ended end names ++ t) (cut_at end k rest found)
          ∙ sym (ap (λ t. t ++ drop (k + 1) rest) (ended_more end names (take k rest)) ∙ simp append_assoc);
    }

-- nothing is left, or a last name without its end
pub whole_list : (end : ℕ) (text : List ℕ) (names : List (List ℕ)) (rest : List ℕ) → rest ≡ [] → Cut end text names rest → AreNamesOf end text names
whole_list end text names rest empty cut = record {
  each = cut.each;
  spelled = inl (cut.spelled ∙ ap (λ t. ended end names ++ t) empty ∙ append-nil (ended end names));
}

pub last_name : (end : ℕ) (text : List ℕ) (names : List (List ℕ)) (rest : List ℕ) → rest ≢ [] → IsFirstByte (is_byte end) rest None → Cut end text names rest → AreNamesOf end text (names ++ rest ∷ [])
last_name end text names rest filled found cut = record {
  each = All-push (IsName end) names rest cut.each (record { some = filled; whole = text_has_no_end end rest found });
  spelled = inr (ap (λ t. t ++ end ∷ []) cut.spelled ∙ append_assoc (ended end names) rest (end ∷ []) ∙ sym (ended_more end names rest));
}

-- a text is empty, or is not
pub no_bytes : (text : List ℕ) → true ≡ (length text == 0) → text ≡ []
no_bytes [] is = refl
no_bytes (b ∷ text) is = let none : false ≡ true = grind (arith, nat_tests, is) in absurd cc

pub some_bytes : (text : List ℕ) → false ≡ (length text == 0) → text ≢ []
some_bytes [] is = absurd cc
some_bytes (b ∷ text) is = λ none. absurd cc

-- what is cut of a front of what a reader has left, as long as a list may be and one byte longer
front_is_whole : (front text : List ℕ) → front ≡ take (LIST_LIMIT + 1) text → length front ≤ LIST_LIMIT → front ≡ text
front_is_whole front text is short = is ∙ take_all (LIST_LIMIT + 1) text (omega (arith, ap length is, length-take (LIST_LIMIT + 1) text))

answers_cut : (end : ℕ) (text : List ℕ) (result : Result (Vec (Vec ℕ)) NamesFault) → CutsList end text result → AnswersList end text result
answers_cut end text (Ok names) cut = cut
answers_cut end text (Err (Empty number)) cut = cut
answers_cut end text (Err Memory) cut = cut
answers_cut end text (Err Unread) cut = absurd cut
answers_cut end text (Err TooLong) cut = absurd cut
answers_cut end text (Err TooManyFolders) cut = absurd cut

pub answers_front : (end : ℕ) (known : Option (List ℕ)) (front : List ℕ) (result : Result (Vec (Vec ℕ)) NamesFault) → IfSome (option_map (take (LIST_LIMIT + 1)) known) (λ taken. front ≡ taken) → length front ≤ LIST_LIMIT → CutsList end front result → IfSome known (λ text. AnswersList end text result)
answers_front end None front result is short cut = is
answers_front end (Some text) front result is short cut = answers_cut end text result (subst (λ t. CutsList end t result) (front_is_whole front text is short) cut)
