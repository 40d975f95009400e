-- The parts of a field, and the first mistake in them.
use Rattle.std.proofs.Common.{◌≡◌, ◌<◌, ◌≤◌, ◌+◌, ◌^◌, ◌==◌, ◌∙◌, ℕ, true, false, List, [], ◌∷◌, length, take, drop, Some, None, sym, ap, refl, arith}
use Rattle.std.specs.Prelude.{◌≢◌, nat_lt, unwrap_or}
use Rattle.std.specs.List.{All}
use Rattle.std.proofs.lemmas.Bool.Decides.{nat_tests}
use Rattle.std.proofs.lemmas.List.Elements.{All-weaker}
use Rattle.std.proofs.lemmas.List.Splits.{length-slice_split, slice_split_none}
use Rattle.memchr.specs.Find.{IsFirstByte, is_byte}
use Rattle.snap_names.proofs.ListFacts.{cut_at, front_has_no_end, text_has_no_end}
use Rattle.snap_text.specs.Fields.{number_at, parts, three}
use Rattle.snap_text.proofs.BackFacts.{parts_at}
use Rattle.snap_text.proofs.NumberFacts.{number_is, number_none, number_some}
use Rattle.snap_explain.specs.declared.mistake.Mistake.{Mistake}
use Rattle.snap_explain.specs.declared.mistake.Mistake.TheVariants as mistakes
use Rattle.snap_explain.specs.Mistakes.{component_of, entry_mistake, first_fall, first_mistake, is_number}

-- ---- the first part of a text

lacks : (mark : ℕ) (text : List ℕ) → All (λ b. b ≢ mark) text → All (λ b. (b == mark) ≡ false) text
lacks mark text h = All-weaker (λ b. b ≢ mark) (λ b. (b == mark) ≡ false) (λ b no. grind (arith, nat_tests)) text h

pub cut_first : (mark k : ℕ) (text : List ℕ) → IsFirstByte (is_byte mark) text (Some k) → parts mark text ≡ take k text ∷ parts mark (drop (k + 1) text)
cut_first mark k text found =
    ap (λ (t : List ℕ). parts mark t) (cut_at mark k text found) ∙ parts_at mark (take k text) (drop (k + 1) text) (lacks mark (take k text) (front_has_no_end mark k text found))

pub only_part : (mark : ℕ) (text : List ℕ) → IsFirstByte (is_byte mark) text None → parts mark text ≡ text ∷ []
only_part mark text found = slice_split_none (λ b. b == mark) text (lacks mark text (text_has_no_end mark text found))

more_than_three : (a b c : List ℕ) (others : List (List ℕ)) → 0 < length others → three (a ∷ b ∷ c ∷ others) ≡ None
more_than_three a b c [] some = absurd (omega (arith, some))
more_than_three a b c (d ∷ others) some = refl

pub four_parts : (mark : ℕ) (text second third fourth a b c : List ℕ) → parts mark text ≡ a ∷ parts mark second → parts mark second ≡ b ∷ parts mark third
    → parts mark third ≡ c ∷ parts mark fourth → three (parts mark text) ≡ None
four_parts mark text second third fourth a b c one two others =
    rw (one, two, others) (more_than_three a b c (parts mark fourth) (omega (arith, length-slice_split (λ x. x == mark) fourth)))

-- ---- a number of a range

narrower : (limit n : ℕ) (f : List ℕ) → number_at (2 ^ 64) f ≡ Some n → n < limit → limit ≤ 2 ^ 64 → number_at limit f ≡ Some n
narrower limit n f e lt le = number_some limit n f lt le (number_is (2 ^ 64) n f e).1

too_great : (limit n : ℕ) (f : List ℕ) → number_at (2 ^ 64) f ≡ Some n → limit ≤ n → limit ≤ 2 ^ 64 → number_at limit f ≡ None
too_great limit n f e ge le = number_none limit f (λ m lt is.
    let again = number_some (2 ^ 64) m f (omega arith) (omega arith) is in
    let same : m ≡ n = cc in
    omega arith)

never : (limit : ℕ) (f : List ℕ) → number_at (2 ^ 64) f ≡ None → limit ≤ 2 ^ 64 → number_at limit f ≡ None
never limit f e le = number_none limit f (λ m lt is.
    let again = number_some (2 ^ 64) m f (omega arith) (omega arith) is in
    cc)

pub in_range : (least limit n : ℕ) (f : List ℕ) → number_at (2 ^ 64) f ≡ Some n → limit ≤ 2 ^ 64 → least ≤ n → n < limit → is_number least limit f ≡ true
in_range least limit n f e le ge lt = rw (narrower limit n f e lt le) (grind (arith, nat_tests))

pub below_range : (least limit n : ℕ) (f : List ℕ) → number_at (2 ^ 64) f ≡ Some n → limit ≤ 2 ^ 64 → n < limit → n < least → is_number least limit f ≡ false
below_range least limit n f e le lt less = rw (narrower limit n f e lt le) (grind (arith, nat_tests))

pub above_range : (least limit n : ℕ) (f : List ℕ) → number_at (2 ^ 64) f ≡ Some n → limit ≤ 2 ^ 64 → limit ≤ n → is_number least limit f ≡ false
above_range least limit n f e le ge = rw (too_great limit n f e ge le) refl

pub no_number : (least limit : ℕ) (f : List ℕ) → number_at (2 ^ 64) f ≡ None → limit ≤ 2 ^ 64 → is_number least limit f ≡ false
no_number least limit f e le = rw (never limit f e le) refl

-- ---- a component

pub component_is : (entry part : List ℕ) (others : List (List ℕ)) → parts 58 entry ≡ part ∷ others → component_of entry ≡ unwrap_or (number_at (2 ^ 8) part) 0
unfolding component_of
component_is entry part others e = rw e refl

pub some_component : (entry part : List ℕ) (others : List (List ℕ)) (n : ℕ) → parts 58 entry ≡ part ∷ others → number_at (2 ^ 64) part ≡ Some n → n < 256 → n ≡ component_of entry
some_component entry part others n e h lt = sym (component_is entry part others e ∙ rw (narrower (2 ^ 8) n part h (omega arith) (omega arith)) refl)

pub great_component : (entry part : List ℕ) (others : List (List ℕ)) (n : ℕ) → parts 58 entry ≡ part ∷ others → number_at (2 ^ 64) part ≡ Some n → 256 ≤ n → 0 ≡ component_of entry
great_component entry part others n e h ge = sym (component_is entry part others e ∙ rw (too_great (2 ^ 8) n part h (omega arith) (omega arith)) refl)

pub no_component : (entry part : List ℕ) (others : List (List ℕ)) → parts 58 entry ≡ part ∷ others → number_at (2 ^ 64) part ≡ None → 0 ≡ component_of entry
no_component entry part others e h = sym (component_is entry part others e ∙ rw (never (2 ^ 8) part h (omega arith)) refl)

-- ---- one entry after the other

pub mistake_here : (place : ℕ) (entry : List ℕ) (all others : List (List ℕ)) (mistake : Mistake) → all ≡ entry ∷ others → entry_mistake place entry ≡ Some mistake → first_mistake place all ≡ Some mistake
mistake_here place entry all others mistake e h = rw (e, h) refl

pub no_mistake_here : (place : ℕ) (entry : List ℕ) (all others : List (List ℕ)) → all ≡ entry ∷ others → entry_mistake place entry ≡ None → first_mistake place all ≡ first_mistake (place + 1) others
no_mistake_here place entry all others e h = rw (e, h) refl

pub falls_here : (place : ℕ) (entry next : List ℕ) (all others : List (List ℕ)) → all ≡ next ∷ others → component_of next ≤ component_of entry → first_fall place (entry ∷ all) ≡ Some (mistakes.Fall place)
falls_here place entry next all others e h =
    let test : nat_lt (component_of entry) (component_of next) ≡ false = grind (arith, nat_tests) in
    rw (e, test) refl

pub rises_here : (place : ℕ) (entry next : List ℕ) (all others : List (List ℕ)) → all ≡ next ∷ others → component_of entry < component_of next → first_fall place (entry ∷ all) ≡ first_fall (place + 1) (next ∷ others)
rises_here place entry next all others e h =
    let test : nat_lt (component_of entry) (component_of next) ≡ true = grind (arith, nat_tests) in
    rw (e, test) refl
