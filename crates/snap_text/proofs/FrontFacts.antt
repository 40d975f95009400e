-- The number and the entry that a text begins with.
use Rattle.std.proofs.Common.{◌≡◌, ◌<◌, ◌==◌, ◌+◌, ◌-◌, ◌*◌, ◌/◌, ◌%◌, ◌^◌, ◌++◌, ◌⊎◌, inl, inr, ℕ, zero, suc, true, false, Option, Some, None, List, [], ◌∷◌, length, get_or, take, drop, refl, arith, ◌∙◌, sym, ap, subst, append-nil, append_assoc, eq-eqb}
use Rattle.std.specs.Prelude.{decimal}
use Rattle.std.specs.Int.{IsInRange}
use Rattle.std.specs.Str.Parse.{AllDigits, digits_value}
use Rattle.std.proofs.lemmas.Bool.Decides.{nat_tests}
use Rattle.std.proofs.lemmas.Fmt.{decimal_digit, decimal_injective, decimal_is_IsNumeral, decimal_nonempty, decimal_step, first_decimal}
use Rattle.std.proofs.lemmas.List.{drop_at, get_or-take}
use Rattle.std.proofs.lemmas.Str.Parse.{digit_from_value, digits_value-take-le}
use Rattle.snap_core.specs.declared.entry.Entry.{Entry}
use Rattle.snap_text.specs.Fields.{entry_at, number_at}
use Rattle.snap_text.specs.inside.Fronts.{EndsEntry, EntryThen, NoDigitFirst, NumberThen}
use Rattle.snap_text.specs.Spelling.{entry_text}
use Rattle.snap_text.proofs.BackFacts.{entry_back}
use Rattle.snap_text.proofs.GrammarFacts.{entry_fits, entry_is}
use Rattle.snap_text.proofs.NumberFacts.{number_none, number_some}

-- a text begins with digits up to its first byte that is none, in one way only
outside : (c : ℕ) → IsInRange 48 57 c → (c < 48) ⊎ (57 < c) → ⊥
outside c d (inl lt) = omega (arith, d.0)
outside c d (inr gt) = omega (arith, d.1)

same_run : (ds es more rest : List ℕ) → AllDigits 10 ds → AllDigits 10 es → ds ++ more ≡ es ++ rest → NoDigitFirst more → NoDigitFirst rest → ds ≡ es
same_run [] [] more rest hd he e none ends = refl
same_run [] (c ∷ es) more rest hd he e none ends =
    absurd (outside c (digit_from_value c he.0) (subst (λ (t : List ℕ). NoDigitFirst t) e none))
same_run (c ∷ ds) [] more rest hd he e none ends =
    absurd (outside c (digit_from_value c hd.0) (subst (λ (t : List ℕ). NoDigitFirst t) (sym e) ends))
same_run (c ∷ ds) (b ∷ es) more rest hd he e none ends =
    let head : c ≡ b = cc in
    let tail : ds ++ more ≡ es ++ rest = cc in
    rw (head, same_run ds es more rest hd.1 he.1 tail none ends) refl

-- and those that were read so far are the first of them
first_run : (ds es more rest : List ℕ) → AllDigits 10 ds → AllDigits 10 es → ds ++ more ≡ es ++ rest → NoDigitFirst rest → take (length ds) es ≡ ds
first_run [] es more rest hd he e ends = refl
first_run (c ∷ ds) [] more rest hd he e ends =
    absurd (outside c (digit_from_value c hd.0) (subst (λ (t : List ℕ). NoDigitFirst t) (sym e) ends))
first_run (c ∷ ds) (b ∷ es) more rest hd he e ends =
    let head : c ≡ b = cc in
    let tail : ds ++ more ≡ es ++ rest = cc in
    rw (head, first_run ds es more rest hd.1 he.1 tail ends) refl

digits_of : (n : ℕ) → n < 2 ^ 64 → AllDigits 10 (decimal n)
digits_of n small = (decimal_is_IsNumeral n small).0.1

-- ---- a number that is read digit by digit

pub first_digit : (text left : List ℕ) (b : ℕ) → text ≡ b ∷ left → IsInRange 48 57 b → text ≡ decimal (b - 48) ++ left
first_digit text left b is digit = rw (decimal_digit (b - 48) (omega (arith, digit.1))) (is ∙ ap (λ x. x ∷ left) (omega (arith, digit.0)))

decimal_more : (m d : ℕ) → 0 < m → d < 10 → m < 2 ^ 33 → decimal (m * 10 + d) ≡ decimal m ++ (48 + d) ∷ []
decimal_more m d some digit small =
    let front : (m * 10 + d) / 10 ≡ m = omega arith in
    let last : (m * 10 + d) % 10 ≡ d = omega arith in
    rw (front, last) at (decimal_step (m * 10 + d) (omega arith) (omega arith))

pub digit_more : (text left : List ℕ) (m b : ℕ) → text ≡ decimal m ++ b ∷ left → IsInRange 48 57 b → 0 < m → m < 2 ^ 33 → text ≡ decimal (m * 10 + (b - 48)) ++ left
digit_more text left m b is digit some small =
    let here : 48 + (b - 48) ≡ b = omega (arith, digit.0) in
    let step : decimal (m * 10 + (b - 48)) ≡ decimal m ++ b ∷ [] = decimal_more m (b - 48) some (omega (arith, digit.1)) small ∙ ap (λ x. decimal m ++ x ∷ []) here in
    is ∙ sym (append_assoc (decimal m) (b ∷ []) left) ∙ ap (λ (t : List ℕ). t ++ left) (sym step)

pub no_digit_in_nothing : (text : List ℕ) → length text ≡ 0 → NoDigitFirst text
no_digit_in_nothing [] e = tt
no_digit_in_nothing (b ∷ bs) e = absurd (omega arith)

pub none_without_digits : (text : List ℕ) (n : ℕ) (rest : List ℕ) → NoDigitFirst text → NumberThen n rest text → ⊥
none_without_digits text n rest none then =
    let same = same_run [] (decimal n) text rest tt (digits_of n (omega (arith, then.small))) then.whole none then.ends in
    omega (arith, decimal_nonempty n (omega (arith, then.small)), ap length same)

-- the number is no less than what was read of it
pub none_too_large : (text left : List ℕ) (m n : ℕ) (rest : List ℕ) → text ≡ decimal m ++ left → m < 2 ^ 64 → 4294967295 < m → NumberThen n rest text → ⊥
none_too_large text left m n rest is small large then =
    let read = decimal_is_IsNumeral m small in
    let whole = decimal_is_IsNumeral n (omega (arith, then.small)) in
    let front = first_run (decimal m) (decimal n) left rest read.0.1 whole.0.1 (sym is ∙ then.whole) then.ends in
    omega (arith, digits_value-take-le 10 (decimal n) (length (decimal m)) (omega arith), ap (digits_value 10) front, read.1, whole.1, then.small)

none_behind_zero : (text left : List ℕ) (b n : ℕ) (rest : List ℕ) → text ≡ decimal 0 ++ b ∷ left → IsInRange 48 57 b → NumberThen n rest text → ⊥
none_behind_zero text left b n rest is digit then = go n then
  where
    go : (n : ℕ) → NumberThen n rest text → ⊥
    go zero then =
        let same : 48 ∷ b ∷ left ≡ 48 ∷ rest = rw (decimal_digit 0 (omega arith)) at (sym is ∙ then.whole) in
        let behind : rest ≡ b ∷ left = cc in
        outside b digit (subst (λ (t : List ℕ). NoDigitFirst t) behind then.ends)
    go (suc n) then =
        let front = first_run (decimal 0) (decimal (suc n)) (b ∷ left) rest (digits_of 0 (omega arith)) (digits_of (suc n) (omega (arith, then.small))) (sym is ∙ then.whole) then.ends in
        let zero : take 1 (decimal (suc n)) ≡ 48 ∷ [] = rw (decimal_digit 0 (omega arith)) at front in
        let first = ap (λ (t : List ℕ). get_or t 0 0) zero in
        omega (arith, get_or-take 1 (decimal (suc n)) 0 0 (omega arith), first_decimal (suc n) (omega arith) (omega (arith, then.small)))

-- no number has a digit after a leading zero, nor one that makes it too great
pub none_goes_on : (text left : List ℕ) (m b n : ℕ) (rest : List ℕ) → text ≡ decimal m ++ b ∷ left → IsInRange 48 57 b → m < 2 ^ 33 → (m ≡ 0) ⊎ (429496729 < m) → NumberThen n rest text → ⊥
none_goes_on text left m b n rest is digit small (inl none) then =
    none_behind_zero text left b n rest (is ∙ ap (λ (k : ℕ). decimal k ++ b ∷ left) none) digit then
none_goes_on text left m b n rest is digit small (inr large) then =
    none_too_large text left (m * 10 + (b - 48)) n rest (digit_more text left m b is digit (omega arith) small) (omega (arith, digit.1)) (omega arith) then

-- ---- a number alone

pub number_once : (text : List ℕ) (n m : ℕ) (rest more : List ℕ) → NumberThen n rest text → NumberThen m more text → (n ≡ m) × (rest ≡ more)
number_once text n m rest more a b =
    let same : decimal n ≡ decimal m = same_run (decimal n) (decimal m) rest more (digits_of n (omega (arith, a.small))) (digits_of m (omega (arith, b.small)))
    (sym a.whole ∙ b.whole) a.ends b.ends in
    let behind_n : drop (length (decimal n)) text ≡ rest = rw a.whole (drop_at (decimal n) rest (length (decimal n)) refl) in
    let behind_m : drop (length (decimal n)) text ≡ more = rw b.whole (drop_at (decimal m) more (length (decimal n)) (ap length (sym same))) in
    (decimal_injective n m (omega (arith, a.small)) (omega (arith, b.small)) same, sym behind_n ∙ behind_m)

alone : (n : ℕ) (f : List ℕ) → n < 2 ^ 32 → f ≡ decimal n → NumberThen n [] f
alone n f lt is = record { small = lt; whole = is ∙ sym (append-nil (decimal n)); ends = tt }

pub number_missing : (f : List ℕ) → ((n : ℕ) (rest : List ℕ) → NumberThen n rest f → ⊥) → number_at (2 ^ 32) f ≡ None
number_missing f h = number_none (2 ^ 32) f (λ n lt is. h n [] (alone n f lt is))

pub number_whole : (f : List ℕ) (n : ℕ) (rest : List ℕ) → NumberThen n rest f → (length rest == 0) ≡ true → number_at (2 ^ 32) f ≡ Some n
number_whole f n [] h e = number_some (2 ^ 32) n f h.small (omega arith) (h.whole ∙ append-nil (decimal n))
number_whole f n (b ∷ bs) h e = absurd (grind (arith, nat_tests))

pub number_goes_on : (f : List ℕ) (n : ℕ) (rest : List ℕ) → NumberThen n rest f → (length rest == 0) ≡ false → number_at (2 ^ 32) f ≡ None
number_goes_on f n rest h e = number_none (2 ^ 32) f (λ m lt is.
    let once = number_once f n m rest [] h (alone m f lt is) in
    let none = ap (λ (t : List ℕ). length t == 0) once.1 in
    cc)

-- ---- an entry

-- the three numbers of an entry, one after the other
pub record Numbers (e : Entry) (rest text : List ℕ) : Type 0 where
  pub second : List ℕ
  pub third : List ℕ
  pub component : NumberThen e.component (58 ∷ second) text
  pub number : NumberThen e.number (58 ∷ third) second
  pub value : NumberThen e.value rest third

entry_and : (e : Entry) (rest : List ℕ) → entry_text e ++ rest ≡ decimal e.component ++ 58 ∷ (decimal e.number ++ 58 ∷ (decimal e.value ++ rest))
entry_and e rest =
    append_assoc (decimal e.component) (58 ∷ (decimal e.number ++ 58 ∷ decimal e.value)) rest
    ∙ ap (λ (t : List ℕ). decimal e.component ++ 58 ∷ t) (append_assoc (decimal e.number) (58 ∷ decimal e.value) rest)

no_digit : (rest : List ℕ) → EndsEntry rest → NoDigitFirst rest
no_digit [] h = tt
no_digit (b ∷ bs) h = inl (omega arith)

pub numbers_of : (e : Entry) (rest text : List ℕ) → EntryThen e rest text → Numbers e rest text
numbers_of e rest text h = record {
  second = decimal e.number ++ 58 ∷ (decimal e.value ++ rest);
  third = decimal e.value ++ rest;
  component = record { small = omega (arith, h.fits.0); whole = h.whole ∙ entry_and e rest; ends = inr (omega arith) };
  number = record { small = h.fits.1; whole = refl; ends = inr (omega arith) };
  value = record { small = h.fits.2; whole = refl; ends = no_digit rest h.ends };
}

-- where a text begins with an entry, what was read of it is of that entry
pub second_of : (e : Entry) (rest text : List ℕ) (k : ℕ) (second : List ℕ) → EntryThen e rest text → NumberThen k (58 ∷ second) text → (k ≡ e.component) × (third : List ℕ) × NumberThen e.number (58 ∷ third) second × NumberThen e.value rest third
second_of e rest text k second h read =
    let is = numbers_of e rest text h in
    let once = number_once text k e.component (58 ∷ second) (58 ∷ is.second) read is.component in
    let same : second ≡ is.second = cc in
    (once.0, is.third, subst (λ (t : List ℕ). NumberThen e.number (58 ∷ is.third) t) (sym same) is.number, is.value)

pub third_of : (e : Entry) (rest text : List ℕ) (k n : ℕ) (second third : List ℕ) → EntryThen e rest text → NumberThen k (58 ∷ second) text → NumberThen n (58 ∷ third) second → NumberThen e.value rest third
third_of e rest text k n second third h read_k read_n =
    let (is_k, more, number, value) = second_of e rest text k second h read_k in
    let once = number_once second n e.number (58 ∷ third) (58 ∷ more) read_n number in
    let same : third ≡ more = cc in
    subst (λ (t : List ℕ). NumberThen e.value rest t) (sym same) value

pub rest_of : (e : Entry) (rest text : List ℕ) (k n v : ℕ) (second third left : List ℕ) → EntryThen e rest text → NumberThen k (58 ∷ second) text → NumberThen n (58 ∷ third) second → NumberThen v left third → left ≡ rest
rest_of e rest text k n v second third left h read_k read_n read_v =
    (number_once third v e.value left rest read_v (third_of e rest text k n second third h read_k read_n)).1

pub no_entry_end : (left rest : List ℕ) → left ≡ rest → EndsEntry rest → (length left == 0) ≡ false → (get_or left 0 0 == 32) ≡ false → ⊥
no_entry_end left [] same ends some other = let none = ap (λ (t : List ℕ). length t == 0) same in absurd cc
no_entry_end left (b ∷ bs) same ends some other =
    let first = ap (λ (t : List ℕ). get_or t 0 0) same in
    let test = eq-eqb _ _ (first ∙ ends) in
    absurd cc

-- ---- an entry alone, and the entries of a view

whole_entry : (text : List ℕ) (e : Entry) (rest : List ℕ) → EndsEntry rest → entry_at text ≡ Some e → EntryThen e rest (text ++ rest)
whole_entry text e rest ends h = record { fits = entry_fits text e h; whole = ap (λ (t : List ℕ). t ++ rest) (entry_is text e h); ends = ends }

none_of : (o : Option Entry) → ((e : Entry) → o ≡ Some e → ⊥) → o ≡ None
none_of None h = refl
none_of (Some e) h = absurd (h e refl)

pub entry_missing : (text rest : List ℕ) → EndsEntry rest → ((e : Entry) (more : List ℕ) → EntryThen e more (text ++ rest) → ⊥) → entry_at text ≡ None
entry_missing text rest ends h = none_of (entry_at text) (λ e is. h e rest (whole_entry text e rest ends is))

pub entry_whole : (text : List ℕ) (e : Entry) (rest : List ℕ) → EntryThen e rest text → (length rest == 0) ≡ true → entry_at text ≡ Some e
entry_whole text e [] h none = ap entry_at (h.whole ∙ append-nil (entry_text e)) ∙ entry_back e h.fits
entry_whole text e (b ∷ bs) h none = absurd (grind (arith, nat_tests))

pub entry_goes_on : (text : List ℕ) (e : Entry) (rest : List ℕ) → EntryThen e rest text → (length rest == 0) ≡ false → entry_at text ≡ None
entry_goes_on text e rest h some = none_of (entry_at text) (λ d is.
    let alone = subst (λ (t : List ℕ). EntryThen d [] t) (append-nil text) (whole_entry text d [] tt is) in
    let nums = numbers_of e rest text h in
    let same = rest_of d [] text e.component e.number e.value nums.second nums.third rest alone nums.component nums.number nums.value in
    let none = ap (λ (t : List ℕ). length t == 0) same in
    cc)
