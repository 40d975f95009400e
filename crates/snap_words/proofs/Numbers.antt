-- What a getter reads of the text of a number, and the texts of the numbers that are spelled out.
use Rattle.std.proofs.Common.{◌≡◌, ℕ, ◌<◌, ◌^◌, List, Option, Some, None, Result, Ok, Err, codes, refl, ap, arith, sym, ◌∙◌}
use Rattle.std.specs.Prelude.{decimal, unwrap_or}
use Rattle.std.specs.Fmt.{digits}
use Rattle.std.specs.Str.Parse.{ParsesUnsigned}
use Rattle.std.proofs.lemmas.Fmt.{decimal_digit, parse-decimal}
use Rattle.clap.specs.Words.{ReadsOne, Text}
use Rattle.snap_words.specs.Jobs.{SaysOr}

pub decimal_reads : (E : Type 0) (G : List ℕ → Result ℕ E → Type 0) → ((u : List ℕ) (x : Result ℕ E) → G u x → ParsesUnsigned 32 10 u x) → (n : ℕ) → n < 2 ^ 32 → (r : Option ℕ) → ReadsOne G (decimal n) r → r ≡ Some n
decimal_reads E G only n lt (Some v) h =
    let found : Result ℕ E = Ok v in
    let read : found ≡ Ok n = parse-decimal 32 n (decimal n) found lt (omega arith) refl (only (decimal n) found h) in
    cc
decimal_reads E G only n lt None h =
    let found : Result ℕ E = Err h.0 in
    let read : found ≡ Ok n = parse-decimal 32 n (decimal n) found lt (omega arith) refl (only (decimal n) found h.1) in
    absurd cc

-- the number of a text, or the usual one where there is no text
pub number_said : (text : Option Text) (found : Option ℕ) (usual n : ℕ) → (text ≡ None → found ≡ None) → (text ≡ Some (decimal n) → found ≡ Some n)
    → SaysOr usual text n → unwrap_or found usual ≡ n
number_said None found usual n absent given is = ap (λ (f : Option ℕ). unwrap_or f usual) (absent refl) ∙ sym is
number_said (Some text) found usual n absent given is = ap (λ (f : Option ℕ). unwrap_or f usual) (given (ap Some is))

pub zero_text : decimal 0 ≡ codes "0"
zero_text = decimal_digit 0 (omega arith)

pub one_text : decimal 1 ≡ codes "1"
one_text = decimal_digit 1 (omega arith)

pub ten_text : decimal 10 ≡ codes "10"
unfolding digits
ten_text = refl

pub two_text : decimal 2 ≡ codes "2"
two_text = decimal_digit 2 (omega arith)

pub five_text : decimal 5 ≡ codes "5"
five_text = decimal_digit 5 (omega arith)

pub hundred_text : decimal 100 ≡ codes "100"
unfolding digits
hundred_text = refl

pub usual_text : decimal 65536 ≡ codes "65536"
unfolding digits
usual_text = refl

pub million_text : decimal 1048576 ≡ codes "1048576"
unfolding digits
million_text = refl

pub rounds_text : decimal 32768 ≡ codes "32768"
unfolding digits
rounds_text = refl

-- a round more than the usual limit of events has room for
pub round_more_text : decimal 2049 ≡ codes "2049"
unfolding digits
round_more_text = refl
