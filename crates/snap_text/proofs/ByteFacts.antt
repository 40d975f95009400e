-- Which bytes the fields of an event have.
use Rattle.std.proofs.Common.{◌≡◌, ◌<◌, ◌≤◌, ◌+◌, ◌^◌, ◌==◌, ◌%◌, ◌⊎◌, inl, inr, ℕ, false, List, [], ◌∷◌, refl, arith}
use Rattle.std.specs.Prelude.{decimal}
use Rattle.std.specs.List.{All}
use Rattle.std.proofs.lemmas.Bool.Decides.{nat_tests}
use Rattle.std.proofs.lemmas.Fmt.{decimal_by_steps}
use Rattle.std.proofs.lemmas.List.Elements.{All-append, All-cons, All-nil, All-weaker}
use Rattle.snap_core.specs.declared.entry.Entry.{Entry}
use Rattle.snap_core.specs.Entries.{EntryFits}
use Rattle.snap_text.specs.Spelling.{entries_text, entry_text}

abbrev pub IsDigit : ℕ → Type 0
IsDigit b = (48 ≤ b) × (b < 58)

-- a digit or a colon
abbrev pub IsEntryByte : ℕ → Type 0
IsEntryByte b = (48 ≤ b) × (b ≤ 58)

-- a digit, a colon or a space
abbrev pub IsDataByte : ℕ → Type 0
IsDataByte b = (b ≡ 32) ⊎ IsEntryByte b

abbrev pub Lacks : ℕ → List ℕ → Type 0
Lacks mark bs = All (λ b. (b == mark) ≡ false) bs

one_digit : (n : ℕ) → n < 10 → All IsDigit ((48 + n) ∷ [])
one_digit n lt = All-cons IsDigit (48 + n) [] (omega arith, omega arith) (All-nil IsDigit)

pub digits : (n : ℕ) → n < 2 ^ 64 → All IsDigit (decimal n)
digits n lt = decimal_by_steps (λ k ds. All IsDigit ds) (λ k small. one_digit k small)
    (λ k ds big h. All-append IsDigit ds ((48 + k % 10) ∷ []) h (one_digit (k % 10) (omega arith))) n lt

entry_digits : (bs : List ℕ) → All IsDigit bs → All IsEntryByte bs
entry_digits bs h = All-weaker IsDigit IsEntryByte (λ b d. (d.0, omega (arith, d.1))) bs h

pub entry_bytes : (e : Entry) → EntryFits e → All IsEntryByte (entry_text e)
entry_bytes e f =
    let k = entry_digits (decimal e.component) (digits e.component (omega (arith, f.0))) in
    let n = entry_digits (decimal e.number) (digits e.number (omega (arith, f.1))) in
    let v = entry_digits (decimal e.value) (digits e.value (omega (arith, f.2))) in
    All-append IsEntryByte (decimal e.component) _ k (All-cons IsEntryByte 58 _ (omega arith, omega arith)
    (All-append IsEntryByte (decimal e.number) _ n (All-cons IsEntryByte 58 _ (omega arith, omega arith) v)))

pub data_entry : (e : Entry) → EntryFits e → All IsDataByte (entry_text e)
data_entry e f = All-weaker IsEntryByte IsDataByte (λ b d. inr d) (entry_text e) (entry_bytes e f)

-- what entries in a list by recursion keep
abbrev pub AllFit : List Entry → Type 0
AllFit [] = Unit {0}
AllFit (e ∷ es) = EntryFits e × AllFit es

pub data_bytes : (es : List Entry) → AllFit es → All IsDataByte (entries_text es)
unfolding entries_text
data_bytes [] f = All-nil IsDataByte
data_bytes (e ∷ []) f = data_entry e f.0
data_bytes (e ∷ d ∷ es) f = All-append IsDataByte (entry_text e) _ (data_entry e f.0) (All-cons IsDataByte 32 _ (inl refl) (data_bytes (d ∷ es) f.1))

pub digits_lack : (mark n : ℕ) → n < 2 ^ 64 → (mark < 48) ⊎ (57 < mark) → Lacks mark (decimal n)
digits_lack mark n lt out = All-weaker IsDigit (λ b. (b == mark) ≡ false) (λ b d. other b d) (decimal n) (digits n lt)
  where
    other : (b : ℕ) → IsDigit b → (b == mark) ≡ false
    other b d = let low = d.0 in let high = d.1 in grind (arith, nat_tests)

pub entry_lacks_space : (e : Entry) → EntryFits e → Lacks 32 (entry_text e)
entry_lacks_space e f = All-weaker IsEntryByte (λ b. (b == 32) ≡ false) (λ b d. other b d) (entry_text e) (entry_bytes e f)
  where
    other : (b : ℕ) → IsEntryByte b → (b == 32) ≡ false
    other b d = let low = d.0 in grind (arith, nat_tests)
