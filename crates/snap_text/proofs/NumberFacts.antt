-- A field is a number exactly where it is the decimal of one.
use Rattle.std.proofs.Common.{◌≡◌, ◌<◌, ◌≤◌, ◌^◌, ◌&&◌, cond, nat_lt, ℕ, Bool, true, false, List, Option, Some, None, Result, Ok, Err, refl, arith, ◌∙◌, sym, ap, subst}
use Rattle.std.specs.Prelude.{decimal, IsUtf8}
use Rattle.std.specs.Str.{bytes_eq}
use Rattle.std.specs.Str.Parse.{digits_value, ParsesUnsigned}
use Rattle.std.proofs.lemmas.Bool.{lt-ltb, ltb-true}
use Rattle.std.proofs.lemmas.Fmt.{decimal_is_IsNumeral, IsAscii-decimal, parse-decimal}
use Rattle.std.proofs.lemmas.Slice.Eq.{bytes_eq-Decides}
use Rattle.std.proofs.lemmas.Str.{IsUtf8-from_ascii}
use Rattle.snap_text.specs.Fields.{number_at}

pub number_some : (limit n : ℕ) (f : List ℕ) → n < limit → limit ≤ 2 ^ 64 → f ≡ decimal n → number_at limit f ≡ Some n
unfolding number_at
number_some limit n f lt small e =
    let value : digits_value 10 (decimal n) ≡ n = (decimal_is_IsNumeral n (omega arith)).1 in
    let test : nat_lt n limit ≡ true = lt-ltb _ _ lt in
    let same : bytes_eq (decimal n) (decimal n) ≡ true = (bytes_eq-Decides (decimal n) (decimal n)).1 refl in
    rw (e, value, test, same) refl

both : (a b : Bool) → (a && b) ≡ true → (a ≡ true) × (b ≡ true)
both true b e = (refl, e)
both false b e = absurd cc

some_of : (b : Bool) (v n : ℕ) → cond b (Some v) None ≡ Some n → (b ≡ true) × (v ≡ n)
some_of true v n e = (refl, cc)
some_of false v n e = absurd cc

-- what a field that is a number is
pub number_is : (limit n : ℕ) (f : List ℕ) → number_at limit f ≡ Some n → (n < limit) × (f ≡ decimal n)
unfolding number_at
number_is limit n f e =
    let v = digits_value 10 f in
    let (test, same) = some_of (nat_lt v limit && bytes_eq (decimal v) f) v n e in
    let (less, equal) = both (nat_lt v limit) (bytes_eq (decimal v) f) test in
    let text : decimal v ≡ f = (bytes_eq-Decides (decimal v) f).0 equal in
    (subst (λ m. m < limit) same (ltb-true _ _ less), sym text ∙ ap decimal same)

none_of : (o : Option ℕ) → ((n : ℕ) → o ≡ Some n → ⊥) → o ≡ None
none_of None h = refl
none_of (Some n) h = absurd (h n refl)

pub number_none : (limit : ℕ) (f : List ℕ) → ((n : ℕ) → n < limit → f ≡ decimal n → ⊥) → number_at limit f ≡ None
number_none limit f h = none_of (number_at limit f) (λ n e. let (lt, is) = number_is limit n f e in h n lt is)

-- the number below a smaller limit
pub number_below : (small n : ℕ) (f : List ℕ) → number_at (2 ^ 32) f ≡ Some n → n < small → small ≤ 2 ^ 32 → number_at small f ≡ Some n
number_below small n f e lt le = number_some small n f lt (omega (arith, le)) (number_is (2 ^ 32) n f e).1

-- the number below a greater one
pub number_wider : (wide n : ℕ) (f : List ℕ) → number_at (2 ^ 32) f ≡ Some n → 2 ^ 32 ≤ wide → wide ≤ 2 ^ 64 → number_at wide f ≡ Some n
number_wider wide n f e le small = let (lt, is) = number_is (2 ^ 32) n f e in number_some wide n f (omega (arith, lt, le)) small is

pub number_above : (small n : ℕ) (f : List ℕ) → number_at (2 ^ 32) f ≡ Some n → small ≤ n → small ≤ 2 ^ 32 → number_at small f ≡ None
number_above small n f e ge le = number_none small f (λ m lt is.
    let again = number_some (2 ^ 32) m f (omega arith) (omega arith) is in
    let same : m ≡ n = cc in
    omega arith)

pub number_never : (small : ℕ) (f : List ℕ) → number_at (2 ^ 32) f ≡ None → small ≤ 2 ^ 32 → number_at small f ≡ None
number_never small f e le = number_none small f (λ m lt is.
    let again = number_some (2 ^ 32) m f (omega arith) (omega arith) is in
    cc)

pub same_text : (f : List ℕ) (n : ℕ) → n < 2 ^ 32 → bytes_eq (decimal n) f ≡ true → number_at (2 ^ 32) f ≡ Some n
same_text f n lt e = number_some (2 ^ 32) n f lt (omega arith) (sym ((bytes_eq-Decides (decimal n) f).0 e))

-- the same below 2^64
pub wide_no_text : (f : List ℕ) → (IsUtf8 f → ⊥) → number_at (2 ^ 64) f ≡ None
wide_no_text f h = number_none (2 ^ 64) f (λ n lt is. h (subst (λ t. IsUtf8 t) (sym is) (IsUtf8-from_ascii (decimal n) (IsAscii-decimal n (omega arith)))))

pub wide_no_parse : {E : Type 0} (f t : List ℕ) (r : Result ℕ E) (e : E) → t ≡ f → ParsesUnsigned 64 10 t r → r ≡ Err e → number_at (2 ^ 64) f ≡ None
wide_no_parse f t r e same p is = number_none (2 ^ 64) f (λ n lt d. let ok = parse-decimal 64 n t r lt (omega arith) (same ∙ d) p in cc)

pub wide_other_text : {E : Type 0} (f t : List ℕ) (r : Result ℕ E) (n : ℕ) → t ≡ f → ParsesUnsigned 64 10 t r → r ≡ Ok n → bytes_eq (decimal n) f ≡ false → number_at (2 ^ 64) f ≡ None
wide_other_text f t r n same p is no_eq = number_none (2 ^ 64) f (λ m lt d.
    let ok = parse-decimal 64 m t r lt (omega arith) (same ∙ d) p in
    let nm : m ≡ n = cc in
    let equal = (bytes_eq-Decides (decimal n) f).1 (ap decimal (sym nm) ∙ sym d) in
    cc)

pub wide_same_text : (f : List ℕ) (n : ℕ) → n < 2 ^ 64 → bytes_eq (decimal n) f ≡ true → number_at (2 ^ 64) f ≡ Some n
wide_same_text f n lt e = number_some (2 ^ 64) n f lt (omega arith) (sym ((bytes_eq-Decides (decimal n) f).0 e))

pub wide_small : {E : Type 0} (t : List ℕ) (r : Result ℕ E) (n : ℕ) → ParsesUnsigned 64 10 t r → r ≡ Ok n → n < 2 ^ 64
wide_small t (Ok x) n p is = let e : x ≡ n = cc in let l = p.0.1 in let v = p.1 in omega arith
wide_small t (Err e) n p is = absurd cc
