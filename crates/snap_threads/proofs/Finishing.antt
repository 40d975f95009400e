-- A claim is finished when one of its numbers is no piece.
use Rattle.std.proofs.Common.{◌≡◌, ℕ, zero, suc, ◌<◌, ◌≤◌, Bool, true, false, cond, nat_lt, List, [], ◌∷◌, ◌++◌, length, get_or, refl, ap, ◌∙◌, arith, inl, inr}
use Rattle.std.specs.Prelude.{Any, filter}
use Rattle.std.proofs.lemmas.Bool.{cases_lt}
use Rattle.std.proofs.lemmas.Bool.Decides.{nat_tests}
use Rattle.snap_core.specs.Sums.{one_if}
use Rattle.snap_threads.specs.inside.Draws.{past}
use Rattle.snap_threads.proofs.Totals.{none_low, one_high}

pub any_past : (p : ℕ) (xs : List ℕ) → 0 < past p xs → Any (λ n. p ≤ n) xs
any_past p [] h = absurd (omega arith)
any_past p (x ∷ xs) h = elim (cases_lt x p) [
  | inl low ↦ let z = none_low p x low in let r = any_past p xs (omega arith) in (suc r.0, r.1, omega (arith, r.2), r.3, r.4)
  | inr high ↦ (0, x, omega arith, refl, high)
]

pub past_any : (p : ℕ) (xs : List ℕ) → Any (λ n. p ≤ n) xs → 0 < past p xs
past_any p xs any = go xs any.0 any.1 any.2 any.3 any.4
  where
    go : (xs : List ℕ) (k d : ℕ) → k < length xs → get_or xs k d ≡ d → p ≤ d → 0 < past p xs
    go [] k d lt is high = absurd (omega arith)
    go (x ∷ xs) zero d lt is high = let o = one_high p x (omega (arith, is)) in omega arith
    go (x ∷ xs) (suc k) d lt is high = let r = go xs k d (omega arith) is high in omega arith

-- a number that is no piece adds no piece
pub pieces_stay : (p n : ℕ) (xs : List ℕ) → p ≤ n → filter (λ m. nat_lt m p) (xs ++ n ∷ []) ≡ filter (λ m. nat_lt m p) xs
pieces_stay p n [] high = let e : nat_lt n p ≡ false = grind (arith, nat_tests) in ap (λ b. cond b (n ∷ []) []) e
pieces_stay p n (x ∷ xs) high = ap (λ ys. cond (nat_lt x p) (x ∷ ys) ys) (pieces_stay p n xs high)

true_from_one : (b : Bool) → 0 < one_if b → b ≡ true
true_from_one true h = refl
true_from_one false h = absurd (omega arith)

pub finished_to : (p : ℕ) (xs : List ℕ) (b : Bool) → past p xs ≡ one_if b → b ≡ true → Any (λ n. p ≤ n) xs
finished_to p xs b is t = any_past p xs (let e = ap one_if t in omega (arith, is, e))

pub finished_from : (p : ℕ) (xs : List ℕ) (b : Bool) → past p xs ≡ one_if b → Any (λ n. p ≤ n) xs → b ≡ true
finished_from p xs b is any = true_from_one b (let h = past_any p xs any in omega (arith, is, h))

-- a piece that is drawn stands after the others
pub pieces_more : (p n : ℕ) (xs : List ℕ) → n < p → filter (λ m. nat_lt m p) (xs ++ n ∷ []) ≡ filter (λ m. nat_lt m p) xs ++ n ∷ []
pieces_more p n [] low = let e : nat_lt n p ≡ true = grind (arith, nat_tests) in ap (λ b. cond b (n ∷ []) []) e
pieces_more p n (x ∷ xs) low = ap (λ ys. cond (nat_lt x p) (x ∷ ys) ys) (pieces_more p n xs low) ∙ split (nat_lt x p)
  where
    split : (b : Bool) → cond b (x ∷ (filter (λ m. nat_lt m p) xs ++ n ∷ [])) (filter (λ m. nat_lt m p) xs ++ n ∷ []) ≡ cond b (x ∷ filter (λ m. nat_lt m p) xs) (filter (λ m. nat_lt m p) xs) ++ n ∷ []
    split true = refl
    split false = refl

pub few_pieces : (p : ℕ) (xs : List ℕ) → length (filter (λ m. nat_lt m p) xs) ≤ length xs
few_pieces p [] = omega arith
few_pieces p (x ∷ xs) = split (nat_lt x p) (few_pieces p xs)
  where
    split : (b : Bool) → length (filter (λ m. nat_lt m p) xs) ≤ length xs → length (cond b (x ∷ filter (λ m. nat_lt m p) xs) (filter (λ m. nat_lt m p) xs)) ≤ length (x ∷ xs)
    split true r = omega arith
    split false r = omega arith
