-- Sums over lists, by which a thing is counted.
use Rattle.std.specs.Prelude.{ℕ, ◌+◌, ◌==◌, cond, nat_lt, List, [], ◌∷◌, Bool}

-- f of each element, added up
abbrev pub total : {A : Type 0} → (A → ℕ) → List A → ℕ
total f [] = 0
total f (x ∷ xs) = f x + total f xs

abbrev pub one_if : Bool → ℕ
one_if b = cond b 1 0

-- how often x is in the list
abbrev pub times : ℕ → List ℕ → ℕ
times x xs = total (λ y. one_if (y == x)) xs

-- 1 if x is below n, and else 0
abbrev pub once_below : ℕ → ℕ → ℕ
once_below x n = one_if (nat_lt x n)
