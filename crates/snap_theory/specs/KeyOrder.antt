-- Pairs of numbers in order.
use Rattle.std.specs.Prelude.{ℕ, ◌≡◌, ◌+◌, ◌*◌, ◌<◌, ◌⊎◌}

-- by the first numbers, and if they are equal by the second
abbrev pub KeyLess : ℕ × ℕ → ℕ × ℕ → Type 0
KeyLess a b = (a.0 < b.0) ⊎ ((a.0 ≡ b.0) × (a.1 < b.1))

-- a pair as one number, if its second number is below a unit
abbrev pub as_one : ℕ → ℕ × ℕ → ℕ
as_one unit pair = pair.0 * unit + pair.1
