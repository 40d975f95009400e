-- Numbers that claims draw from one counter.
use Rattle.std.specs.Prelude.{ℕ, List, [], ◌∷◌}

-- the numbers that each of a seat's claims drew, in the order in which it drew them
abbrev pub Hand : Type 0
Hand = List (List ℕ)

abbrev pub first_of : Hand → List ℕ
first_of [] = []
first_of (x ∷ xs) = x
