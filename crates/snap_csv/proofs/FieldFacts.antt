-- The fields of a record.
use Rattle.std.proofs.Common.{◌≡◌, List, [], ◌∷◌, length, Some, ℕ, arith}
use Rattle.csv.specs.Records.{field_at}

pub four : (fs : List (List ℕ)) (a b c d : List ℕ) → length fs ≡ 4 → Some a ≡ field_at fs 0 → Some b ≡ field_at fs 1 → Some c ≡ field_at fs 2 → Some d ≡ field_at fs 3
    → fs ≡ a ∷ b ∷ c ∷ d ∷ []
unfolding field_at
four [] a b c d len ea eb ec ed = absurd (omega arith)
four (w ∷ []) a b c d len ea eb ec ed = absurd (omega arith)
four (w ∷ x ∷ []) a b c d len ea eb ec ed = absurd (omega arith)
four (w ∷ x ∷ y ∷ []) a b c d len ea eb ec ed = absurd (omega arith)
four (w ∷ x ∷ y ∷ z ∷ []) a b c d len ea eb ec ed = cc
four (w ∷ x ∷ y ∷ z ∷ v ∷ rest) a b c d len ea eb ec ed = absurd (omega arith)

pub five : (fs : List (List ℕ)) (a b c d e : List ℕ) → length fs ≡ 5 → Some a ≡ field_at fs 0 → Some b ≡ field_at fs 1 → Some c ≡ field_at fs 2 → Some d ≡ field_at fs 3 → Some e ≡ field_at fs 4
    → fs ≡ a ∷ b ∷ c ∷ d ∷ e ∷ []
unfolding field_at
five [] a b c d e len ea eb ec ed ee = absurd (omega arith)
five (w ∷ []) a b c d e len ea eb ec ed ee = absurd (omega arith)
five (w ∷ x ∷ []) a b c d e len ea eb ec ed ee = absurd (omega arith)
five (w ∷ x ∷ y ∷ []) a b c d e len ea eb ec ed ee = absurd (omega arith)
five (w ∷ x ∷ y ∷ z ∷ []) a b c d e len ea eb ec ed ee = absurd (omega arith)
five (w ∷ x ∷ y ∷ z ∷ u ∷ []) a b c d e len ea eb ec ed ee = cc
five (w ∷ x ∷ y ∷ z ∷ u ∷ v ∷ rest) a b c d e len ea eb ec ed ee = absurd (omega arith)
