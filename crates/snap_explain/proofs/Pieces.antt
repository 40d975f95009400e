-- Texts that are put together piece by piece.
use Rattle.std.proofs.Common.{◌≡◌, ◌++◌, List, append_assoc, refl}

pub three_pieces : {A : Type 0} (out a b c : List A) → out ++ a ++ b ++ c ≡ out ++ (a ++ b ++ c)
three_pieces out a b c = simp append_assoc

pub four_pieces : {A : Type 0} (out a b c d : List A) → out ++ a ++ b ++ c ++ d ≡ out ++ (a ++ b ++ c ++ d)
four_pieces out a b c d = simp append_assoc

pub five_pieces : {A : Type 0} (out a b c d e : List A) → out ++ a ++ b ++ c ++ d ++ e ≡ out ++ (a ++ b ++ c ++ d ++ e)
five_pieces out a b c d e = simp append_assoc

-- each of five pieces is added to what was there before it
pub five_in_turn : {A : Type 0} (a b c d e one two three four five : List A) → one ≡ a → two ≡ one ++ b → three ≡ two ++ c → four ≡ three ++ d → five ≡ four ++ e → five ≡ a ++ b ++ c ++ d ++ e
five_in_turn a b c d e one two three four five h i j k l = rw (l, k, j, i, h) refl

pub six_pieces : {A : Type 0} (out a b c d e f : List A) → out ++ a ++ b ++ c ++ d ++ e ++ f ≡ out ++ (a ++ b ++ c ++ d ++ e ++ f)
six_pieces out a b c d e f = simp append_assoc

pub seven_pieces : {A : Type 0} (out a b c d e f g : List A) → out ++ a ++ b ++ c ++ d ++ e ++ f ++ g ≡ out ++ (a ++ b ++ c ++ d ++ e ++ f ++ g)
seven_pieces out a b c d e f g = simp append_assoc
