-- Lines that are put together.
use Rattle.std.proofs.Common.{◌≡◌, ◌++◌, ◌∙◌, ℕ, List, [], ap, append_assoc, map, sym}
use Rattle.std.specs.List.{flat_map}
use Rattle.std.proofs.lemmas.Grind.{flat_map-append}
use Rattle.std.proofs.lemmas.List.{append-nil}
use Rattle.std.proofs.lemmas.List.Folds.{flat_map-map}

pub three_lines : {A : Type 0} (out a b c : List A) → out ++ a ++ b ++ c ≡ out ++ (a ++ (b ++ (c ++ [])))
three_lines out a b c = simp (append_assoc, append-nil)

pub seven_lines : {A : Type 0} (out a b c d e f g : List A) → out ++ a ++ b ++ c ++ d ++ e ++ f ++ g ≡ out ++ (a ++ (b ++ (c ++ (d ++ (e ++ (f ++ (g ++ [])))))))
seven_lines out a b c d e f g = simp (append_assoc, append-nil)

-- the lines of five parts, of which one is a map
pub all_lines : {L C : Type 0} (text : L → List ℕ) (line : C → L) (a b c : List L) (cs : List C) (e : List L) →
    flat_map text a ++ flat_map text b ++ flat_map text c ++ flat_map (λ x. text (line x)) cs ++ flat_map text e ≡ flat_map text (a ++ b ++ c ++ map line cs ++ e)
all_lines text line a b c cs e =
    ap (λ z. flat_map text a ++ flat_map text b ++ flat_map text c ++ z ++ flat_map text e) (sym (flat_map-map text line cs))
    ∙ ap (λ z. z ++ flat_map text c ++ flat_map text (map line cs) ++ flat_map text e) (sym (flat_map-append text a b))
    ∙ ap (λ z. z ++ flat_map text (map line cs) ++ flat_map text e) (sym (flat_map-append text (a ++ b) c))
    ∙ ap (λ z. z ++ flat_map text e) (sym (flat_map-append text (a ++ b ++ c) (map line cs)))
    ∙ sym (flat_map-append text (a ++ b ++ c ++ map line cs) e)
