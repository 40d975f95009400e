-- A table line by line.
use Rattle.std.proofs.Common.{◌≡◌, ◌<◌, ◌+◌, ◌++◌, ℕ, zero, suc, List, [], ◌∷◌, length, take, map, get_or, refl, ap, ◌∙◌, arith, append_assoc, append-nil, codes}
use Rattle.std.specs.List.{flat_map, zip}
use Rattle.std.proofs.lemmas.Grind.{flat_map-append}
use Rattle.std.proofs.lemmas.List.{get_or-map, length-map, take_more}
use Rattle.snap_core.specs.Calls.{Call, call_numbered, nobody}
use Rattle.snap_runs.specs.Mapping.{map_line}

zip_at : {A B : Type 0} (xs : List A) (ys : List B) (i : ℕ) (d : A) (e : B) → i < length xs → i < length ys → get_or (zip xs ys) i (d, e) ≡ (get_or xs i d, get_or ys i e)
zip_at [] ys i d e l m = absurd (omega (arith, l))
zip_at (x ∷ xs) [] i d e l m = absurd (omega (arith, m))
zip_at (x ∷ xs) (y ∷ ys) zero d e l m = refl
zip_at (x ∷ xs) (y ∷ ys) (suc i) d e l m = zip_at xs ys i d e (omega (arith, l)) (omega (arith, m))

zip_long : {A B : Type 0} (xs : List A) (ys : List B) (i : ℕ) → i < length xs → i < length ys → i < length (zip xs ys)
zip_long [] ys i l m = absurd (omega (arith, l))
zip_long (x ∷ xs) [] i l m = absurd (omega (arith, m))
zip_long (x ∷ xs) (y ∷ ys) zero l m = omega arith
zip_long (x ∷ xs) (y ∷ ys) (suc i) l m = let rest = zip_long xs ys i (omega (arith, l)) (omega (arith, m)) in omega (arith, rest)

-- one more line
pub line_more : (mine theirs : List ℕ) (calls others : List Call) (numbers : List ℕ) (i : ℕ) → i < length calls → i < length numbers →
    flat_map (map_line mine theirs) (take (i + 1) (zip calls (map (call_numbered others) numbers)))
    ≡ flat_map (map_line mine theirs) (take i (zip calls (map (call_numbered others) numbers))) ++ map_line mine theirs (call_numbered calls i, call_numbered others (get_or numbers i 0))
line_more mine theirs calls others numbers i l m =
    let sources = map (call_numbered others) numbers in
    let there : i < length sources = omega (arith, m, length-map numbers (call_numbered others)) in
    let pair = zip_at calls sources i nobody nobody l there ∙ ap (λ c. (call_numbered calls i, c)) (get_or-map (call_numbered others) numbers i 0 nobody m) in
    ap (flat_map (map_line mine theirs)) (take_more (zip calls sources) i (nobody, nobody) (zip_long calls sources i l there))
    ∙ flat_map-append (map_line mine theirs) (take i (zip calls sources)) (get_or (zip calls sources) i (nobody, nobody) ∷ [])
    ∙ ap (λ z. flat_map (map_line mine theirs) (take i (zip calls sources)) ++ z) (append-nil (map_line mine theirs (get_or (zip calls sources) i (nobody, nobody))) ∙ ap (map_line mine theirs) pair)

-- all lines
pub lines_all : (calls sources : List Call) (i : ℕ) → length calls ≡ i → take i (zip calls sources) ≡ zip calls sources
lines_all [] sources zero e = refl
lines_all [] sources (suc i) e = absurd (omega (arith, e))
lines_all (c ∷ cs) [] zero e = refl
lines_all (c ∷ cs) [] (suc i) e = refl
lines_all (c ∷ cs) (d ∷ ds) zero e = absurd (omega (arith, e))
lines_all (c ∷ cs) (d ∷ ds) (suc i) e = ap (λ z. (c, d) ∷ z) (lines_all cs ds i (omega (arith, e)))

-- a line from its columns

pub columns_pieces : (out a b c d : List ℕ) → out ++ [] ++ a ++ codes "," ++ b ++ codes "," ++ c ++ codes "," ++ d ≡ out ++ (a ++ codes "," ++ b ++ codes "," ++ c ++ codes "," ++ d)
columns_pieces out a b c d = simp (append_assoc, append-nil)

pub line_pieces : (out mine theirs : List ℕ) → out ++ mine ++ codes "," ++ theirs ++ codes "\n" ≡ out ++ (mine ++ codes "," ++ theirs ++ codes "\n")
line_pieces out mine theirs = simp append_assoc
