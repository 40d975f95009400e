-- Parts of lists of faults: of two lists that follow one another, and of a list that grows by what a test finds.
use Rattle.std.proofs.Common.{◌≡◌, ℕ, ◌+◌, ◌*◌, ◌<◌, ◌≤◌, Bool, true, false, cond, List, [], ◌∷◌, ◌++◌, take, length, get_or, map, Option, Some, None, refl, sym, ap, ◌∙◌, inl, inr, arith}
use Rattle.std.specs.Prelude.{filter, flat_map, option_map}
use Rattle.std.specs.Bool.{then_some}
use Rattle.std.specs.Option.{option_or}
use Rattle.std.proofs.lemmas.List.{take_more, length-append, length-map}
use Rattle.std.proofs.lemmas.List.Elements.{filter_more}
use Rattle.std.proofs.lemmas.Grind.{flat_map-append}
use Rattle.snap_core.proofs.Lists.{In}
use Rattle.snap_conditions.specs.PartValue.{PartValue}
use Rattle.snap_conditions.specs.Parts.{no_part, part_of, merged_part, noted, found_at}
use Rattle.snap_theory.specs.Faults.{first_of}

pub part_is : {F : Type 0} (p q : PartValue F) → p.count ≡ q.count → p.first ≡ q.first → p ≡ q
part_is {F} p q m n =
    let P : ℕ → Option F → PartValue F = λ c f. record { count = c; first = f } in
    ap (λ c. P c p.first) m ∙ ap (λ f. P q.count f) n

first-append : {X F : Type 0} (f : X → F) (xs ys : List X) → option_map f (first_of (xs ++ ys)) ≡ option_or (option_map f (first_of xs)) (option_map f (first_of ys))
first-append f [] ys = refl
first-append f (x ∷ xs) ys = refl

pub part-append : {X F : Type 0} (f : X → F) (xs ys : List X) → part_of f (xs ++ ys) ≡ merged_part (part_of f xs) (part_of f ys)
part-append f xs ys = part_is (part_of f (xs ++ ys)) (merged_part (part_of f xs) (part_of f ys)) (length-append xs ys) (first-append f xs ys)

first-map : {X Y F : Type 0} (f : Y → F) (g : X → Y) (xs : List X) → option_map f (first_of (map g xs)) ≡ option_map (λ x. f (g x)) (first_of xs)
first-map f g [] = refl
first-map f g (x ∷ xs) = refl

pub part-map : {X Y F : Type 0} (f : Y → F) (g : X → Y) (xs : List X) → part_of f (map g xs) ≡ part_of (λ x. f (g x)) xs
part-map f g xs = part_is (part_of f (map g xs)) (part_of (λ x. f (g x)) xs) (length-map xs g) (first-map f g xs)

noted_by : {X F : Type 0} (f : X → F) (xs : List X) (x : X) (b : Bool) → part_of f (xs ++ cond b (x ∷ []) []) ≡ noted (part_of f xs) (then_some b (f x))
noted_by f xs x true = part-append f xs (x ∷ [])
noted_by f xs x false = part-append f xs [] ∙ part_is (merged_part (part_of f xs) no_part) (part_of f xs) (omega arith) (keeps (option_map f (first_of xs)))
  where
    keeps : {F : Type 0} (o : Option F) → option_or o None ≡ o
    keeps None = refl
    keeps (Some x) = refl

pub note_step : {X F : Type 0} (f : X → F) (p : X → Bool) (xs : List X) (i : ℕ) (d : X) → i < length xs →
    part_of f (filter p (take (i + 1) xs)) ≡ noted (part_of f (filter p (take i xs))) (found_at f p (get_or xs i d))
note_step f p xs i d l = ap (part_of f) (filter_more p xs i d l) ∙ noted_by f (filter p (take i xs)) (get_or xs i d) (p (get_or xs i d))

-- a loop's step that notes what is found at one more element
pub next_noted : {X F : Type 0} (f : X → F) (p : X → Bool) (xs : List X) (i : ℕ) (d : X) → i < length xs → (part next : PartValue F) (found : Option F) →
    part ≡ part_of f (filter p (take i xs)) → next ≡ noted part found → found ≡ found_at f p (get_or xs i d) → next ≡ part_of f (filter p (take (i + 1) xs))
next_noted f p xs i d l part next found h n g = n ∙ ap (λ q. noted q found) h ∙ ap (noted (part_of f (filter p (take i xs)))) g ∙ sym (note_step f p xs i d l)

pub merge_step : {X Y F : Type 0} (f : Y → F) (g : X → List Y) (xs : List X) (i : ℕ) (d : X) → i < length xs →
    part_of f (flat_map g (take (i + 1) xs)) ≡ merged_part (part_of f (flat_map g (take i xs))) (part_of f (g (get_or xs i d)))
merge_step f g xs i d l =
    ap (λ z. part_of f (flat_map g z)) (take_more xs i d l)
    ∙ ap (part_of f) (flat_map-append g (take i xs) (get_or xs i d ∷ []))
    ∙ ap (λ z. part_of f (flat_map g (take i xs) ++ z)) (append_none (g (get_or xs i d)))
    ∙ part-append f (flat_map g (take i xs)) (g (get_or xs i d))
  where
    append_none : {Y : Type 0} (ys : List Y) → ys ++ [] ≡ ys
    append_none [] = refl
    append_none (y ∷ ys) = ap (λ z. y ∷ z) (append_none ys)

-- a flat_map of short lists
pub flat_map_short : {X Y : Type 0} (g : X → List Y) (n : ℕ) (xs : List X) → ((x : X) → In x xs → length (g x) ≤ n) → length (flat_map g xs) ≤ length xs * n
flat_map_short g n [] h = omega arith
flat_map_short g n (x ∷ xs) h = omega (arith, length-append (g x) (flat_map g xs), h x (inl refl), flat_map_short g n xs (λ y i. h y (inr i)))

-- a part with no part after it
pub merged_none : {F : Type 0} (p : PartValue F) → merged_part p no_part ≡ p
merged_none p = part_is (merged_part p no_part) p (omega arith) (keeps p.first)
  where
    keeps : {F : Type 0} (o : Option F) → option_or o None ≡ o
    keeps None = refl
    keeps (Some x) = refl
