-- What a function makes of a list, tested, counted and gathered.
use Rattle.std.proofs.Common.{◌≡◌, ℕ, ◌+◌, Bool, true, false, cond, ◌||◌, List, [], ◌∷◌, ◌++◌, map, refl, sym, ap, ◌∙◌}
use Rattle.std.specs.List.{count_by, filter, flat_map, list_any, sum_by}
use Rattle.std.proofs.Math.Path.{fun_ext}
use Rattle.std.proofs.lemmas.List.{map-append}
use Rattle.std.proofs.lemmas.List.Concat.{flat_map-cons}
use Rattle.std.proofs.lemmas.List.Sums.{sum_by-cons}

pub any-map : {X Y : Type 0} (p : Y → Bool) (f : X → Y) (xs : List X) → list_any p (map f xs) ≡ list_any (λ x. p (f x)) xs
any-map p f [] = refl
any-map p f (x ∷ xs) = ap (λ b. p (f x) || b) (any-map p f xs)

pub sum-map : {X Y : Type 0} (g : Y → ℕ) (f : X → Y) (xs : List X) → sum_by g (map f xs) ≡ sum_by (λ x. g (f x)) xs
sum-map g f [] = refl
sum-map g f (x ∷ xs) = sum_by-cons g (f x) (map f xs) ∙ ap (λ n. g (f x) + n) (sum-map g f xs) ∙ sym (sum_by-cons (λ y. g (f y)) x xs)

pub count-map : {X Y : Type 0} (p : Y → Bool) (f : X → Y) (xs : List X) → count_by p (map f xs) ≡ count_by (λ x. p (f x)) xs
count-map p f xs = sum-map (λ y. cond (p y) 1 0) f xs

pub filter-map : {X Y : Type 0} (p : Y → Bool) (f : X → Y) (xs : List X) → filter p (map f xs) ≡ map f (filter (λ x. p (f x)) xs)
filter-map p f [] = refl
filter-map {X} p f (x ∷ xs) = go (p (f x)) (filter-map p f xs)
  where
    go : (b : Bool) → filter p (map f xs) ≡ map f (filter (λ y. p (f y)) xs) → cond b (f x ∷ filter p (map f xs)) (filter p (map f xs)) ≡ map f (cond b (x ∷ filter (λ y. p (f y)) xs) (filter (λ y. p (f y)) xs))
    go true h = ap (λ z. f x ∷ z) h
    go false h = h

pub filter_alike : {X : Type 0} (p q : X → Bool) (xs : List X) → ((x : X) → p x ≡ q x) → filter p xs ≡ filter q xs
filter_alike p q xs h = ap (λ t. filter t xs) (fun_ext h)

pub map-map : {X Y Z : Type 0} (g : Y → Z) (f : X → Y) (xs : List X) → map g (map f xs) ≡ map (λ x. g (f x)) xs
map-map g f [] = refl
map-map g f (x ∷ xs) = ap (λ z. g (f x) ∷ z) (map-map g f xs)

-- what is gathered from the images is the image of what is gathered
pub gathered : {X Y A B : Type 0} (f : X → Y) (g : A → B) (h : X → List A) (k : Y → List B) → ((x : X) → k (f x) ≡ map g (h x)) → (xs : List X) → flat_map k (map f xs) ≡ map g (flat_map h xs)
gathered f g h k e [] = refl
gathered f g h k e (x ∷ xs) =
    flat_map-cons k (f x) (map f xs) ∙ ap (λ z. z ++ flat_map k (map f xs)) (e x) ∙ ap (λ z. map g (h x) ++ z) (gathered f g h k e xs)
    ∙ sym (map-append g (h x) (flat_map h xs)) ∙ ap (map g) (sym (flat_map-cons h x xs))

pub gathered_here : {X A B : Type 0} (g : A → B) (h : X → List A) (k : X → List B) → ((x : X) → k x ≡ map g (h x)) → (xs : List X) → flat_map k xs ≡ map g (flat_map h xs)
gathered_here g h k e [] = refl
gathered_here g h k e (x ∷ xs) =
    flat_map-cons k x xs ∙ ap (λ z. z ++ flat_map k xs) (e x) ∙ ap (λ z. map g (h x) ++ z) (gathered_here g h k e xs)
    ∙ sym (map-append g (h x) (flat_map h xs)) ∙ ap (map g) (sym (flat_map-cons h x xs))
