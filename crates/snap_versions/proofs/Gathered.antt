-- Members and pairs of gathered lists, and pairs of a list in another order.
use Rattle.std.proofs.Common.{◌≡◌, ◌≢◌, ℕ, Bool, false, List, [], ◌∷◌, ◌++◌, eqb, refl, sym, ap, ◌∙◌, subst, inl, inr}
use Rattle.std.specs.List.{flat_map, IsDistinct, AllPairs}
use Rattle.std.specs.List.Sorted.{IsPermutation}
use Rattle.std.proofs.lemmas.Bool.{cases_eq, eq-eqb, ne_eqb}
use Rattle.std.proofs.lemmas.List.Concat.{flat_map-cons}
use Rattle.std.proofs.lemmas.List.Sorted.{Contains-permutation}
use Rattle.std.proofs.lemmas.Map.Keys.{IsDistinct-IsPermutation, IsDistinct-from_apart, apart_from_distinct}
use Rattle.snap_core.proofs.Lists.{In, In-from_Contains, Contains-from_In, In-append_left, In-append_right, In-append_cases, Pairs, Pairs-append, AllPairs-from_Pairs, Pairs-from_AllPairs}

-- where an element was gathered from
pub record Source {X Y : Type 0} (f : X → List Y) (xs : List X) (y : Y) : Type 0 where
  pub it : X
  pub there : In it xs
  pub among : In y (f it)

pub In-flat_map : {X Y : Type 0} (f : X → List Y) (xs : List X) (x : X) (y : Y) → In x xs → In y (f x) → In y (flat_map f xs)
In-flat_map f [] x y i j = absurd i
In-flat_map {X} {Y} f (z ∷ xs) x y (inl e) j = subst (λ (ys : List Y). In y ys) (sym (flat_map-cons f z xs)) (In-append_left y (f z) (flat_map f xs) (subst (λ (w : X). In y (f w)) (sym e) j))
In-flat_map {X} {Y} f (z ∷ xs) x y (inr i) j = subst (λ (ys : List Y). In y ys) (sym (flat_map-cons f z xs)) (In-append_right y (f z) (flat_map f xs) (In-flat_map f xs x y i j))

pub In-from_flat_map : {X Y : Type 0} (f : X → List Y) (xs : List X) (y : Y) → In y (flat_map f xs) → Source f xs y
In-from_flat_map f [] y i = absurd i
In-from_flat_map {X} {Y} f (z ∷ xs) y i = elim (In-append_cases y (f z) (flat_map f xs) (subst (λ (ys : List Y). In y ys) (flat_map-cons f z xs) i)) [
  | inl j ↦ record { it = z; there = inl refl; among = j }
  | inr j ↦ let s = In-from_flat_map f xs y j in record { it = s.it; there = inr s.there; among = s.among }
]

-- two functions that agree on a list gather the same
pub flat_map_agree : {X Y : Type 0} (f g : X → List Y) (xs : List X) → ((x : X) → In x xs → f x ≡ g x) → flat_map f xs ≡ flat_map g xs
flat_map_agree f g [] h = refl
flat_map_agree f g (x ∷ xs) h =
    flat_map-cons f x xs ∙ ap (λ z. z ++ flat_map f xs) (h x (inl refl)) ∙ ap (λ z. g x ++ z) (flat_map_agree f g xs (λ y i. h y (inr i))) ∙ sym (flat_map-cons g x xs)

-- pairs within what each gives, and pairs across
pub Pairs-flat_map : {X Y : Type 0} (R : Y → Y → Type 0) (f : X → List Y) (xs : List X) → ((x : X) → In x xs → Pairs R (f x)) →
    Pairs (λ a b. (x y : Y) → In x (f a) → In y (f b) → R x y) xs → Pairs R (flat_map f xs)
Pairs-flat_map R f [] within across = tt
Pairs-flat_map {X} {Y} R f (z ∷ xs) within across =
    subst (Pairs R) (sym (flat_map-cons f z xs))
    (Pairs-append R (f z) (flat_map f xs) (within z (inl refl)) (Pairs-flat_map R f xs (λ x i. within x (inr i)) across.1)
    (λ x y i j. let s = In-from_flat_map f xs y j in across.0 s.it s.there x y i s.among))

-- a relation that a test with no order decides holds of the pairs of a list in another order
pub Pairs-permutation : {X : Type 0} (e : X → X → Bool) → ((x y : X) → e x y ≡ e y x) → (R : X → X → Type 0) → ((x y : X) → R x y → e x y ≡ false) → ((x y : X) → e x y ≡ false → R x y) →
    (xs ys : List X) → IsPermutation xs ys → Pairs R xs → Pairs R ys
Pairs-permutation {X} e flips R to from xs ys p h = Pairs-from_AllPairs R ys (λ i j d l m. from _ _ (apart_from_distinct e ys i j d distinct l m))
  where
    given : AllPairs R xs
    given = AllPairs-from_Pairs R xs h

    distinct : IsDistinct e ys
    distinct = IsDistinct-IsPermutation e flips xs ys p (IsDistinct-from_apart e xs (λ i j d l m. to _ _ (given i j d l m)))

pub In-permutation : {X : Type 0} (xs ys : List X) (x : X) → IsPermutation xs ys → In x xs → In x ys
In-permutation xs ys x p i = In-from_Contains ys x (Contains-permutation xs ys x p (Contains-from_In xs x i))

pub eqb_flips : (x y : ℕ) → eqb x y ≡ eqb y x
eqb_flips x y = elim (cases_eq x y) [
  | inl e ↦ eq-eqb x y e ∙ sym (eq-eqb y x (sym e))
  | inr n ↦ ne_eqb x y n ∙ sym (ne_eqb y x (λ e. n (sym e)))
]

-- elements with numbers of their own are known by them
pub known_by : {X : Type 0} (f : X → ℕ) (xs : List X) → Pairs (λ a b. f a ≢ f b) xs → (x y : X) → In x xs → In y xs → f x ≡ f y → x ≡ y
known_by f [] h x y i j e = absurd i
known_by f (z ∷ xs) h x y (inl a) (inl b) e = sym a ∙ b
known_by f (z ∷ xs) h x y (inl a) (inr j) e = absurd (h.0 y j (ap f a ∙ e))
known_by f (z ∷ xs) h x y (inr i) (inl b) e = absurd (h.0 x i (ap f b ∙ sym e))
known_by f (z ∷ xs) h x y (inr i) (inr j) e = known_by f xs h.1 x y i j e
