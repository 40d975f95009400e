-- Members and pairs of what a function makes of a list, and what is found in a list.
use Rattle.std.proofs.Common.{◌≡◌, ℕ, Bool, true, false, cond, List, [], ◌∷◌, map, slice_get, Some, refl, sym, ap, ◌∙◌, subst, inl, inr}
use Rattle.std.specs.Prelude.{find}
use Rattle.std.proofs.lemmas.Option.{slice_get_within, get_or_from_slice_get}
use Rattle.snap_core.proofs.Lists.{In, In-get_or, Pairs}

pub In-map : {X Y : Type 0} (f : X → Y) (xs : List X) (x : X) → In x xs → In (f x) (map f xs)
In-map f [] x i = absurd i
In-map f (y ∷ xs) x (inl e) = inl (ap f e)
In-map f (y ∷ xs) x (inr i) = inr (In-map f xs x i)

-- an element of a list and its image
pub record Origin {X Y : Type 0} (f : X → Y) (xs : List X) (y : Y) : Type 0 where
  pub it : X
  pub there : In it xs
  pub is : f it ≡ y

pub In-from_map : {X Y : Type 0} (f : X → Y) (xs : List X) (y : Y) → In y (map f xs) → Origin f xs y
In-from_map f [] y i = absurd i
In-from_map f (x ∷ xs) y (inl e) = record { it = x; there = inl refl; is = e }
In-from_map f (x ∷ xs) y (inr i) = let o = In-from_map f xs y i in record { it = o.it; there = inr o.there; is = o.is }

pub Pairs-map : {X Y : Type 0} (R : Y → Y → Type 0) (f : X → Y) (xs : List X) → Pairs (λ a b. R (f a) (f b)) xs → Pairs R (map f xs)
Pairs-map R f [] p = tt
Pairs-map R f (x ∷ xs) p = (λ y i. let o = In-from_map f xs y i in subst (R (f x)) o.is (p.0 o.it o.there), Pairs-map R f xs p.1)

pub Pairs-from_map : {X Y : Type 0} (R : Y → Y → Type 0) (f : X → Y) (xs : List X) → Pairs R (map f xs) → Pairs (λ a b. R (f a) (f b)) xs
Pairs-from_map R f [] p = tt
Pairs-from_map R f (x ∷ xs) p = (λ y i. p.0 (f y) (In-map f xs y i), Pairs-from_map R f xs p.1)

-- what is found is there, and passes
pub In-find : {X : Type 0} (p : X → Bool) (xs : List X) (x : X) → find p xs ≡ Some x → In x xs × (p x ≡ true)
In-find p [] x h = absurd (cc h)
In-find {X} p (y ∷ ys) x h = go (p y) refl h (In-find p ys x)
  where
    go : (b : Bool) → p y ≡ b → cond b (Some y) (find p ys) ≡ Some x → (find p ys ≡ Some x → In x ys × (p x ≡ true)) → In x (y ∷ ys) × (p x ≡ true)
    go true t g rest = let same : y ≡ x = cc in (inl same, ap p (sym same) ∙ t)
    go false t g rest = let r = rest g in (inr r.0, r.1)

pub In-slice_get : {X : Type 0} (xs : List X) (i : ℕ) (x : X) → slice_get xs i ≡ Some x → In x xs
In-slice_get xs i x h = subst (λ z. In z xs) (get_or_from_slice_get xs i x x h) (In-get_or xs i x (slice_get_within xs i x h))
