-- Counts over lists, and the greatest number of a list.
use Rattle.std.proofs.Common.{Less, Equal, Greater, is_lt, nat_cmp, drop, ◌++◌, append-nil, ◌≡◌, ◌≤◌, ◌<◌, ◌+◌, ℕ, zero, suc, Bool, true, false, cond, not, ◌&&◌, ◌||◌, List, [], ◌∷◌, length, get_or, map, filter, take, count_by, refl, sym, ap, ◌∙◌, arith, max, inl, inr}
use Rattle.std.specs.Prelude.{nat_le, nat_lt, ◌==◌}
use Rattle.std.specs.Ordering.{ord_max}
use Rattle.std.proofs.lemmas.List.Sums.{fold_more}
use Rattle.std.specs.List.{list_any, sum_by, fold}
use Rattle.std.specs.List.Sorted.{IsPartitionPoint, IsPermutation}
use Rattle.std.proofs.lemmas.Bool.{le-leb, lt-leb, lt-ltb, ltb-false, ltb-true}
use Rattle.std.proofs.lemmas.List.{drop_all, take_all}
use Rattle.std.proofs.lemmas.List.Folds.{fold-map}
use Rattle.std.proofs.lemmas.List.Sorted.{sum_by-IsPermutation}
use Rattle.snap_core.proofs.Lists.{In, count-cons}
use Rattle.snap_stats.specs.Overlaps.{greatest}

pub count-map : {X Y : Type 0} (p : Y → Bool) (f : X → Y) (xs : List X) → count_by p (map f xs) ≡ count_by (λ x. p (f x)) xs
count-map p f xs = fold-map (λ n y. n + cond (p y) 1 0) f 0 xs

pub count_same : {X : Type 0} (p q : X → Bool) (xs : List X) → ((x : X) → In x xs → p x ≡ q x) → count_by p xs ≡ count_by q xs
count_same p q [] h = refl
count_same p q (x ∷ xs) h =
    let one : cond (p x) 1 0 ≡ cond (q x) 1 0 = ap {B = ℕ} (λ b. cond b 1 0) (h x (inl refl)) in
    omega (arith, count-cons p x xs, count-cons q x xs, one, count_same p q xs (λ y i. h y (inr i)))

pub count_moved : {X : Type 0} (p : X → Bool) (xs ys : List X) → IsPermutation xs ys → count_by p ys ≡ count_by p xs
count_moved p xs ys h = sum_by-IsPermutation (λ x. cond (p x) 1 0) xs ys h

-- what a search for the end of a front counts
pub point_count : {X : Type 0} (p : X → Bool) (xs : List X) (i : ℕ) → i ≤ length xs → IsPartitionPoint (λ y. p y ≡ true) (λ y. p y ≡ false) xs i → i ≡ count_by p xs
point_count p [] i l h = omega arith
point_count p (x ∷ xs) zero l h =
    let one : cond (p x) 1 0 ≡ 0 = ap {B = ℕ} (λ b. cond b 1 0) (h.1 0 x (omega arith) (omega arith)) in
    omega (arith, count-cons p x xs, one, point_count p xs zero (omega arith) (λ k d a b. absurd (omega (arith, b)), λ k d a b. h.1 (suc k) d (omega arith) (omega (arith, b))))
point_count p (x ∷ xs) (suc i) l h =
    let one : cond (p x) 1 0 ≡ 1 = ap {B = ℕ} (λ b. cond b 1 0) (h.0 0 x (omega arith) (omega arith)) in
    omega (arith, count-cons p x xs, one, point_count p xs i (omega (arith, l)) (λ k d a b. h.0 (suc k) d (omega arith) (omega (arith, b)), λ k d a b. h.1 (suc k) d (omega (arith, a)) (omega (arith, b))))

pub any_count : {X : Type 0} (p : X → Bool) (xs : List X) → list_any p xs ≡ nat_lt 0 (count_by p xs)
any_count p [] = refl
any_count p (x ∷ xs) = go (p x) refl (any_count p xs)
  where
    go : (b : Bool) → p x ≡ b → list_any p xs ≡ nat_lt 0 (count_by p xs) → (p x || list_any p xs) ≡ nat_lt 0 (count_by p (x ∷ xs))
    go true e rest =
        let one : cond (p x) 1 0 ≡ 1 = ap {B = ℕ} (λ b. cond b 1 0) e in
        ap (λ b. b || list_any p xs) e ∙ sym (lt-ltb 0 (count_by p (x ∷ xs)) (omega (arith, count-cons p x xs, one)))
    go false e rest =
        let none : cond (p x) 1 0 ≡ 0 = ap {B = ℕ} (λ b. cond b 1 0) e in
        let same : count_by p xs ≡ count_by p (x ∷ xs) = omega (arith, count-cons p x xs, none) in
        ap (λ b. b || list_any p xs) e ∙ rest ∙ ap (λ n. nat_lt 0 n) same

pub filter_all : {X : Type 0} (p : X → Bool) (xs : List X) → ((x : X) → p x ≡ true) → filter p xs ≡ xs
filter_all p [] h = refl
filter_all p (x ∷ xs) h = ap (λ b. cond b (x ∷ filter p xs) (filter p xs)) (h x) ∙ ap (λ z. x ∷ z) (filter_all p xs h)

pub greatest-map : {X Y : Type 0} (size : Y → ℕ) (f : X → Y) (xs : List X) → greatest size (map f xs) ≡ greatest (λ x. size (f x)) xs
greatest-map size f xs = fold-map (λ most y. max most (size y)) f 0 xs

greatest_from : {X : Type 0} (f g : X → ℕ) (least : ℕ) (xs : List X) → ((x : X) → f x ≡ g x) → fold (λ most x. max most (f x)) least xs ≡ fold (λ most x. max most (g x)) least xs
greatest_from f g least [] h = refl
greatest_from f g least (x ∷ xs) h = ap (λ n. fold (λ most y. max most (f y)) (max least n) xs) (h x) ∙ greatest_from f g (max least (g x)) xs h

pub greatest_same : {X : Type 0} (f g : X → ℕ) (xs : List X) → ((x : X) → f x ≡ g x) → greatest f xs ≡ greatest g xs
greatest_same f g xs h = greatest_from f g 0 xs h

pub count_all : {X : Type 0} (xs : List X) → length xs ≡ count_by (λ x. true) xs
count_all [] = refl
count_all (x ∷ xs) = omega (arith, count-cons (λ y. true) x xs, count_all xs)

pub le_not : (x e : ℕ) → nat_le x e ≡ not (nat_lt e x)
le_not x e = go (nat_lt e x) refl
  where
    go : (b : Bool) → nat_lt e x ≡ b → nat_le x e ≡ not (nat_lt e x)
    go true h = lt-leb x e (ltb-true e x h) ∙ ap not (sym h)
    go false h = le-leb x e (ltb-false e x h) ∙ ap not (sym h)

-- a whole slice that is lent comes back as it was written
pub whole_back : {X : Type 0} (len : ℕ) (items new : List X) → len ≡ length items → length new ≡ length items → take len (new ++ drop (length new) items) ≡ new
whole_back len items new l n =
    ap (λ z. take len (new ++ z)) (drop_all (length new) items (omega (arith, n))) ∙ ap (take len) (append-nil new) ∙ take_all len new (omega (arith, l, n))

max_is : (a b : ℕ) → ord_max nat_cmp a b ≡ max a b
max_is a b = go (nat_lt b a) refl (b == a)
  where
    go : (t : Bool) → nat_lt b a ≡ t → (e : Bool) → ord_max nat_cmp a b ≡ max a b
    go true h e = ap {B = ℕ} (λ t. cond (is_lt (cond t Less (cond (b == a) Equal Greater))) a b) h ∙ (let l = ltb-true b a h in omega (arith, l))
    go false h e = ap {B = ℕ} (λ t. cond (is_lt (cond t Less (cond (b == a) Equal Greater))) a b) h ∙ neither (b == a) ∙ (let l = ltb-false b a h in omega (arith, l))
      where
        neither : (e : Bool) → cond (is_lt (cond e Equal Greater)) a b ≡ b
        neither true = refl
        neither false = refl

-- the greatest number, of one element more
pub greatest_more : {X : Type 0} (size : X → ℕ) (xs : List X) (i : ℕ) (d : X) (most one n : ℕ) → i < length xs → one ≡ size (get_or xs i d) → n ≡ ord_max nat_cmp most one → most ≡ greatest size (take i xs) → n ≡ greatest size (take (i + 1) xs)
greatest_more size xs i d most one n l is e so_far =
    e ∙ max_is most one ∙ ap (λ m. max m one) so_far ∙ ap (max (greatest size (take i xs))) is ∙ sym (fold_more (λ m x. max m (size x)) 0 xs i d l)
