-- Records with stamps have one order.
use Rattle.std.proofs.Common.{◌≡◌, ◌<◌, ◌⊎◌, eqb, inl, inr, ℕ, zero, suc, List, [], ◌∷◌, map, Option, refl, arith, ◌∙◌, sym, ap, subst, add-one}
use Rattle.std.specs.List.{Contains}
use Rattle.std.specs.List.Sorted.{IsPermutation, IsStrictlyIncreasing}
use Rattle.std.proofs.lemmas.Bool.{cases_eq, eq-eqb, ne_eqb}
use Rattle.std.proofs.lemmas.List.Sorted.{Contains-permutation, IsPermutation-sym, IsPermutation-trans}
use Rattle.snap_text.specs.declared.fault.TextFault.{TextFault}
use Rattle.snap_format.specs.declared.stamped.Stamped.{Stamped}
use Rattle.snap_text.specs.Fields.{Fields}
use Rattle.snap_format.specs.Stamps.{FirstOf, InOrder, NoneOf, stamped_in}

pub none_and_first : (fault : ℕ → Option TextFault) (n i : ℕ) (f : TextFault) → NoneOf fault n → FirstOf fault n i f → ⊥
none_and_first fault n i f none first = let a = none i first.below in let b = first.here in cc

not_before : (fault : ℕ → Option TextFault) (n i j : ℕ) (f g : TextFault) → FirstOf fault n i f → FirstOf fault n j g → i < j → ⊥
not_before fault n i j f g a b l = let none = b.first i l in let some = a.here in cc

pub one_place : (fault : ℕ → Option TextFault) (n i j : ℕ) (f g : TextFault) → FirstOf fault n i f → FirstOf fault n j g → i ≡ j
one_place fault n i j f g a b = omega (arith, not_before fault n i j f g a b, not_before fault n j i g f b a)

pub one_first : (fault : ℕ → Option TextFault) (n i j : ℕ) (f g : TextFault) → FirstOf fault n i f → FirstOf fault n j g → f ≡ g
one_first fault n i j f g a b =
    let e = one_place fault n i j f g a b in
    let x = a.here in
    let y = b.here in
    cc

-- ---- one sorted list

-- two numbers are compared alike from both sides
pub flips : (x y : ℕ) → eqb x y ≡ eqb y x
flips x y = elim (cases_eq x y) [
  | inl e ↦ eq-eqb x y e ∙ sym (eq-eqb y x (sym e))
  | inr n ↦ ne_eqb x y n ∙ sym (ne_eqb y x (λ e. n (sym e)))
]

abbrev Mem : Stamped → List Stamped → Type 0
Mem x [] = ⊥
Mem x (y ∷ ys) = (x ≡ y) ⊎ Mem x ys

abbrev Rises : (Stamped → ℕ) → List Stamped → Type 0
Rises key [] = Unit {0}
Rises key (x ∷ xs) = ((y : Stamped) → Mem y xs → key x < key y) × Rises key xs

mem_contains : (xs : List Stamped) (x : Stamped) → Mem x xs → Contains xs x
mem_contains [] x m = absurd m
mem_contains (y ∷ ys) x (inl e) = (zero, omega arith, sym e)
mem_contains (y ∷ ys) x (inr m) = let c = mem_contains ys x m in (suc c.0, omega arith, c.2)

contains_mem : (xs : List Stamped) (x : Stamped) → Contains xs x → Mem x xs
contains_mem [] x (k, lt, e) = absurd (omega arith)
contains_mem (y ∷ ys) x (zero, lt, e) = inl (sym e)
contains_mem (y ∷ ys) x (suc k, lt, e) = inr (contains_mem ys x (k, omega arith, e))

rises : (key : Stamped → ℕ) (xs : List Stamped) → IsStrictlyIncreasing (map key xs) → Rises key xs
rises key [] up = tt
rises key (x ∷ []) up = (λ y m. absurd m, tt)
rises key (x ∷ z ∷ zs) up =
    let later = rises key (z ∷ zs) (λ k lt. rw add-one (rw add-one at (up (suc k) (omega arith)))) in
    let here : key x < key z = up 0 (omega arith) in
    (λ y m. above y m here later.0, later)
  where
    above : (y : Stamped) → Mem y (z ∷ zs) → key x < key z → ((y : Stamped) → Mem y zs → key z < key y) → key x < key y
    above y (inl e) l far = subst (λ (w : Stamped). key x < key w) (sym e) l
    above y (inr m) l far = let f = far y m in omega arith

one_list : (key : Stamped → ℕ) (xs ys : List Stamped) → Rises key xs → Rises key ys → ((z : Stamped) → Mem z xs → Mem z ys) → ((z : Stamped) → Mem z ys → Mem z xs) → xs ≡ ys
one_list key [] [] a b f g = refl
one_list key [] (y ∷ ys) a b f g = absurd (g y (inl refl))
one_list key (x ∷ xs) [] a b f g = absurd (f x (inl refl))
one_list key (x ∷ xs) (y ∷ ys) a b f g =
    let e : x ≡ y = head (f x (inl refl)) (g y (inl refl)) in
    let t : xs ≡ ys = one_list key xs ys a.1 b.1 (λ z m. fewer z m e (f z (inr m))) (λ z m. other z m e (g z (inr m))) in
    cc
  where
    head : Mem x (y ∷ ys) → Mem y (x ∷ xs) → x ≡ y
    head (inl e) m = e
    head (inr p) (inl e) = sym e
    head (inr p) (inr q) = let s = b.0 x p in let t = a.0 y q in absurd (omega arith)

    fewer : (z : Stamped) → Mem z xs → x ≡ y → Mem z (y ∷ ys) → Mem z ys
    fewer z m e (inl s) = let l = a.0 z m in let same = ap key (s ∙ sym e) in absurd (omega arith)
    fewer z m e (inr p) = p

    other : (z : Stamped) → Mem z ys → x ≡ y → Mem z (x ∷ xs) → Mem z xs
    other z m e (inl s) = let l = b.0 z m in let same = ap key (s ∙ e) in absurd (omega arith)
    other z m e (inr p) = p

pub one_by_key : (key : Stamped → ℕ) (xs ys : List Stamped) → IsPermutation xs ys → IsStrictlyIncreasing (map key xs) → IsStrictlyIncreasing (map key ys) → xs ≡ ys
one_by_key key xs ys there a b =
    let back = IsPermutation-sym xs ys there in
    one_list key xs ys (rises key xs a) (rises key ys b)
    (λ z m. contains_mem ys z (Contains-permutation xs ys z there (mem_contains xs z m)))
    (λ z m. contains_mem xs z (Contains-permutation ys xs z back (mem_contains ys z m)))

pub one_sort : (rows : List Fields) (xs ys : List Stamped) → InOrder rows xs → InOrder rows ys → xs ≡ ys
one_sort rows xs ys a b =
    one_by_key (λ (x : Stamped). x.at) xs ys (IsPermutation-trans xs (stamped_in rows) ys (IsPermutation-sym (stamped_in rows) xs a.same) b.same) a.rising b.rising
