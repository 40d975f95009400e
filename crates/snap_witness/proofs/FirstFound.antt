-- The first that is found among some.
use Rattle.std.proofs.Common.{◌≡◌, ◌∙◌, ◌<◌, ◌+◌, ℕ, zero, suc, List, [], ◌∷◌, Option, Some, None, ap, arith, get_or, length, take}
use Rattle.std.specs.List.{cons_option, filter_map}
use Rattle.snap_theory.specs.Faults.{first_of}

-- nothing is found at the first places, and something at the next
pub found_next : {K X : Type 0} (find : K → Option X) (ks : List K) (i : ℕ) (d : K) (x : X) → i < length ks → filter_map find (take i ks) ≡ [] → find (get_or ks i d) ≡ Some x → first_of (filter_map find ks) ≡ Some x
found_next find [] i d x l n e = absurd (omega (arith, l))
found_next find (k ∷ ks) zero d x l n e = ap (λ o. first_of (cons_option o (filter_map find ks))) e
found_next {K} {X} find (k ∷ ks) (suc i) d x l n e = go (find k) (λ none. found_next find ks i d x (omega (arith, l)) none e) n
  where
    go : (o : Option X) → (filter_map find (take i ks) ≡ [] → first_of (filter_map find ks) ≡ Some x) → cons_option o (filter_map find (take i ks)) ≡ [] → first_of (cons_option o (filter_map find ks)) ≡ Some x
    go None later n = later n
    go (Some y) later n = absurd (cc n)

-- nothing is found at one place more
pub none_next : {K X : Type 0} (find : K → Option X) (ks : List K) (i : ℕ) (d : K) → i < length ks → filter_map find (take i ks) ≡ [] → find (get_or ks i d) ≡ None → filter_map find (take (i + 1) ks) ≡ []
none_next find [] i d l n e = absurd (omega (arith, l))
none_next find (k ∷ ks) zero d l n e = ap (λ o. cons_option o []) e
none_next {K} {X} find (k ∷ ks) (suc i) d l n e =
    let more : suc i + 1 ≡ suc (i + 1) = omega arith in
    ap (λ m. filter_map find (take m (k ∷ ks))) more ∙ go (find k) (λ none. none_next find ks i d (omega (arith, l)) none e) n
  where
    go : (o : Option X) → (filter_map find (take i ks) ≡ [] → filter_map find (take (i + 1) ks) ≡ []) → cons_option o (filter_map find (take i ks)) ≡ [] → cons_option o (filter_map find (take (i + 1) ks)) ≡ []
    go None later n = later n
    go (Some y) later n = absurd (cc n)
