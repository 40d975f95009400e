-- How many views are stale to others, and what none says.
use Rattle.std.proofs.Common.{◌≡◌, ℕ, ◌+◌, ◌*◌, ◌≤◌, Bool, true, false, cond, ◌&&◌, ◌||◌, List, [], ◌∷◌, ◌++◌, length, map, refl, sym, ap, ◌∙◌, inl, inr, arith}
use Rattle.std.specs.List.{count_by, filter, sum_by}
use Rattle.std.proofs.lemmas.Bool.{false≢true, false_from_ne_true}
use Rattle.std.proofs.lemmas.List.Sums.{count_by-le-length, length-filter, sum_by-append, sum_by-cons}
use Rattle.snap_core.specs.Calls.{Call, precedes, shown_number, views_of}
use Rattle.snap_core.specs.Monotone.{IsMonotone}
use Rattle.snap_core.proofs.Lists.{In}
use Rattle.snap_theory.specs.Faults.{exceeds, is_stale, read_fault, read_faults, stale_count}
use Rattle.snap_theory.specs.FaultLaws.{MonotoneExactly, MonotoneWithoutReadFault}
use Rattle.snap_theory.proofs.Exceeding.{exceeds_not, not_exceeds}
use Rattle.snap_theory.proofs.FaultLists.{from_views, in_views, read_from}

-- sums of which each part is 0, or small

sum_none : {X : Type 0} (f : X → ℕ) (xs : List X) → ((x : X) → In x xs → f x ≡ 0) → sum_by f xs ≡ 0
sum_none f [] h = refl
sum_none f (x ∷ xs) h = omega (arith, sum_by-cons f x xs, h x (inl refl), sum_none f xs (λ y i. h y (inr i)))

none_summed : {X : Type 0} (f : X → ℕ) (xs : List X) → sum_by f xs ≡ 0 → (x : X) → In x xs → f x ≡ 0
none_summed f [] h x i = absurd i
none_summed f (y ∷ xs) h x (inl e) = omega (arith, h, sum_by-cons f y xs, ap f e)
none_summed f (y ∷ xs) h x (inr i) = none_summed f xs (omega (arith, h, sum_by-cons f y xs)) x i

sum_few : {X : Type 0} (f : X → ℕ) (n : ℕ) (xs : List X) → ((x : X) → f x ≤ n) → sum_by f xs ≤ length xs * n
sum_few f n [] h = omega arith
sum_few f n (x ∷ xs) h = omega (arith, sum_by-cons f x xs, h x, sum_few f n xs h)

none_counted : {X : Type 0} (p : X → Bool) (xs : List X) → count_by p xs ≡ 0 → (x : X) → In x xs → p x ≡ false
none_counted p xs h x i = at (p x) refl
  where
    at : (b : Bool) → p x ≡ b → p x ≡ false
    at true t = absurd (omega (arith, none_summed (λ y. cond (p y) 1 0) xs h x i, ap {B = ℕ} (λ b. cond b 1 0) t))
    at false t = t

none_filtered : {X : Type 0} (p : X → Bool) (xs : List X) → length (filter p xs) ≡ 0 → (x : X) → In x xs → p x ≡ false
none_filtered p xs h = none_counted p xs (sym (length-filter p xs) ∙ h)

count_none : {X : Type 0} (p : X → Bool) (xs : List X) → ((x : X) → In x xs → p x ≡ false) → count_by p xs ≡ 0
count_none p xs h = sum_none (λ x. cond (p x) 1 0) xs (λ x i. ap {B = ℕ} (λ b. cond b 1 0) (h x i))

pub stale_joined : (calls rs ss : List Call) → stale_count calls (rs ++ ss) ≡ stale_count calls rs + stale_count calls ss
unfolding stale_count
stale_joined calls rs ss = sum_by-append (λ r. count_by (is_stale r) (views_of calls)) rs ss

pub stale_few : (calls rs : List Call) (n : ℕ) → length (views_of calls) ≤ n → stale_count calls rs ≤ length rs * n
unfolding stale_count
stale_few calls rs n l = sum_few (λ r. count_by (is_stale r) (views_of calls)) n rs (λ r. omega (arith, l, count_by-le-length (is_stale r) (views_of calls)))

pub stale_alone : (calls : List Call) (r : Call) → stale_count calls (r ∷ []) ≡ count_by (is_stale r) (views_of calls)
unfolding stale_count
stale_alone calls r = omega (arith, sum_by-cons (λ r. count_by (is_stale r) (views_of calls)) r [])

-- a view that is stale to another is a read fault with it
pub fresh : (r s : Call) → read_fault r s ≡ false → is_stale r s ≡ false
unfolding is_stale read_fault
fresh r s = at (exceeds r s) (precedes r s) (exceeds s r)
  where
    at : (more before less : Bool) → (more && (before || less)) ≡ false → (more && before) ≡ false
    at true true less h = h
    at true false less h = refl
    at false before less h = refl

-- and so there is none where it has no read fault
pub none_stale_alone : (calls : List Call) (r : Call) → length (read_faults calls (r ∷ [])) ≡ 0 → stale_count calls (r ∷ []) ≡ 0
unfolding read_faults
none_stale_alone calls r h = stale_alone calls r ∙ count_none (is_stale r) (views_of calls) (λ s i. fresh r s (none_filtered (read_fault r) (views_of calls) (few (filter (read_fault r) (views_of calls)) h) s i))
  where
    few : (xs : List Call) → length (map {B = Call × Call} (λ s. (r, s)) xs ++ []) ≡ 0 → length xs ≡ 0
    few [] h = refl
    few (x ∷ xs) h = absurd (omega (arith, h))

pub none_stale : (calls rs : List Call) → ((r s : Call) → In r rs → In s (views_of calls) → read_fault r s ≡ false) → stale_count calls rs ≡ 0
unfolding stale_count
none_stale calls rs h = sum_none _ rs (λ r i. count_none (is_stale r) (views_of calls) (λ s j. fresh r s (h r s i j)))

monotone_from : (calls : List Call) → stale_count calls (views_of calls) ≡ 0 → IsMonotone calls
unfolding is_stale stale_count
monotone_from calls h r s v w before k = exceeds_not r s k (false_from_ne_true (exceeds r s) (λ more. false≢true (sym none ∙ ap (λ b. b && precedes r s) more ∙ before)))
  where
    none : (exceeds r s && precedes r s) ≡ false
    none = none_counted (is_stale r) (views_of calls) (none_summed (λ r. count_by (is_stale r) (views_of calls)) (views_of calls) h r (in_views calls r v)) s (in_views calls s w)

monotone_to : (calls : List Call) → IsMonotone calls → stale_count calls (views_of calls) ≡ 0
unfolding is_stale stale_count
monotone_to calls h = sum_none _ (views_of calls) (λ r i. count_none (is_stale r) (views_of calls) (λ s j.
    at r s (precedes r s) refl (h r s (from_views calls r i) (from_views calls s j))))
  where
    at : (r s : Call) (b : Bool) → precedes r s ≡ b → (precedes r s ≡ true → (k : ℕ) → shown_number r k ≤ shown_number s k) → (exceeds r s && precedes r s) ≡ false
    at r s true t older = ap (λ b. b && precedes r s) (not_exceeds r s (older t))
    at r s false t older = ap (λ b. exceeds r s && b) t ∙ and_false (exceeds r s)
      where
        and_false : (b : Bool) → (b && false) ≡ false
        and_false true = refl
        and_false false = refl

pub monotone_exactly : MonotoneExactly
monotone_exactly calls = (monotone_to calls, monotone_from calls)

pub monotone_without_read_fault : MonotoneWithoutReadFault
monotone_without_read_fault calls h = monotone_from calls (none_stale calls (views_of calls) (λ r s i j. read_from calls h r s (from_views calls r i) (from_views calls s j)))
