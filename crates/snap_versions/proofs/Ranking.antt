-- A version among versions that rise, and its rank.
use Rattle.std.proofs.Common.{◌≡◌, ◌≢◌, ◌≤◌, ◌<◌, ◌+◌, ℕ, suc, true, false, cond, List, length, get_or, count_by, sym, ap, ◌∙◌, arith, Ok, Err, Result, inl, inr, ◌⊎◌}
use Rattle.std.specs.Prelude.{nat_lt, ◌==◌}
use Rattle.std.specs.Result.{is_ok}
use Rattle.std.specs.List.Sorted.{IsNonDecreasing, IsPartitionPoint, IsBinarySearchResult}
use Rattle.std.specs.Ordering.{nat_cmp}
use Rattle.std.proofs.lemmas.Bool.{eq-eqb, ne_eqb, cases_lt, ltb-true, ltb-false}
use Rattle.std.proofs.lemmas.List.{get_or_default}
use Rattle.std.proofs.lemmas.List.Folds.{list_any_none}
use Rattle.std.proofs.lemmas.List.Elements.{Contains-get_or}
use Rattle.std.proofs.lemmas.List.Sorted.{searched}
use Rattle.snap_core.proofs.Lists.{any_from, In-from_Contains}
use Rattle.snap_versions.specs.inside.Versions.{has_version, rank_among}
use Rattle.snap_versions.proofs.Counts.{point_count}

-- a version that is at a place
pub found_at : (versions : List ℕ) (n i : ℕ) → i < length versions → get_or versions i 0 ≡ n → has_version versions n ≡ true
found_at versions n i l e = any_from (λ m. m == n) versions (get_or versions i 0) (In-from_Contains versions _ (Contains-get_or versions i 0 l)) (eq-eqb (get_or versions i 0) n e)

-- a version that is at no place
pub found_nowhere : (versions : List ℕ) (n : ℕ) → ((i : ℕ) → i < length versions → get_or versions i 0 ≢ n) → has_version versions n ≡ false
found_nowhere versions n h = list_any_none (λ m. m == n) versions (λ k d l. ne_eqb (get_or versions k d) n (λ e. h k l (get_or_default versions k 0 d l ∙ e)))

-- what a binary search finds
pub search_finds : (versions : List ℕ) (n : ℕ) (r : Result ℕ ℕ) → IsNonDecreasing versions → IsBinarySearchResult (λ y. nat_cmp y n) versions r → is_ok r ≡ has_version versions n
search_finds versions n (Ok i) up h =
    let f = searched versions n (Ok i) h (λ a b. up a b 0) in
    sym (found_at versions n i f.0 f.1)
search_finds versions n (Err i) up h =
    let f = searched versions n (Err i) h (λ a b. up a b 0) in
    sym (found_nowhere versions n (λ k l e. go k l e (cases_lt k i)))
  where
    go : (k : ℕ) → k < length versions → get_or versions k 0 ≡ n → (k < i) ⊎ (i ≤ k) → ⊥
    go k l e (inl b) = let f = searched versions n (Err i) h (λ a b. up a b 0) in omega (arith, e, f.1 k b)
    go k l e (inr b) = let f = searched versions n (Err i) h (λ a b. up a b 0) in omega (arith, e, f.2 k b l)

-- the rank of a version that stands where a search stops
pub rank_found : (versions : List ℕ) (n i : ℕ) → IsPartitionPoint (λ m. nat_lt m n ≡ true) (λ m. nat_lt m n ≡ false) versions i → i < length versions → get_or versions i 0 ≡ n → rank_among versions n ≡ i + 1
rank_found versions n i point l e =
    ap (λ b. cond b (suc (count_by (λ m. nat_lt m n) versions)) (suc (length versions))) (found_at versions n i l e)
    ∙ omega (arith, point_count (λ m. nat_lt m n) versions i (omega (arith, l)) point)

-- the rank of a version that does not
pub rank_new : (versions : List ℕ) (n i : ℕ) → IsNonDecreasing versions → IsPartitionPoint (λ m. nat_lt m n ≡ true) (λ m. nat_lt m n ≡ false) versions i → (i < length versions → get_or versions i 0 ≢ n) → rank_among versions n ≡ length versions + 1
rank_new versions n i up point other =
    ap (λ b. cond b (suc (count_by (λ m. nat_lt m n) versions)) (suc (length versions))) (found_nowhere versions n (λ k l e. go k l e (cases_lt k i)))
    ∙ omega arith
  where
    go : (k : ℕ) → k < length versions → get_or versions k 0 ≡ n → (k < i) ⊎ (i ≤ k) → ⊥
    go k l e (inl b) = omega (arith, e, ltb-true (get_or versions k 0) n (point.0 k 0 (omega arith) b))
    go k l e (inr b) =
        let here : i < length versions = omega (arith, l, b) in
        other here (omega (arith, e, up i k 0 b l, ltb-false (get_or versions i 0) n (point.1 i 0 (omega arith) here)))
