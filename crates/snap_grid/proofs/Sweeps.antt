-- What a sweep over the ends of rows has counted.
use Rattle.std.proofs.Common.{◌≡◌, ℕ, zero, suc, ◌+◌, ◌-◌, ◌<◌, ◌≤◌, Bool, true, false, cond, ◌&&◌, List, length, get_or, refl, sym, ap, subst, ◌∙◌, arith}
use Rattle.std.specs.Prelude.{nat_lt, if◌then◌else◌}
use Rattle.std.specs.List.{All, Contains, count_by, range_with_len}
use Rattle.std.specs.List.Sorted.{IsNonDecreasingBy, IsPermutation}
use Rattle.std.proofs.lemmas.Bool.{lt-ltb, le-ltb}
use Rattle.std.proofs.lemmas.List.{get_or_default}
use Rattle.std.proofs.lemmas.List.Elements.{All-from_get_or, All-get_or, Contains-get_or}
use Rattle.std.proofs.lemmas.List.FromFn.{length-range_with_len}
use Rattle.std.proofs.lemmas.List.Sorted.{All-permutation, Contains-permutation}
use Rattle.std.proofs.lemmas.List.Sums.{count_by-le-length, sum_by-append, sum_by-cons}
use Rattle.snap_grid.specs.Columns.{IsOrderedAs, number}
use Rattle.snap_grid.specs.inside.Sweeps.{AreEndsInOrder, HasCounted, Rises, drops_from}
use Rattle.snap_grid.specs.inside.Trees.{IsTree, node_sum, sum_below_place}
use Rattle.snap_grid.proofs.Clashing.{range-append}
use Rattle.snap_grid.proofs.Trees.{one_below}

-- the rows by their ends, after a sort

abbrev is_of_row : List ℕ → ℕ × ℕ → Type 0
is_of_row ends key = (key.1 < length ends) × (key.0 ≡ number ends key.1)

pub in_order : (ends : List ℕ) (keys sorted : List (ℕ × ℕ)) → length keys ≡ length ends → ((i : ℕ) (d : ℕ × ℕ) → i < length ends → get_or keys i d ≡ (number ends i, i)) → IsPermutation keys sorted → length sorted ≡ length keys →
    IsNonDecreasingBy (λ key. key.0) sorted → AreEndsInOrder ends sorted
in_order ends keys sorted size each moved same up = record {
  count = same ∙ size;
  row = λ i d l. (at i d l).0;
  end = λ i d l. (at i d l).1;
  all = λ a l.
      let key : ℕ × ℕ = (number ends a, a) in
      let given = subst (Contains keys) (each a key l) (Contains-get_or keys a key (omega (arith, size, l))) in
      let there = Contains-permutation keys sorted key moved given in
      (there.0, there.1, λ d. ap (λ (k : ℕ × ℕ). k.1) (get_or_default sorted there.0 d key there.1 ∙ there.2));
  order = λ i j d le l. up i j d le l;
}
  where
    given_all : All (is_of_row ends) keys
    given_all = All-from_get_or (is_of_row ends) keys (0, 0) (λ i l. let here = each i (0, 0) (omega (arith, l, size)) in subst (is_of_row ends) (sym here) (omega (arith, l, size), refl))

    at : (i : ℕ) (d : ℕ × ℕ) → i < length sorted → is_of_row ends (get_or sorted i d)
    at i d l = All-get_or (is_of_row ends) sorted i d l (All-permutation (is_of_row ends) keys sorted moved given_all)

-- counts over rows

pub count_same : (p q : ℕ → Bool) (n a : ℕ) → ((i : ℕ) → a ≤ i → i < a + n → p i ≡ q i) → count_by p (range_with_len a n) ≡ count_by q (range_with_len a n)
count_same p q zero a h = refl
count_same p q (suc n) a h =
    omega (
      arith,
      sum_by-cons (λ x. cond (p x) 1 0) a (range_with_len (a + 1) n),
      sum_by-cons (λ x. cond (q x) 1 0) a (range_with_len (a + 1) n),
      ap {B = ℕ} (λ b. cond b 1 0) (h a (omega arith) (omega arith)),
      count_same p q n (a + 1) (λ i l m. h i (omega (arith, l)) (omega (arith, m))),
    )

pub count_none : (p : ℕ → Bool) (n a : ℕ) → ((i : ℕ) → a ≤ i → i < a + n → p i ≡ false) → count_by p (range_with_len a n) ≡ 0
count_none p zero a h = refl
count_none p (suc n) a h =
    omega (arith, sum_by-cons (λ x. cond (p x) 1 0) a (range_with_len (a + 1) n), ap {B = ℕ} (λ b. cond b 1 0) (h a (omega arith) (omega arith)), count_none p n (a + 1) (λ i l m. h i (omega (arith, l)) (omega (arith, m))))

-- nothing is counted in a tree of zeros

no_sum : (nodes : List ℕ) → ((i : ℕ) → get_or nodes i 0 ≡ 0) → (n a : ℕ) → node_sum nodes a n ≡ 0
no_sum nodes h zero a = refl
no_sum nodes h (suc n) a = omega (arith, sum_by-cons (λ i. get_or nodes i 0) a (range_with_len (a + 1) n), h a, no_sum nodes h n (a + 1))

pub counted_none : (size : ℕ) (ranks nodes : List ℕ) (from : ℕ) → from ≡ length ranks → IsTree size nodes → ((i : ℕ) → get_or nodes i 0 ≡ 0) → HasCounted size ranks from nodes
counted_none size ranks nodes from e tree zeros = record {
  tree = tree;
  within = omega (arith, e);
  most = λ i. omega (arith, zeros i);
  counts = λ rank.
      let none : length ranks - from ≡ 0 = omega (arith, e) in
      no_sum nodes zeros rank size ∙ sym (ap (λ z. count_by (λ b. nat_lt (number ranks b) rank) (range_with_len from z)) none);
}

-- one row more is counted
pub counted_more : (size : ℕ) (ranks old new : List ℕ) (from next place : ℕ) → from ≡ next + 1 → place ≡ number ranks next → HasCounted size ranks from old → IsTree size new →
    ((upper : ℕ) → sum_below_place size new upper ≡ sum_below_place size old upper + one_below place upper) → ((i : ℕ) → get_or new i 0 ≤ get_or old i 0 + 1) → HasCounted size ranks next new
counted_more size ranks old new from next place e at h tree raised most = record {
  tree = tree;
  within = omega (arith, e, h.within);
  most = λ i. omega (arith, most i, h.most i, e, h.within);
  counts = λ rank.
      let p : ℕ → Bool = λ b. nat_lt (number ranks b) rank in
      let more : length ranks - next ≡ suc (length ranks - from) = omega (arith, e, h.within) in
      let parts = ap (λ z. count_by p (range_with_len next z)) more ∙ sum_by-cons (λ x. cond (p x) 1 0) next (range_with_len (next + 1) (length ranks - from)) ∙ ap (λ z. cond (p next) 1 0 + count_by p (range_with_len z (length ranks - from))) (sym e) in
      omega (arith, raised rank, h.counts rank, parts, ap (λ z. one_below z rank) at, one (p next));
}
  where
    one : (b : Bool) → (if b then 1 else 0) ≡ cond {A = ℕ} b 1 0
    one true = refl
    one false = refl

-- of the rows that were counted, those of lesser ranks are those to which a row drops
pub swept : (size : ℕ) (numbers ranks begins ends nodes : List ℕ) (from a end : ℕ) → HasCounted size ranks from nodes → IsOrderedAs numbers ranks → length numbers ≡ length begins → a < length begins → end ≡ number ends a →
    ((b : ℕ) → from ≤ b → b < length begins → end < number begins b) → ((b : ℕ) → b < from → number begins b ≤ end) → sum_below_place size nodes (number ranks a) ≡ drops_from numbers begins ends a
swept size numbers ranks begins ends nodes from a end h same rows l e behind before =
    h.counts (number ranks a)
    ∙ ap (λ z. count_by lesser (range_with_len from z)) size_of
    ∙ count_same lesser drops n from (λ b m k. both b m (omega (arith, k, within)))
    ∙ all
  where
    n : ℕ
    n = length begins - from

    lesser : ℕ → Bool
    lesser b = nat_lt (number ranks b) (number ranks a)

    drops : ℕ → Bool
    drops b = nat_lt (number numbers b) (number numbers a) && nat_lt (number ends a) (number begins b)

    size_of : length ranks - from ≡ n
    size_of = omega (arith, same.count, rows)

    within : from ≤ length begins
    within = omega (arith, h.within, same.count, rows)

    whole : length begins ≡ from + n
    whole = omega (arith, within)

    both : (b : ℕ) → from ≤ b → b < length begins → lesser b ≡ drops b
    both b m k =
        same.order b a (omega (arith, k, rows)) (omega (arith, l, rows))
        ∙ with_true (nat_lt (number numbers b) (number numbers a)) (nat_lt (number ends a) (number begins b)) (lt-ltb _ _ (omega (arith, e, behind b m k)))
      where
        with_true : (p q : Bool) → q ≡ true → p ≡ (p && q)
        with_true true q t = sym t
        with_true false q t = refl

    never : (b : ℕ) → b < 0 + from → drops b ≡ false
    never b k = with_false (nat_lt (number numbers b) (number numbers a)) (nat_lt (number ends a) (number begins b)) (le-ltb _ _ (omega (arith, e, before b (omega (arith, k)))))
      where
        with_false : (p q : Bool) → q ≡ false → (p && q) ≡ false
        with_false true q t = t
        with_false false q t = refl

    all : count_by drops (range_with_len from n) ≡ drops_from numbers begins ends a
    all =
        let start : 0 + from ≡ from = omega arith in
        omega (
          arith,
          ap (λ z. count_by drops (range_with_len 0 z)) whole,
          ap (count_by drops) (range-append 0 from n),
          sum_by-append (λ x. cond (drops x) 1 0) (range_with_len 0 from) (range_with_len (0 + from) n),
          ap (λ z. count_by drops (range_with_len z n)) start,
          count_none drops from 0 (λ b m k. never b k),
        )

-- there are no more than rows
pub few_counted : (size : ℕ) (ranks nodes : List ℕ) (from rank : ℕ) → HasCounted size ranks from nodes → sum_below_place size nodes rank ≤ length ranks
few_counted size ranks nodes from rank h =
    omega (arith, h.counts rank, count_by-le-length (λ b. nat_lt (number ranks b) rank) (range_with_len from (length ranks - from)), length-range_with_len from (length ranks - from))

-- begins before one that is not after an end are not after it either
pub none_behind : (begins : List ℕ) (from end : ℕ) → Rises begins → from ≤ length begins → (0 < from → number begins (from - 1) ≤ end) → (b : ℕ) → b < from → number begins b ≤ end
none_behind begins from end rises within last b l = omega (arith, rises b (from - 1) (omega (arith, l)) (omega (arith, l, within)), last (omega (arith, l)))
