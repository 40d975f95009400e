-- The clashes of rows in a single column are their drops.
use Rattle.std.proofs.Common.{◌≡◌, ℕ, ◌+◌, ◌<◌, ◌≤◌, Bool, true, false, cond, ◌&&◌, ◌||◌, ◌-◌, List, [], ◌∷◌, Some, None, take, drop, length, get_or, refl, sym, ap, ◌∙◌, inl, inr, arith}
use Rattle.std.specs.Prelude.{nat_lt, find}
use Rattle.std.specs.Bool.{then_some}
use Rattle.std.specs.List.{count_by, list_any}
use Rattle.std.proofs.lemmas.Bool.{cases_lt, lt-ltb, le-ltb}
use Rattle.std.proofs.lemmas.List.Sums.{sum_by-cons}
use Rattle.snap_grid.specs.Columns.{GridValue, any_passes, clash_count, clashes, drop_count, drops, has_clash, number, passes, rows_of}
use Rattle.snap_grid.specs.inside.Sweeps.{AreDropsOfOne}
use Rattle.snap_grid.proofs.Passing.{row_at, row_count}
use Rattle.snap_grid.proofs.Sweeps.{count_same}

-- whether a row drops to another, by its number alone
abbrev pub falls : List ℕ → List ℕ → List ℕ → ℕ → ℕ → Bool
falls numbers begins ends a b = nat_lt (number numbers b) (number numbers a) && nat_lt (number ends a) (number begins b)

one_passes : (more : Bool) (columns : List (List ℕ)) (a b : ℕ) → length columns ≡ 1 → any_passes more columns a b ≡ passes more (number (get_or columns 0 []) a) (number (get_or columns 0 []) b)
unfolding any_passes
one_passes more [] a b l = absurd (omega (arith, l))
one_passes more (column ∷ []) a b l = or_none (passes more (number column a) (number column b))
  where
    or_none : (p : Bool) → (p || false) ≡ p
    or_none true = refl
    or_none false = refl
one_passes more (column ∷ other ∷ rest) a b l = absurd (omega (arith, l))

pub one_drop : (g : GridValue) (a b : ℕ) → length g.columns ≡ 1 → drops g a b ≡ falls (get_or g.columns 0 []) g.begins g.ends a b
unfolding drops
one_drop g a b l = ap (λ p. p && nat_lt (number g.ends a) (number g.begins b)) (one_passes true g.columns a b l)

pub one_clash : (g : GridValue) (a b : ℕ) → length g.columns ≡ 1 → clashes g a b ≡ falls (get_or g.columns 0 []) g.begins g.ends a b
unfolding clashes
one_clash g a b l =
    (λ i. one_passes true g.columns a b l i && (nat_lt (number g.ends a) (number g.begins b) || one_passes false g.columns a b l i))
    ∙ one_way (number (get_or g.columns 0 []) a) (number (get_or g.columns 0 []) b) (nat_lt (number g.ends a) (number g.begins b))
  where
    or_false : (p : Bool) → (p || false) ≡ p
    or_false true = refl
    or_false false = refl

    one_way : (n x : ℕ) (before : Bool) → (nat_lt x n && (before || nat_lt n x)) ≡ (nat_lt x n && before)
    one_way n x before = elim (cases_lt x n) [
      | inl under ↦ ap (λ z. nat_lt x n && (before || z)) (le-ltb n x (omega (arith, under))) ∙ ap (λ z. nat_lt x n && z) (or_false before)
      | inr above ↦ ap (λ z. z && (before || nat_lt n x)) (le-ltb x n above) ∙ ap (λ z. z && before) (sym (le-ltb x n above))
    ]

-- some element passes a test exactly where the count of those is not 0
any_counted : (p : ℕ → Bool) (xs : List ℕ) → list_any p xs ≡ nat_lt 0 (count_by p xs)
any_counted p [] = refl
any_counted p (x ∷ xs) = at (p x) refl (any_counted p xs)
  where
    at : (b : Bool) → p x ≡ b → list_any p xs ≡ nat_lt 0 (count_by p xs) → list_any p (x ∷ xs) ≡ nat_lt 0 (count_by p (x ∷ xs))
    at true t rest = ap (λ b. b || list_any p xs) t ∙ sym (lt-ltb 0 (count_by p (x ∷ xs)) (omega (arith, sum_by-cons (λ y. cond (p y) 1 0) x xs, ap {B = ℕ} (λ b. cond b 1 0) t)))
    at false t rest = ap (λ b. b || list_any p xs) t ∙ rest ∙ ap (nat_lt 0) (omega (arith, sum_by-cons (λ y. cond (p y) 1 0) x xs, ap {B = ℕ} (λ b. cond b 1 0) t))

pub drop_counted : (g : GridValue) (counts : List ℕ) → AreDropsOfOne g.columns g.begins g.ends counts → (a : ℕ) → a < length g.begins → drop_count g a ≡ number counts a
unfolding drop_count
drop_counted g counts h a l = count_same (drops g a) (falls (get_or g.columns 0 []) g.begins g.ends a) (length g.begins) 0 (λ b m k. one_drop g a b h.one) ∙ sym (h.drops.each a l)

pub clash_counted : (g : GridValue) (counts : List ℕ) → AreDropsOfOne g.columns g.begins g.ends counts → (a : ℕ) → a < length g.begins → clash_count g a ≡ number counts a
unfolding clash_count
clash_counted g counts h a l = count_same (clashes g a) (falls (get_or g.columns 0 []) g.begins g.ends a) (length g.begins) 0 (λ b m k. one_clash g a b h.one) ∙ sym (h.drops.each a l)

pub clash_found : (g : GridValue) (counts : List ℕ) → AreDropsOfOne g.columns g.begins g.ends counts → (a : ℕ) → a < length g.begins → has_clash g a ≡ nat_lt 0 (number counts a)
unfolding has_clash clash_count
clash_found g counts h a l = any_counted (clashes g a) (rows_of g) ∙ ap (nat_lt 0) (clash_counted g counts h a l)

-- what stands in a slice, of a copy
pub slice_at : (counts copy : List ℕ) → copy ≡ counts → (from to : ℕ) → from ≤ to → to ≤ length counts →
    (length (take (to - from) (drop from copy)) ≡ to - from) × ((i : ℕ) → i < length (take (to - from) (drop from copy)) → (number (take (to - from) (drop from copy)) i ≡ number counts (from + i)) × (from + i < to))
slice_at counts copy same from to order within = (size, λ i l. (row_at copy from (to - from) i (omega (arith, l, size)) ∙ ap (λ z. number z (from + i)) same, omega (arith, l, size)))
  where
    size : length (take (to - from) (drop from copy)) ≡ to - from
    size = row_count copy from (to - from) (omega (arith, ap (λ (z : List ℕ). length z) same, order, within))

-- the first of one row that passes a test
pub find_one : (p : ℕ → Bool) (x : ℕ) (b : Bool) → p x ≡ b → find p (x ∷ []) ≡ then_some b x
find_one p x true e = ap (λ z. cond z (Some x) None) e
find_one p x false e = ap (λ z. cond z (Some x) None) e
