-- How clashes are counted, and which rows have one.
use Rattle.std.proofs.Common.{◌≡◌, ℕ, zero, suc, ◌+◌, ◌-◌, ◌*◌, ◌<◌, ◌≤◌, Bool, true, false, cond, ◌&&◌, ◌||◌, List, [], ◌∷◌, ◌++◌, Option, Some, None, take, drop, length, get_or, refl, sym, ap, ◌∙◌, subst, inl, inr, arith}
use Rattle.std.specs.Prelude.{nat_lt, bit_or, bit_and, sum_by, count_by, count_ones, find}
use Rattle.std.specs.List.{list_any, range_with_len}
use Rattle.std.specs.Int.{bit_at}
use Rattle.std.proofs.lemmas.Bool.{cases_lt, false≢true, le-ltb}
use Rattle.std.proofs.lemmas.Nat.Bits.{bit_at-zero}
use Rattle.std.proofs.lemmas.List.{get_or_default}
use Rattle.std.proofs.lemmas.List.Sums.{sum_by-cons, sum_by-append, count_by-le-length}
use Rattle.std.proofs.lemmas.List.Folds.{list_any-append, find-append}
use Rattle.std.specs.Option.{is_some, option_or}
use Rattle.std.proofs.lemmas.List.FromFn.{length-range_with_len}
use Rattle.snap_grid.specs.Columns.{GridValue, number, any_passes, clashes, clash_count, drops, drop_count, has_clash, rows_of}
use Rattle.snap_masks.specs.Masks.{mask_by, mask_below}
use Rattle.snap_grid.specs.inside.Clashes.{AreApart, ClashesWith, pair_count}
use Rattle.snap_masks.proofs.Bits.{bit_by, bit_past, mask_and, mask_from_bits, mask_or, ones_below}
use Rattle.snap_grid.proofs.Passing.{row_at, row_count}
use Rattle.snap_masks.specs.Limits.{row_limit}

-- ranges in two parts
pub range-append : (a m n : ℕ) → range_with_len a (m + n) ≡ range_with_len a m ++ range_with_len (a + m) n
range-append a zero n = (λ i. range_with_len (e i) (f i))
  where
    e : a ≡ a + 0
    e = omega arith

    f : 0 + n ≡ n
    f = omega arith
range-append a (suc m) n =
    let e : suc m + n ≡ suc (m + n) = omega arith in
    let f : a + 1 + m ≡ a + suc m = omega arith in
    ap (range_with_len a) e ∙ ap (λ z. a ∷ z) (range-append (a + 1) m n) ∙ ap (λ z. a ∷ range_with_len (a + 1) m ++ range_with_len z n) f

pub sum_more : (f : ℕ → ℕ) (a n : ℕ) → sum_by f (range_with_len a (n + 1)) ≡ sum_by f (range_with_len a n) + f (a + n)
sum_more f a n = ap (sum_by f) (range-append a n 1) ∙ sum_by-append f (range_with_len a n) (range_with_len (a + n) 1) ∙ omega (arith, sum_by-cons f (a + n) [])

pub any_more : (p : ℕ → Bool) (a n : ℕ) → list_any p (range_with_len a (n + 1)) ≡ (list_any p (range_with_len a n) || p (a + n))
any_more p a n = ap (list_any p) (range-append a n 1) ∙ list_any-append p (range_with_len a n) (range_with_len (a + n) 1) ∙ ap (λ b. list_any p (range_with_len a n) || b) (or_none (p (a + n)))
  where
    or_none : (b : Bool) → (b || false) ≡ b
    or_none true = refl
    or_none false = refl

-- the mask of the rows that end before one begins
before_below : (g : GridValue) (from n s before : ℕ) → before ≡ mask_by (λ x. nat_lt x (number g.begins s)) (take n (drop from g.ends)) → from + n ≤ length g.ends →
    before ≡ mask_below (λ a. nat_lt (number g.ends (from + a)) (number g.begins s)) n
before_below g from n s before h l = mask_from_bits (λ a. nat_lt (number g.ends (from + a)) (number g.begins s)) n before
    (λ a k. ap (λ z. bit_at z a) h ∙ bit_by (λ x. nat_lt x (number g.begins s)) (take n (drop from g.ends)) a (omega (arith, k, size)) ∙ ap {B = ℕ} (λ z. cond (nat_lt z (number g.begins s)) 1 0) (row_at g.ends from n a k))
    (λ a k. ap (λ z. bit_at z a) h ∙ bit_past (λ x. nat_lt x (number g.begins s)) (take n (drop from g.ends)) a (omega (arith, k, size)))
  where
    size : length (take n (drop from g.ends)) ≡ n
    size = row_count g.ends from n l

-- the mask of the rows that clash with one
pub lane : (g : GridValue) (from n s more less before : ℕ) → more ≡ mask_below (λ a. any_passes true g.columns (from + a) s) n → less ≡ mask_below (λ a. any_passes false g.columns (from + a) s) n →
    before ≡ mask_by (λ x. nat_lt x (number g.begins s)) (take n (drop from g.ends)) → from + n ≤ length g.ends → bit_and more (bit_or less before) ≡ mask_below (λ a. clashes g (from + a) s) n
unfolding clashes
lane g from n s more less before e f h l =
    let greater : ℕ → Bool = λ a. any_passes true g.columns (from + a) s in
    let lesser : ℕ → Bool = λ a. any_passes false g.columns (from + a) s in
    let ended : ℕ → Bool = λ a. nat_lt (number g.ends (from + a)) (number g.begins s) in
    (λ i. bit_and (e i) (bit_or (f i) (before_below g from n s before h l i)))
    ∙ ap (bit_and (mask_below greater n)) (mask_or n lesser ended (λ a. ended a || lesser a) (λ a. either (ended a) (lesser a)))
    ∙ mask_and n greater (λ a. ended a || lesser a) (λ a. clashes g (from + a) s) (λ a. refl)
  where
    either : (p q : Bool) → (p || q) ≡ (q || p)
    either true true = refl
    either true false = refl
    either false true = refl
    either false false = refl

-- the mask of the rows that drop to one
pub drop_lane : (g : GridValue) (from n s more before : ℕ) → more ≡ mask_below (λ a. any_passes true g.columns (from + a) s) n →
    before ≡ mask_by (λ x. nat_lt x (number g.begins s)) (take n (drop from g.ends)) → from + n ≤ length g.ends → bit_and more before ≡ mask_below (λ a. drops g (from + a) s) n
unfolding drops
drop_lane g from n s more before e h l =
    (λ i. bit_and (e i) (before_below g from n s before h l i))
    ∙ mask_and n (λ a. any_passes true g.columns (from + a) s) (λ a. nat_lt (number g.ends (from + a)) (number g.begins s)) (λ a. drops g (from + a) s) (λ a. refl)

-- how many pairs pass a test: against one row more, and against two ranges of rows that adjoin

pair_more : (p : ℕ → ℕ → Bool) (from n first m count mask new : ℕ) → mask ≡ mask_below (λ a. p (from + a) (first + m)) n → new ≡ count + count_ones mask → count ≡ pair_count p from n first m → new ≡ pair_count p from n first (m + 1)
pair_more p from n first m count mask new e c h =
    omega (arith, c, h, ap count_ones e, ones_below (λ a. p (from + a) (first + m)) n, sum_more (λ b. count_by (λ a. p (from + a) b) (range_with_len 0 n)) first m)

pair_both : (p : ℕ → ℕ → Bool) (from n first m k next count more : ℕ) → next ≡ first + m → count ≡ pair_count p from n first m → more ≡ pair_count p from n next k → count + more ≡ pair_count p from n first (m + k)
pair_both p from n first m k next count more e a b =
    omega (arith, a, b, ap (λ z. sum_by each (range_with_len z k)) e, ap (sum_by each) (range-append first m k), sum_by-append each (range_with_len first m) (range_with_len (first + m) k))
  where
    each : ℕ → ℕ
    each b = count_by (λ a. p (from + a) b) (range_with_len 0 n)

-- one more row
pub with_none : (g : GridValue) (from n first : ℕ) → ClashesWith g from n first 0 (record { count = 0; drops = 0; rows = 0 })
with_none g from n first = record { count = refl; drops = refl; rows = mask_from_bits (λ a. false) n 0 (λ i l. bit_zero i) (λ i l. bit_zero i) }
  where
    bit_zero : (i : ℕ) → bit_at 0 i ≡ 0
    bit_zero i = bit_at-zero i

pub with_more : (g : GridValue) (from n first m count dropped rows mask dropping new_count new_dropped new_rows : ℕ) → mask ≡ mask_below (λ a. clashes g (from + a) (first + m)) n → dropping ≡ mask_below (λ a. drops g (from + a) (first + m)) n →
    new_count ≡ count + count_ones mask → new_dropped ≡ dropped + count_ones dropping → new_rows ≡ bit_or rows mask →
    ClashesWith g from n first m (record { count = count; drops = dropped; rows = rows }) → ClashesWith g from n first (m + 1) (record { count = new_count; drops = new_dropped; rows = new_rows })
with_more g from n first m count dropped rows mask dropping new_count new_dropped new_rows e f c d r h = record {
  count = pair_more (clashes g) from n first m count mask new_count e c h.count;
  drops = pair_more (drops g) from n first m dropped dropping new_dropped f d h.drops;
  rows = r ∙ ap (λ z. bit_or z mask) h.rows ∙ ap (bit_or (mask_below (λ a. list_any (clashes g (from + a)) (range_with_len first m)) n)) e
      ∙ mask_or n (λ a. list_any (clashes g (from + a)) (range_with_len first m)) (λ a. clashes g (from + a) (first + m)) (λ a. list_any (clashes g (from + a)) (range_with_len first (m + 1))) (λ a. any_more (clashes g (from + a)) first m);
}

-- where no row clashes or drops
pub with_nothing : (g : GridValue) (from n first m : ℕ) → AreApart g from n first m → ClashesWith g from n first m (record { count = 0; drops = 0; rows = 0 })
unfolding lib.Count.ones
with_nothing g from n first zero h = with_none g from n first
with_nothing g from n first (suc m) h =
    let one : m + 1 ≡ suc m = omega arith in
    let more = with_more g from n first m 0 0 0 0 0 0 0 0 (no_mask (λ a. clashes g (from + a) (first + m)) (λ a l. (h a m l (omega arith)).0)) (no_mask (λ a. drops g (from + a) (first + m)) (λ a l. (h a m l (omega arith)).1)) refl refl refl
    (with_nothing g from n first m (λ a b k l. h a b k (omega (arith, l)))) in
    subst (λ z. ClashesWith g from n first z (record { count = 0; drops = 0; rows = 0 })) one more
  where
    no_mask : (p : ℕ → Bool) → ((a : ℕ) → a < n → p a ≡ false) → 0 ≡ mask_below p n
    no_mask p none = mask_from_bits p n 0 (λ i l. bit_at-zero i ∙ sym (ap {B = ℕ} (λ b. cond b 1 0) (none i l))) (λ i l. bit_at-zero i)

-- where no row has a greater number, or none has a lesser one and none ends before one of theirs begins

never : (p : Bool) → (p && false) ≡ false
never true = refl
never false = refl

pub apart_by_more : (g : GridValue) (a b : ℕ) → any_passes true g.columns a b ≡ false → (clashes g a b ≡ false) × (drops g a b ≡ false)
unfolding clashes drops
apart_by_more g a b h = rw h (refl, refl)

pub apart_by_less : (g : GridValue) (a b : ℕ) → any_passes false g.columns a b ≡ false → nat_lt (number g.ends a) (number g.begins b) ≡ false → (clashes g a b ≡ false) × (drops g a b ≡ false)
unfolding clashes drops
apart_by_less g a b h e = rw (h, e) (never (any_passes true g.columns a b), never (any_passes true g.columns a b))

-- of two numbers not each is greater than the other
one_greater : (n x : ℕ) → ((nat_lt x n || false) && (nat_lt n x || false)) ≡ false
one_greater n x = elim (cases_lt n x) [
  | inl under ↦ let e : nat_lt x n ≡ false = le-ltb x n (omega (arith, under)) in ap (λ z. (z || false) && (nat_lt n x || false)) e
  | inr above ↦ let e : nat_lt n x ≡ false = le-ltb n x above in ap (λ z. (nat_lt x n || false) && (z || false)) e ∙ never (nat_lt x n || false)
]

-- in one column no row has both a greater and a lesser number than another
one_way : (columns : List (List ℕ)) (a b : ℕ) → length columns ≤ 1 → (any_passes true columns a b && any_passes false columns a b) ≡ false
unfolding any_passes
one_way [] a b l = refl
one_way (column ∷ []) a b l = one_greater (number column a) (number column b)
one_way (column ∷ other ∷ rest) a b l = absurd (omega (arith, l))

pub apart_by_one : (g : GridValue) (a b : ℕ) → length g.columns ≤ 1 → nat_lt (number g.ends a) (number g.begins b) ≡ false → (clashes g a b ≡ false) × (drops g a b ≡ false)
unfolding clashes drops
apart_by_one g a b l e = rw e (one_way g.columns a b l, never (any_passes true g.columns a b))

-- few rows pass a test against one
pub few_ones : (p : ℕ → Bool) (n mask : ℕ) → mask ≡ mask_below p n → count_ones mask ≤ n
few_ones p n mask e = omega (arith, ap count_ones e, ones_below p n, count_by-le-length p (range_with_len 0 n), length-range_with_len 0 n)

-- the clashes with two ranges of rows that adjoin
pub with_both : (g : GridValue) (from n first m k next count dropped rows more_count more_dropped more_rows : ℕ) → next ≡ first + m → ClashesWith g from n first m (record { count = count; drops = dropped; rows = rows }) →
    ClashesWith g from n next k (record { count = more_count; drops = more_dropped; rows = more_rows }) → ClashesWith g from n first (m + k) (record { count = count + more_count; drops = dropped + more_dropped; rows = bit_or rows more_rows })
with_both g from n first m k next count dropped rows more_count more_dropped more_rows e a b = record {
  count = pair_both (clashes g) from n first m k next count more_count e a.count b.count;
  drops = pair_both (drops g) from n first m k next dropped more_dropped e a.drops b.drops;
  rows = (λ i. bit_or (a.rows i) (b.rows i))
      ∙ ap (λ z. bit_or (mask_below (λ a. list_any (clashes g (from + a)) (range_with_len first m)) n) (mask_below (λ a. list_any (clashes g (from + a)) (range_with_len z k)) n)) e
      ∙ mask_or n (λ a. list_any (clashes g (from + a)) (range_with_len first m)) (λ a. list_any (clashes g (from + a)) (range_with_len (first + m) k)) (λ a. list_any (clashes g (from + a)) (range_with_len first (m + k)))
      (λ a. ap (list_any (clashes g (from + a))) (range-append first m k) ∙ list_any-append (clashes g (from + a)) (range_with_len first m) (range_with_len (first + m) k));
}

pub sum_small : (f : ℕ → ℕ) (k : ℕ) → ((b : ℕ) → f b ≤ k) → (n a : ℕ) → sum_by f (range_with_len a n) ≤ n * k
sum_small f k h zero a = omega arith
sum_small f k h (suc n) a = omega (arith, sum_by-cons f a (range_with_len (a + 1) n), h a, sum_small f k h n (a + 1), mul_suc n k)
  where
    mul_suc : (n k : ℕ) → suc n * k ≡ k + n * k
    mul_suc n k = grind arith

pub few_pairs : (p : ℕ → ℕ → Bool) (from n first m count : ℕ) → n ≤ 512 → count ≡ pair_count p from n first m → count ≤ m * 512
few_pairs p from n first m count l h =
    omega (arith, h, sum_small (λ b. count_by (λ a. p (from + a) b) (range_with_len 0 n)) 512 (λ b. omega (arith, l, count_by-le-length (λ a. p (from + a) b) (range_with_len 0 n), length-range_with_len 0 n)) m first)

-- a sum over pairs, in either order

sum_zero : (xs : List ℕ) → sum_by (λ x. 0) xs ≡ 0
sum_zero [] = refl
sum_zero (x ∷ xs) = omega (arith, sum_by-cons (λ x. 0) x xs, sum_zero xs)

sum_add : (f g : ℕ → ℕ) (xs : List ℕ) → sum_by (λ x. f x + g x) xs ≡ sum_by f xs + sum_by g xs
sum_add f g [] = refl
sum_add f g (x ∷ xs) = omega (arith, sum_by-cons (λ y. f y + g y) x xs, sum_by-cons f x xs, sum_by-cons g x xs, sum_add f g xs)

pub sum_swap : (f : ℕ → ℕ → ℕ) (xs ys : List ℕ) → sum_by (λ y. sum_by (λ x. f x y) xs) ys ≡ sum_by (λ x. sum_by (f x) ys) xs
sum_swap f xs [] = sym (sum_zero xs)
sum_swap f xs (y ∷ ys) =
    sum_by-cons (λ y. sum_by (λ x. f x y) xs) y ys ∙ ap (λ z. sum_by (λ x. f x y) xs + z) (sum_swap f xs ys) ∙ sym (sum_add (λ x. f x y) (λ x. sum_by (f x) ys) xs)
    ∙ sym (λ i. sum_by (λ x. sum_by-cons (f x) y ys i) xs)

pub sum_shift : (h : ℕ → ℕ) (c n d : ℕ) → sum_by (λ a. h (c + a)) (range_with_len d n) ≡ sum_by h (range_with_len (c + d) n)
sum_shift h c zero d = refl
sum_shift h c (suc n) d =
    sum_by-cons (λ a. h (c + a)) d (range_with_len (d + 1) n) ∙ ap (λ z. h (c + d) + z) (sum_shift h c n (d + 1)) ∙ ap (λ z. h (c + d) + sum_by h (range_with_len z n)) assoc ∙ sym (sum_by-cons h (c + d) (range_with_len (c + d + 1) n))
  where
    assoc : c + (d + 1) ≡ c + d + 1
    assoc = omega arith

-- the pairs with all rows, row by row

by_row : (p : ℕ → ℕ → Bool) (g : GridValue) (from n m count : ℕ) → m ≡ length g.begins → count ≡ pair_count p from n 0 m → count ≡ sum_by (λ a. count_by (p a) (rows_of g)) (range_with_len from n)
by_row p g from n m count e h =
    h ∙ ap (pair_count p from n 0) e
    ∙ sum_swap (λ a b. cond (p (from + a) b) 1 0) (range_with_len 0 n) (rows_of g)
    ∙ sum_shift (λ a. count_by (p a) (rows_of g)) from n 0 ∙ ap (λ z. sum_by (λ a. count_by (p a) (rows_of g)) (range_with_len z n)) none
  where
    none : from + 0 ≡ from
    none = omega arith

few_by_row : (p : ℕ → ℕ → Bool) (g : GridValue) (from n : ℕ) → length g.begins ≤ row_limit → sum_by (λ a. count_by (p a) (rows_of g)) (range_with_len from n) ≤ n * row_limit
few_by_row p g from n l = sum_small (λ a. count_by (p a) (rows_of g)) row_limit (λ a. omega (arith, l, count_by-le-length (p a) (rows_of g), length-range_with_len 0 (length g.begins))) n from

pub counted : (g : GridValue) (from n m count : ℕ) → m ≡ length g.begins → count ≡ pair_count (clashes g) from n 0 m → count ≡ sum_by (clash_count g) (range_with_len from n)
unfolding clash_count
counted g = by_row (clashes g) g

pub dropped : (g : GridValue) (from n m count : ℕ) → m ≡ length g.begins → count ≡ pair_count (drops g) from n 0 m → count ≡ sum_by (drop_count g) (range_with_len from n)
unfolding drop_count
dropped g = by_row (drops g) g

pub few_counted : (g : GridValue) (from n : ℕ) → length g.begins ≤ row_limit → sum_by (clash_count g) (range_with_len from n) ≤ n * row_limit
unfolding clash_count
few_counted g = few_by_row (clashes g) g

pub few_dropped : (g : GridValue) (from n : ℕ) → length g.begins ≤ row_limit → sum_by (drop_count g) (range_with_len from n) ≤ n * row_limit
unfolding drop_count
few_dropped g = few_by_row (drops g) g

pub marked : (g : GridValue) (from n m rows : ℕ) → m ≡ length g.begins → rows ≡ mask_below (λ a. list_any (clashes g (from + a)) (range_with_len 0 m)) n → rows ≡ mask_below (λ a. has_clash g (from + a)) n
unfolding has_clash
marked g from n m rows e h = h ∙ ap (λ z. mask_below (λ a. list_any (clashes g (from + a)) (range_with_len 0 z)) n) e

-- the first row that passes

pub find_first : (p : ℕ → Bool) (n from t : ℕ) → t < n → p (from + t) ≡ true → ((a : ℕ) → a < t → p (from + a) ≡ false) → find p (range_with_len from n) ≡ Some (from + t)
find_first p zero from t l h g = absurd (omega (arith, l))
find_first p (suc n) from zero l h g =
    let none : from + 0 ≡ from = omega arith in
    ap (λ b. cond b (Some from) (find p (range_with_len (from + 1) n))) (ap p (sym none) ∙ h) ∙ ap (λ z. Some z) (sym none)
find_first p (suc n) from (suc t) l h g =
    let none : from + 0 ≡ from = omega arith in
    let on : from + 1 + t ≡ from + suc t = omega arith in
    ap (λ b. cond b (Some from) (find p (range_with_len (from + 1) n))) (ap p (sym none) ∙ g 0 (omega arith))
    ∙ find_first p n (from + 1) t (omega (arith, l)) (ap p on ∙ h) (λ a m. let e : from + 1 + a ≡ from + suc a = omega arith in ap p e ∙ g (suc a) (omega (arith, m)))
    ∙ ap (λ z. Some z) on

pub find_nothing : (p : ℕ → Bool) (n from : ℕ) → ((a : ℕ) → a < n → p (from + a) ≡ false) → find p (range_with_len from n) ≡ None
find_nothing p zero from h = refl
find_nothing p (suc n) from h =
    let none : from + 0 ≡ from = omega arith in
    ap (λ b. cond b (Some from) (find p (range_with_len (from + 1) n))) (ap p (sym none) ∙ h 0 (omega arith))
    ∙ find_nothing p n (from + 1) (λ a l. let e : from + 1 + a ≡ from + suc a = omega arith in ap p e ∙ h (suc a) (omega (arith, l)))

pub find_both : (p : ℕ → Bool) (from m k next : ℕ) → next ≡ from + m → find p (range_with_len from (m + k)) ≡ option_or (find p (range_with_len from m)) (find p (range_with_len next k))
find_both p from m k next e = ap (find p) (range-append from m k) ∙ find-append p (range_with_len from m) (range_with_len (from + m) k) ∙ ap (λ z. option_or (find p (range_with_len from m)) (find p (range_with_len z k))) (sym e)

-- a clash by what was read of the two rows
pub clash_by : (g : GridValue) (a b : ℕ) (more before less : Bool) → any_passes true g.columns a b ≡ more → nat_lt (number g.ends a) (number g.begins b) ≡ before → any_passes false g.columns a b ≡ less → clashes g a b ≡ (more && (before || less))
unfolding clashes
clash_by g a b more before less m f l =
    ap (λ z. z && (nat_lt (number g.ends a) (number g.begins b) || any_passes false g.columns a b)) m
    ∙ ap (λ z. more && (z || any_passes false g.columns a b)) f ∙ ap (λ z. more && (before || z)) l

pub before_by : (g : GridValue) (ends begins : List ℕ) (a b end begin : ℕ) → ends ≡ g.ends → begins ≡ g.begins → a < length ends → end ≡ get_or ends a end → begin ≡ get_or begins b 0 → nat_lt (number g.ends a) (number g.begins b) ≡ nat_lt end begin
before_by g ends begins a b end begin e f l h k =
    let first : number g.ends a ≡ end = ap (λ z. number z a) (sym e) ∙ get_or_default ends a 0 end l ∙ sym h in
    let second : number g.begins b ≡ begin = ap (λ z. number z b) (sym f) ∙ sym k in
    ap (λ z. nat_lt z (number g.begins b)) first ∙ ap (nat_lt end) second

-- the first of all rows is the first of a part, where none stands before that part
pub find_in : (p : ℕ → Bool) (m k n : ℕ) → m + k ≤ n → ((b : ℕ) → b < m → p b ≡ false) → is_some (find p (range_with_len m k)) ≡ true → find p (range_with_len 0 n) ≡ find p (range_with_len m k)
find_in p m k n l h s =
    let rest = n - (m + k) in
    let whole : n ≡ m + k + rest = omega (arith, l) in
    let part = find_both p 0 m k m (omega arith) ∙ ap (λ z. option_or z (find p (range_with_len m k))) (find_nothing p m 0 (λ a b. let e : 0 + a ≡ a = omega arith in ap p e ∙ h a b)) in
    ap (λ z. find p (range_with_len 0 z)) whole ∙ find_both p 0 (m + k) rest (m + k) (omega arith) ∙ ap (λ z. option_or z (find p (range_with_len (m + k) rest))) part
    ∙ some_or (find p (range_with_len m k)) (find p (range_with_len (m + k) rest)) s
  where
    some_or : (o other : Option ℕ) → is_some o ≡ true → option_or o other ≡ o
    some_or (Some x) other t = refl
    some_or None other t = absurd (false≢true t)

-- a part in which none is found has none
pub none_found : (p : ℕ → Bool) (n from t : ℕ) → is_some (find p (range_with_len from n)) ≡ false → t < n → p (from + t) ≡ false
none_found p zero from t h l = absurd (omega (arith, l))
none_found p (suc n) from t h l = at (p from) refl t l (λ i g m. none_found p n (from + 1) i g m)
  where
    at : (b : Bool) → p from ≡ b → (t : ℕ) → t < suc n → ((i : ℕ) → is_some (find p (range_with_len (from + 1) n)) ≡ false → i < n → p (from + 1 + i) ≡ false) → p (from + t) ≡ false
    at true e t l rest = absurd (false≢true (sym h ∙ ap (λ b. is_some (cond b (Some from) (find p (range_with_len (from + 1) n)))) e))
    at false e zero l rest = let here : from + 0 ≡ from = omega arith in ap p here ∙ e
    at false e (suc t) l rest =
        let on : from + suc t ≡ from + 1 + t = omega arith in
        ap p on ∙ rest t (sym (ap (λ b. is_some (cond b (Some from) (find p (range_with_len (from + 1) n)))) e) ∙ h) (omega (arith, l))
