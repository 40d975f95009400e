-- What is told by the rows of a block's kinds, each as often as there are rows of it, is told by all of its rows.
use Rattle.std.proofs.Common.{◌≡◌, ℕ, zero, suc, ◌+◌, ◌*◌, ◌<◌, Bool, true, false, cond, ◌&&◌, ◌||◌, List, [], ◌∷◌, refl, sym, ap, ◌∙◌, arith}
use Rattle.std.specs.Prelude.{nat_lt, sum_by, count_by, count_ones}
use Rattle.std.specs.List.{list_any, range_with_len}
use Rattle.std.proofs.lemmas.Bool.{lt-ltb}
use Rattle.std.proofs.lemmas.List.Sums.{sum_by-cons}
use Rattle.snap_grid.specs.declared.kind.Kind.{Kind}
use Rattle.snap_grid.specs.Columns.{GridValue, number, passes, any_passes, clashes, drops}
use Rattle.snap_grid.specs.inside.Kinds.{AreAlike, AreKinds, sum_of_kinds}
use Rattle.snap_masks.specs.Masks.{mask_below}
use Rattle.snap_grid.specs.inside.Clashes.{ClashesWith, pair_count}
use Rattle.snap_masks.proofs.Bits.{mask_below_same, ones_below}

-- whether a row clashes with one that begins after its end, or with one that does not
abbrev pub tells : List (List ℕ) → Bool → ℕ → ℕ → Bool
tells columns apart a b = any_passes true columns a b && (apart || any_passes false columns a b)

passes_alike : (more : Bool) (columns : List (List ℕ)) (a b c : ℕ) → AreAlike columns b c → any_passes more columns a b ≡ any_passes more columns a c
unfolding any_passes
passes_alike more [] a b c like = refl
passes_alike more (column ∷ columns) a b c like = λ i. passes more (number column a) (like 0 (omega arith) i) || passes_alike more columns a b c (λ j l. like (suc j) (omega (arith, l))) i

tells_alike : (columns : List (List ℕ)) (apart : Bool) (a b c : ℕ) → AreAlike columns b c → tells columns apart a b ≡ tells columns apart a c
tells_alike columns apart a b c like = λ i. passes_alike true columns a b c like i && (apart || passes_alike false columns a b c like i)

sum_same : (f g : ℕ → ℕ) (first m : ℕ) → ((i : ℕ) → i < m → f (first + i) ≡ g (first + i)) → sum_by f (range_with_len first m) ≡ sum_by g (range_with_len first m)
sum_same f g first zero h = refl
sum_same f g first (suc m) h =
    let none : first + 0 ≡ first = omega arith in
    let here : f first ≡ g first = ap f (sym none) ∙ h 0 (omega arith) ∙ ap g none in
    let rest = sum_same f g (first + 1) m (λ i l. let on : first + 1 + i ≡ first + suc i = omega arith in ap f on ∙ h (suc i) (omega (arith, l)) ∙ ap g (sym on)) in
    omega (arith, here, rest, sum_by-cons f first (range_with_len (first + 1) m), sum_by-cons g first (range_with_len (first + 1) m))

count_same : (p q : ℕ → Bool) (n : ℕ) → ((a : ℕ) → a < n → p a ≡ q a) → count_by p (range_with_len 0 n) ≡ count_by q (range_with_len 0 n)
count_same p q n h = sym (ones_below p n) ∙ ap count_ones (mask_below_same p q n h) ∙ ones_below q n

-- some row passes a test exactly where the tests add up to something

counted_more : (b rest : Bool) (sum : ℕ) → rest ≡ nat_lt 0 sum → (b || rest) ≡ nat_lt 0 (cond b 1 0 + sum)
counted_more true rest sum h = sym (lt-ltb 0 (1 + sum) (omega arith))
counted_more false rest sum h =
    let none : sum ≡ 0 + sum = omega arith in
    h ∙ ap (nat_lt 0) none

any_counted : (p : ℕ → Bool) (xs : List ℕ) → list_any p xs ≡ nat_lt 0 (sum_by (λ x. cond (p x) 1 0) xs)
any_counted p [] = refl
any_counted p (x ∷ xs) = counted_more (p x) (list_any p xs) (sum_by (λ x. cond (p x) 1 0) xs) (any_counted p xs) ∙ sym (ap (nat_lt 0) (sum_by-cons (λ x. cond (p x) 1 0) x xs))

kind_more : (b rest : Bool) (t sum : ℕ) → 0 < t → rest ≡ nat_lt 0 sum → (b || rest) ≡ nat_lt 0 (t * cond b 1 0 + sum)
kind_more true rest zero sum l h = absurd (omega (arith, l))
kind_more true rest (suc t) sum l h = sym (lt-ltb 0 (suc t * 1 + sum) (omega arith))
kind_more false rest t sum l h =
    let none : sum ≡ t * 0 + sum = omega arith in
    h ∙ ap (nat_lt 0) none

any_of_kinds : (p : ℕ → Bool) (first : ℕ) (kinds : List Kind) → list_any (λ kind. p (first + kind.row)) kinds ≡ nat_lt 0 (sum_of_kinds (λ b. cond (p b) 1 0) first kinds)
any_of_kinds p first [] = refl
any_of_kinds p first (kind ∷ kinds) =
    kind_more (p (first + kind.row)) (list_any (λ kind. p (first + kind.row)) kinds) kind.times (sum_of_kinds (λ b. cond (p b) 1 0) first kinds) kind.some (any_of_kinds p first kinds)
    ∙ sym (ap (nat_lt 0) (sum_by-cons (λ (kind : Kind). kind.times * cond (p (first + kind.row)) 1 0) kind kinds))

module _ (columns : List (List ℕ)) (from n first m : ℕ) (apart : Bool) (kinds : List Kind) (h : AreKinds columns first m kinds) where
  pub sum_told : sum_by (λ b. count_by (λ a. tells columns apart (from + a) b) (range_with_len 0 n)) (range_with_len first m) ≡ sum_of_kinds (λ b. count_by (λ a. tells columns apart (from + a) b) (range_with_len 0 n)) first kinds
  sum_told = h.sums (λ b. count_by (λ a. tells columns apart (from + a) b) (range_with_len 0 n)) (λ b c like i. count_by (λ a. tells_alike columns apart (from + a) b c like i) (range_with_len 0 n))

  any_told : (a : ℕ) → list_any (tells columns apart a) (range_with_len first m) ≡ list_any (λ kind. tells columns apart a (first + kind.row)) kinds
  any_told a =
      any_counted (tells columns apart a) (range_with_len first m)
      ∙ ap (nat_lt 0) (h.sums (λ b. cond (tells columns apart a b) 1 0) (λ b c like i. cond (tells_alike columns apart a b c like i) 1 0))
      ∙ sym (any_of_kinds (tells columns apart a) first kinds)

clashes_told : (g : GridValue) (apart : Bool) (a b : ℕ) → nat_lt (number g.ends a) (number g.begins b) ≡ apart → clashes g a b ≡ tells g.columns apart a b
unfolding clashes
clashes_told g apart a b e = λ i. any_passes true g.columns a b && (e i || any_passes false g.columns a b)

drops_told : (g : GridValue) (apart : Bool) (a b : ℕ) → nat_lt (number g.ends a) (number g.begins b) ≡ apart → drops g a b ≡ (any_passes true g.columns a b && apart)
unfolding drops
drops_told g apart a b e = λ i. any_passes true g.columns a b && e i

module _ (g : GridValue) (from n first m : ℕ) (kinds : List Kind) (h : AreKinds g.columns first m kinds) where
  -- our rows against a block, by its kinds
  pub with_kinds : (apart : Bool) (count rows : ℕ) → ((a i : ℕ) → a < n → i < m → nat_lt (number g.ends (from + a)) (number g.begins (first + i)) ≡ apart) →
      count ≡ sum_of_kinds (λ b. count_by (λ a. tells g.columns apart (from + a) b) (range_with_len 0 n)) first kinds → rows ≡ mask_below (λ a. list_any (λ kind. tells g.columns apart (from + a) (first + kind.row)) kinds) n →
      ClashesWith g from n first m (record { count = count; drops = cond apart count 0; rows = rows })
  with_kinds apart count rows ended c r = record {
    count = c ∙ sym (clash_sum ∙ sum_told g.columns from n first m apart kinds h);
    drops = drop_sum apart count ended c;
    rows = r ∙ mask_below_same (λ a. list_any (λ kind. tells g.columns apart (from + a) (first + kind.row)) kinds) (λ a. list_any (λ b. clashes g (from + a) b) (range_with_len first m)) n
        (λ a l. sym (any_clash a l ∙ any_told g.columns from n first m apart kinds h (from + a)));
  }
    where
      clash_sum : pair_count (clashes g) from n first m ≡ sum_by (λ b. count_by (λ a. tells g.columns apart (from + a) b) (range_with_len 0 n)) (range_with_len first m)
      clash_sum = sum_same (λ b. count_by (λ a. clashes g (from + a) b) (range_with_len 0 n)) (λ b. count_by (λ a. tells g.columns apart (from + a) b) (range_with_len 0 n)) first m
          (λ i l. count_same (λ a. clashes g (from + a) (first + i)) (λ a. tells g.columns apart (from + a) (first + i)) n (λ a k. clashes_told g apart (from + a) (first + i) (ended a i k l)))

      any_clash : (a : ℕ) → a < n → list_any (λ b. clashes g (from + a) b) (range_with_len first m) ≡ list_any (tells g.columns apart (from + a)) (range_with_len first m)
      any_clash a l =
          any_counted (λ b. clashes g (from + a) b) (range_with_len first m)
          ∙ ap (nat_lt 0) (sum_same (λ b. cond (clashes g (from + a) b) 1 0) (λ b. cond (tells g.columns apart (from + a) b) 1 0) first m (λ i k. ap {B = ℕ} (λ z. cond z 1 0) (clashes_told g apart (from + a) (first + i) (ended a i l k))))
          ∙ sym (any_counted (tells g.columns apart (from + a)) (range_with_len first m))

      never : (p : Bool) → (p && false) ≡ false
      never true = refl
      never false = refl

      drop_sum : (apart : Bool) (count : ℕ) → ((a i : ℕ) → a < n → i < m → nat_lt (number g.ends (from + a)) (number g.begins (first + i)) ≡ apart) →
          count ≡ sum_of_kinds (λ b. count_by (λ a. tells g.columns apart (from + a) b) (range_with_len 0 n)) first kinds → cond apart count 0 ≡ pair_count (drops g) from n first m
      drop_sum true count ended c =
          c ∙ sym (sum_told g.columns from n first m true kinds h)
          ∙ sum_same (λ b. count_by (λ a. tells g.columns true (from + a) b) (range_with_len 0 n)) (λ b. count_by (λ a. drops g (from + a) b) (range_with_len 0 n)) first m
          (λ i l. count_same (λ a. tells g.columns true (from + a) (first + i)) (λ a. drops g (from + a) (first + i)) n (λ a k. sym (drops_told g true (from + a) (first + i) (ended a i k l))))
      drop_sum false count ended c =
          sym (no_sum ∙ sum_same (λ b. 0) (λ b. 0) first m (λ i l. refl) ∙ zeros m first)
        where
          zeros : (m first : ℕ) → sum_by (λ b. 0) (range_with_len first m) ≡ 0
          zeros zero first = refl
          zeros (suc m) first = omega (arith, sum_by-cons (λ b. 0) first (range_with_len (first + 1) m), zeros m (first + 1))

          no_count : (n : ℕ) → count_by (λ a. false) (range_with_len 0 n) ≡ 0
          no_count n = counted n 0
            where
              counted : (n a : ℕ) → count_by (λ a. false) (range_with_len a n) ≡ 0
              counted zero a = refl
              counted (suc n) a = counted n (a + 1)

          no_sum : pair_count (drops g) from n first m ≡ sum_by (λ b. 0) (range_with_len first m)
          no_sum = sum_same (λ b. count_by (λ a. drops g (from + a) b) (range_with_len 0 n)) (λ b. 0) first m
              (λ i l. count_same (λ a. drops g (from + a) (first + i)) (λ a. false) n (λ a k. drops_told g false (from + a) (first + i) (ended a i k l) ∙ never (any_passes true g.columns (from + a) (first + i))) ∙ no_count n)
