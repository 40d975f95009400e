-- Columns that rise together, and what their sums tell of two rows.
use Rattle.std.proofs.Common.{◌≡◌, ℕ, zero, suc, ◌+◌, ◌<◌, ◌≤◌, Bool, true, false, ◌||◌, List, [], ◌∷◌, ◌++◌, set, length, length-set, length-append, get_or, refl, sym, ap, ◌∙◌, inl, inr, arith}
use Rattle.std.specs.Prelude.{nat_lt}
use Rattle.std.specs.List.{list_any}
use Rattle.std.proofs.lemmas.Bool.{cases_eq, cases_lt, lt-ltb, le-ltb}
use Rattle.std.proofs.lemmas.List.{get_or-set_other, get_or-set_same, get_or_append_left}
use Rattle.std.proofs.lemmas.List.Folds.{list_any-append}
use Rattle.std.proofs.Math.Bool.{or-false, or_assoc}
use Rattle.std.proofs.Math.Seq.{get_or-append_seam}
use Rattle.snap_grid.specs.Columns.{HaveLength, any_passes, number, passes}
use Rattle.snap_grid.specs.inside.Together.{AreSums, RiseTogether}

-- of two columns that rise together one has the greater number exactly where their sum is greater
pub sums_pass : (ours theirs sums : List ℕ) → RiseTogether ours theirs → AreSums ours theirs sums → (a b : ℕ) →
    passes true (number sums a) (number sums b) ≡ (passes true (number theirs a) (number theirs b) || passes true (number ours a) (number ours b))
sums_pass ours theirs sums rise are a b = elim (cases_lt (number theirs b) (number theirs a)) [
  | inl more ↦ elim (cases_lt (number ours a) (number ours b)) [
    | inl less ↦ absurd (omega (arith, more, rise a b less))
    | inr same ↦ lt-ltb _ _ (omega (arith, more, same, are.sum a, are.sum b)) ∙ sym (ap (λ z. z || nat_lt (number ours b) (number ours a)) (lt-ltb _ _ more))
  ]
  | inr most ↦ ours_alone (elim (cases_lt (number ours b) (number ours a)) [
    | inl more ↦ lt-ltb _ _ (omega (arith, more, rise b a more, are.sum a, are.sum b)) ∙ sym (lt-ltb _ _ more)
    | inr less ↦ le-ltb _ _ (omega (arith, most, less, are.sum a, are.sum b)) ∙ sym (le-ltb _ _ less)
  ]) (le-ltb _ _ most)
]
  where
    ours_alone : nat_lt (number sums b) (number sums a) ≡ nat_lt (number ours b) (number ours a) → nat_lt (number theirs b) (number theirs a) ≡ false →
        nat_lt (number sums b) (number sums a) ≡ (nat_lt (number theirs b) (number theirs a) || nat_lt (number ours b) (number ours a))
    ours_alone h none = h ∙ sym (ap (λ z. z || nat_lt (number ours b) (number ours a)) none)

-- one more column
pub any_pushed : (columns : List (List ℕ)) (column : List ℕ) (a b : ℕ) → any_passes true (columns ++ column ∷ []) a b ≡ (any_passes true columns a b || passes true (number column a) (number column b))
unfolding any_passes
any_pushed columns column a b =
    let test : List ℕ → Bool = λ z. passes true (number z a) (number z b) in
    list_any-append test columns (column ∷ []) ∙ ap (λ z. list_any test columns || z) (or-false (test column))

any_changed : (test : List ℕ → Bool) (columns : List (List ℕ)) (k : ℕ) (new : List ℕ) (more : Bool) → k < length columns → test new ≡ (test (get_or columns k []) || more) → list_any test (set columns k new) ≡ (list_any test columns || more)
any_changed test [] k new more l h = absurd (omega (arith, l))
any_changed test (column ∷ columns) zero new more l h = ap (λ z. z || list_any test columns) h ∙ swapped (test column) more (list_any test columns)
  where
    swapped : (p q r : Bool) → ((p || q) || r) ≡ ((p || r) || q)
    swapped true q r = refl
    swapped false true true = refl
    swapped false true false = refl
    swapped false false true = refl
    swapped false false false = refl
any_changed test (column ∷ columns) (suc k) new more l h = ap (λ z. test column || z) (any_changed test columns k new more (omega (arith, l)) h) ∙ sym (or_assoc (test column) (list_any test columns) more)

-- one column added to another
pub any_added : (columns : List (List ℕ)) (column sums : List ℕ) (k : ℕ) → k < length columns → RiseTogether column (get_or columns k []) → AreSums column (get_or columns k []) sums → (a b : ℕ) →
    any_passes true (set columns k sums) a b ≡ (any_passes true columns a b || passes true (number column a) (number column b))
unfolding any_passes
any_added columns column sums k l rise are a b = any_changed (λ z. passes true (number z a) (number z b)) columns k sums (passes true (number column a) (number column b)) l (sums_pass column (get_or columns k []) sums rise are a b)

-- a column that was the last of some is now among the keys
pub moved : (keys new rest columns all : List (List ℕ)) (column : List ℕ) (a b : ℕ) → columns ≡ rest ++ column ∷ [] → any_passes true new a b ≡ (any_passes true keys a b || passes true (number column a) (number column b)) →
    (any_passes true keys a b || any_passes true columns a b) ≡ any_passes true all a b → (any_passes true new a b || any_passes true rest a b) ≡ any_passes true all a b
moved keys new rest columns all column a b is now before =
    ap (λ z. z || any_passes true rest a b) now
    ∙ turned (any_passes true keys a b) (passes true (number column a) (number column b)) (any_passes true rest a b)
    ∙ ap (λ z. any_passes true keys a b || z) (sym (any_pushed rest column a b) ∙ ap (λ z. any_passes true z a b) (sym is))
    ∙ before
  where
    turned : (p q r : Bool) → ((p || q) || r) ≡ (p || (r || q))
    turned true q r = refl
    turned false true true = refl
    turned false true false = refl
    turned false false true = refl
    turned false false false = refl

pub any_of_none : (columns : List (List ℕ)) (a b : ℕ) → (any_passes true [] a b || any_passes true columns a b) ≡ any_passes true columns a b
unfolding any_passes
any_of_none columns a b = refl

pub none_left : (columns : List (List ℕ)) (a b : ℕ) → (any_passes true columns a b || any_passes true [] a b) ≡ any_passes true columns a b
unfolding any_passes
none_left columns a b = or-false (any_passes true columns a b)

-- all keys have n rows

pub rows_left : (n : ℕ) (rest columns : List (List ℕ)) (column : List ℕ) → columns ≡ rest ++ column ∷ [] → HaveLength n columns → HaveLength n rest
rows_left n rest columns column is h j l =
    ap length (sym (get_or_append_left rest (column ∷ []) [] j l) ∙ ap (λ z. get_or z j []) (sym is)) ∙ h j (omega (arith, l, ap length is, length-append rest (column ∷ [])))

pub rows_of_last : (n : ℕ) (rest columns : List (List ℕ)) (column : List ℕ) → columns ≡ rest ++ column ∷ [] → HaveLength n columns → length column ≡ n
rows_of_last n rest columns column is h =
    ap length (sym (get_or-append_seam rest column [] []) ∙ ap (λ z. get_or z (length rest) []) (sym is)) ∙ h (length rest) (omega (arith, ap length is, length-append rest (column ∷ [])))

pub rows_pushed : (n : ℕ) (keys : List (List ℕ)) (column : List ℕ) → HaveLength n keys → length column ≡ n → HaveLength n (keys ++ column ∷ [])
rows_pushed n keys column h new t l = elim (cases_lt t (length keys)) [
  | inl before ↦ ap length (get_or_append_left keys (column ∷ []) [] t before) ∙ h t before
  | inr behind ↦
      let last : t ≡ length keys = omega (arith, l, behind, length-append keys (column ∷ [])) in
      ap length (ap (λ z. get_or (keys ++ column ∷ []) z []) last ∙ get_or-append_seam keys column [] []) ∙ new
]

pub rows_set : (n : ℕ) (keys : List (List ℕ)) (k : ℕ) (sums : List ℕ) → k < length keys → HaveLength n keys → length sums ≡ n → HaveLength n (set keys k sums)
rows_set n keys k sums within h new t l = elim (cases_eq t k) [
  | inl same ↦ ap length (ap (λ z. get_or (set keys k sums) z []) same ∙ get_or-set_same keys k sums [] within) ∙ new
  | inr other ↦ ap length (get_or-set_other keys k t sums [] other) ∙ h t (omega (arith, l, length-set keys k sums))
]
