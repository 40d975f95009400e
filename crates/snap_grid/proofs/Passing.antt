-- Which rows pass others, by masks of columns.
use Rattle.std.proofs.Common.{◌≡◌, ℕ, ◌+◌, ◌-◌, ◌*◌, ◌<◌, ◌≤◌, Bool, true, false, cond, ◌||◌, List, [], take, drop, length, get_or, refl, sym, ap, ◌∙◌, arith}
use Rattle.std.specs.Prelude.{nat_lt}
use Rattle.std.proofs.lemmas.Bool.{lt-ltb, le-ltb, ltb-true, ltb-false}
use Rattle.std.proofs.lemmas.List.{get_or_default, get_or-drop, get_or-take, length-take, length-drop}
use Rattle.std.proofs.lemmas.List.Folds.{list_any_at, list_any_more}
use Rattle.snap_masks.specs.declared.bounds.Bounds.{Bounds}
use Rattle.snap_grid.specs.Columns.{number, passes, any_passes}
use Rattle.snap_masks.specs.Numbers.{IsBounded}
use Rattle.snap_grid.specs.inside.Kept.{HaveRows, AreRows}

pub row_at : (column : List ℕ) (from n a : ℕ) → a < n → get_or (take n (drop from column)) a 0 ≡ number column (from + a)
row_at column from n a l = get_or-take n (drop from column) a 0 l ∙ get_or-drop from column a 0

pub row_count : (column : List ℕ) (from n : ℕ) → from + n ≤ length column → length (take n (drop from column)) ≡ n
row_count column from n l = omega (arith, l, length-take n (drop from column), length-drop from column)

-- by bounds of the numbers

pub record Within (x : ℕ) (b : Bounds) : Type 0 where
  pub least : b.least ≤ x
  pub greatest : x ≤ b.greatest

pub all_passes : (more : Bool) (n x : ℕ) (ours theirs : Bounds) → Within n ours → Within x theirs → cond more (nat_lt theirs.greatest ours.least) (nat_lt ours.greatest theirs.least) ≡ true → passes more n x ≡ true
all_passes true n x ours theirs a b h = lt-ltb _ _ (omega (arith, a.least, b.greatest, ltb-true _ _ h))
all_passes false n x ours theirs a b h = lt-ltb _ _ (omega (arith, a.greatest, b.least, ltb-true _ _ h))

pub none_passes : (more : Bool) (n x : ℕ) (ours theirs : Bounds) → Within n ours → Within x theirs → cond more (nat_lt theirs.least ours.greatest) (nat_lt ours.least theirs.greatest) ≡ false → passes more n x ≡ false
none_passes true n x ours theirs a b h = le-ltb _ _ (omega (arith, a.greatest, b.least, ltb-false _ _ h))
none_passes false n x ours theirs a b h = le-ltb _ _ (omega (arith, a.least, b.greatest, ltb-false _ _ h))

-- one column that passes is enough
pub any_at : (more : Bool) (columns : List (List ℕ)) (j a s : ℕ) → j < length columns → passes more (number (get_or columns j []) a) (number (get_or columns j []) s) ≡ true → any_passes more columns a s ≡ true
unfolding any_passes
any_at more columns j a s l h = list_any_at (λ column. passes more (number column a) (number column s)) columns j [] l h

pub any_more : (more : Bool) (columns : List (List ℕ)) (j a s : ℕ) → j < length columns →
    any_passes more (take (j + 1) columns) a s ≡ (any_passes more (take j columns) a s || passes more (number (get_or columns j []) a) (number (get_or columns j []) s))
unfolding any_passes
any_more more columns j a s l = list_any_more (λ column. passes more (number column a) (number column s)) columns j [] l

pub any_none : (more : Bool) (a s : ℕ) → any_passes more [] a s ≡ false
unfolding any_passes
any_none more a s = refl

-- where no row passes in the first columns, nor in the next
pub none_more : (more : Bool) (columns : List (List ℕ)) (j a s : ℕ) → j < length columns → any_passes more (take j columns) a s ≡ false → passes more (number (get_or columns j []) a) (number (get_or columns j []) s) ≡ false →
    any_passes more (take (j + 1) columns) a s ≡ false
none_more more columns j a s l before here = any_more more columns j a s l ∙ ap (λ b. b || passes more (number (get_or columns j []) a) (number (get_or columns j []) s)) before ∙ here

-- bounds of the masks of our rows
pub ours_at : (columns masks : List (List ℕ)) (from n all j a : ℕ) (row : List ℕ) (b : Bounds) → AreRows columns masks from n all → j < length columns → row ≡ get_or masks j row →
    ((i : ℕ) → i < length row → (b.least ≤ get_or row i 0) × (get_or row i 0 ≤ b.greatest)) → a < n → Within (number (get_or columns j []) (from + a)) b
ours_at columns masks from n all j a row b rows l e h k =
    let same : row ≡ take n (drop from (get_or columns j [])) = e ∙ get_or_default masks j row [] (omega (arith, l, rows.count)) ∙ rows.masked j l in
    let here : get_or row a 0 ≡ number (get_or columns j []) (from + a) = ap (λ z. get_or z a 0) same ∙ row_at (get_or columns j []) from n a k in
    let size = row_count (get_or columns j []) from n (rows.within j l) in
    let g = h a (omega (arith, k, size, ap length same)) in
    record { least = omega (arith, here, g.0); greatest = omega (arith, here, g.1) }

-- bounds of a block of a column
pub theirs_at : (columns : List (List ℕ)) (j block s : ℕ) (column : List ℕ) (b : Bounds) → j < length columns → IsBounded (get_or columns j column) block b → block * 512 ≤ s → s < block * 512 + 512 → HaveRows columns (s + 1) →
    Within (number (get_or columns j []) s) b
theirs_at columns j block s column b l h m k rows =
    let same = get_or_default columns j column [] l in
    let g = h s m k (omega (arith, rows j l, ap length same)) in
    let here : number (get_or columns j column) s ≡ number (get_or columns j []) s = ap (λ z. number z s) same in
    record { least = omega (arith, here, g.0); greatest = omega (arith, here, g.1) }

pub theirs_count : (columns : List (List ℕ)) (j block count : ℕ) (theirs d : List ℕ) → j < length columns → HaveRows columns (block * 512 + count) → theirs ≡ take (block * 512 + count - block * 512) (drop (block * 512) (get_or columns j d)) → length theirs ≡ count
theirs_count columns j block count theirs d l have t =
    let size : block * 512 + (block * 512 + count - block * 512) ≤ length (get_or columns j d) = omega (arith, have j l, ap length (get_or_default columns j d [] l)) in
    ap length t ∙ row_count (get_or columns j d) (block * 512) (block * 512 + count - block * 512) size ∙ omega arith

-- two numbers of a column that were read, and whether the first passes the second
pub passes_read : (more : Bool) (columns : List (List ℕ)) (j a s n x : ℕ) (ours theirs : List ℕ) (b : Bool) → j < length columns → ours ≡ get_or columns j ours → theirs ≡ get_or columns j theirs → n ≡ get_or ours a 0 → x ≡ get_or theirs s 0 → b ≡ passes more n x →
    passes more (number (get_or columns j []) a) (number (get_or columns j []) s) ≡ b
passes_read more columns j a s n x ours theirs b l o t f g h =
    let first : n ≡ number (get_or columns j []) a = f ∙ ap (λ z. get_or z a 0) (o ∙ get_or_default columns j ours [] l) in
    let second : x ≡ number (get_or columns j []) s = g ∙ ap (λ z. get_or z s 0) (t ∙ get_or_default columns j theirs [] l) in
    ap (λ z. passes more z (number (get_or columns j []) s)) (sym first) ∙ ap (passes more n) (sym second) ∙ sym h
